pub mod RowLaws
pub mod PollLaws
