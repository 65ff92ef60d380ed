pub mod LengthLaws
pub mod LinesLaws
pub mod PollLaws
pub mod ReplayLaws
