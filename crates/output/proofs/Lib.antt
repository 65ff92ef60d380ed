pub mod OutputLaws
pub mod SetsLaws
