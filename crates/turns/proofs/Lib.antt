pub mod FirstLaws
pub mod TurnLaws
