pub mod ClockLaws
pub mod EntryLaws
pub mod RateLaws
pub mod LevelLaws
