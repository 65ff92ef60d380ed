pub mod ServingRank
pub mod BypassedLaws
