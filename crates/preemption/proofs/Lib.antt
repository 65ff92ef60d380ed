pub mod LanesRed
pub mod ClearingRank
