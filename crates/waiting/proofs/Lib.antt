pub mod LaneRank
pub mod Chain
pub mod Rank
pub mod GroupRank
