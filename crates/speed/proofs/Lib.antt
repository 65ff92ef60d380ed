pub mod SpeedLaws
pub mod TenthsLaws
pub mod SlowerLaws
pub mod EndsLaws
