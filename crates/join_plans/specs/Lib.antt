pub mod JoinedSite
pub mod Report
