pub mod Entry
pub mod InForce
pub mod PastMidnight
