pub mod Turns
pub mod InForceLaws
pub mod WayBack
pub mod PastMidnightLaws
