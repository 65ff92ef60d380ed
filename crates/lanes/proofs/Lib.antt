pub mod LaneLaws
pub mod RedLaws
pub mod MostLaws
