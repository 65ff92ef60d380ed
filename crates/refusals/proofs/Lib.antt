pub mod NoneLaws
pub mod NumberLaws
