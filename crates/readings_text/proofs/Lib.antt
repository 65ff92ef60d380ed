pub mod LanesLaws
pub mod LengthLaws
