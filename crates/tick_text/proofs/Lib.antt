pub mod HexLaws
pub mod LengthLaws
