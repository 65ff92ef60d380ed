pub mod DigitLaws
pub mod WordLaws
