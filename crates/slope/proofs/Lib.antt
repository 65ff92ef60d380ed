pub mod SizeLaws
pub mod SlopeLaws
pub mod KinematicLaws
pub mod ClaimLaws
pub mod WorkedLaws
