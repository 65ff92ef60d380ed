pub mod ShownLaws
pub mod StepLaws
pub mod PartLaws
pub mod RunLaws
pub mod SinglyLaws
pub mod BlockLaws
pub mod KnownLaws
pub mod RoomLaws
