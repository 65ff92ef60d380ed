pub mod AcceptedLaws
