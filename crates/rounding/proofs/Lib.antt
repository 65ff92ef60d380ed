pub mod UpLaws
