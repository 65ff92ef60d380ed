pub mod BypassLaws
