pub mod DecimalLaws
pub mod ItemLaws
pub mod JoinedLaws
pub mod PutLaws
pub mod PutsLaws
