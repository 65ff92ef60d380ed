pub mod NumberLaws
pub mod RefusalLaws
pub mod DiagnosisLaws
