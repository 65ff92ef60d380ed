pub mod DiagnosisLaws
