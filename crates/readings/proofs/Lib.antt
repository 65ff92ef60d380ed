pub mod TimesLaws
pub mod WordsLaws
pub mod NearLaws
