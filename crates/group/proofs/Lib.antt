pub mod PreemptionLaws
pub mod IntervalLaws
pub mod RangeLaws
pub mod SearchLaws
