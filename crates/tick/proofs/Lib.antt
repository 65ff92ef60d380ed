pub mod TickLaws
pub mod CourseLaws
pub mod WaitingLaws
pub mod PreemptionLaws
pub mod ServingLaws
