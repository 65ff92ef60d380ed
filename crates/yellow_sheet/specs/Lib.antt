pub mod Sheet
pub mod Answer
pub mod Complaint
