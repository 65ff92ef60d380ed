pub mod Desk
pub mod Tick
pub mod InWords
pub mod Calls
pub mod Removed
pub mod Polling
pub mod Longest
pub mod Worked
