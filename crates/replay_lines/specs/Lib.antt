pub mod NoTick
pub mod Answer
pub mod Replay
pub mod Lines
