pub mod Homed
pub mod Tasks
pub mod Sound
pub mod Closed
