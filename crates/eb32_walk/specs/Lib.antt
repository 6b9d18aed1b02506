pub mod Ends
pub mod Heads
pub mod Search
pub mod Worked
