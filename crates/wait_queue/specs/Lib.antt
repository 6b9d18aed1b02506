pub mod Earliest
pub mod Laws
pub mod Looks
pub mod Timers
