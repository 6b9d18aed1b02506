pub mod Decided
pub mod HistoryTest
pub mod Readings
pub mod TurnReadings
mod Worked
pub mod Times
