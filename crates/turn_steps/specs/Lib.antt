pub mod Left
pub mod Told
pub mod Times
pub mod Has
pub mod Ranges
pub mod Counts
pub mod Laws
