pub mod Beside
pub mod Keys
pub mod Meaning
