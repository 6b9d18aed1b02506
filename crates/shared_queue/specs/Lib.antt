pub mod Sharing
pub mod Dealing
pub mod Drawing
pub mod Looking
pub mod Crowds
pub mod Spans
pub mod Rankings
