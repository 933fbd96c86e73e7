pub mod Buffering
pub mod Bytes
pub mod Memory
pub mod Outside
