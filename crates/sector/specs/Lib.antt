pub mod Bytes
pub mod Number
pub mod Refusal
