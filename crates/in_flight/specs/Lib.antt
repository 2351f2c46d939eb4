pub mod Copies
pub mod Flushed
pub mod Kinds
pub mod Routes
pub mod Due
