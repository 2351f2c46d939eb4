pub mod Source
pub mod Text
