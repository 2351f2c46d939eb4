pub mod Ahead
pub mod Greatest
pub mod Small
