pub mod Used
pub mod Texts
