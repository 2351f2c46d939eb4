pub mod Arrays
pub mod Marks
pub mod InUse
