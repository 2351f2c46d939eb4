pub mod Below
pub mod DiskBelow
pub mod StackSizes
pub mod Listed
