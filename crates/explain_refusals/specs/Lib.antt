pub mod Kinds
pub mod Naming
pub mod Creating
pub mod Reasons
pub mod Told
