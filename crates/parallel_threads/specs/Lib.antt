pub mod Tasks
pub mod Left
