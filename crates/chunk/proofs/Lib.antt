pub mod Limits
pub mod Chunks
pub mod Cuts
pub mod Whole
pub mod PiecePlaces
pub mod Runs
pub mod Wider
pub mod Over
