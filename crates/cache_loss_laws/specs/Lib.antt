pub mod Lasting
pub mod Kept
pub mod Calm
pub mod Merging
pub mod Closing
pub mod Lost
pub mod Clauses
