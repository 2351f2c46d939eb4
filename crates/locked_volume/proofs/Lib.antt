mod Fresh
mod AskedFor
mod Staying
mod Matched
mod Passes
mod Shown
mod Fitting
mod Posting
mod Denied
mod Held
pub mod Moves
pub mod Begins
