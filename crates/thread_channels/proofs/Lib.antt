pub mod Moves
pub mod Worked
mod Widths
mod BoardMoves
