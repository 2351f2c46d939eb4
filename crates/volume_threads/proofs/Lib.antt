pub mod Answering
mod UnderWay
mod Asking
mod Parts
mod Rows
mod Begun
mod Counting
mod Submitted
pub mod Crossing
