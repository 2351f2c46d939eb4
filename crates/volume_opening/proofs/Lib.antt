pub mod Seen
mod Attached
mod Takes
