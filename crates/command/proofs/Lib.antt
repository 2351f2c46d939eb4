pub mod Cut
pub mod Kept
pub mod LineSaid
pub mod Verbs
pub mod Printed
pub mod Par
pub mod BlockKept
