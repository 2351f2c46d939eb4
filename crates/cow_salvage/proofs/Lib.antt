pub mod Ends
pub mod UsedSlots
pub mod BlankBytes
pub mod Sifts
pub mod Orders
pub mod Adding
pub mod Reading
pub mod Tries
