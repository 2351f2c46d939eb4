pub mod Used
pub mod Kept
pub mod Order
pub mod Spans
pub mod Blanks
pub mod Differences
pub mod Unread
