pub mod Aside
pub mod Flushed
pub mod Listed
pub mod Marked
pub mod Spans
pub mod Waiting
