pub mod Answering
pub mod Asking
pub mod Looking
pub mod Planned
pub mod Played
pub mod Running
pub mod Taking
pub mod Spared
