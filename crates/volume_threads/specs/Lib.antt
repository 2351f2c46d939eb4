pub mod Sittings
pub mod Served
pub mod Rigs
pub mod Watching
pub mod Placed
