pub mod Due
pub mod Held
pub mod InStep
pub mod Lists
pub mod Looks
pub mod Merging
pub mod Steps
pub mod Devices
