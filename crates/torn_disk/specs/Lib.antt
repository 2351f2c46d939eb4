pub mod Torn
pub mod TornDisk
pub mod Laws
pub mod Calls
