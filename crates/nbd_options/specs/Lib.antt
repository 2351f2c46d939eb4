pub mod Haggled
