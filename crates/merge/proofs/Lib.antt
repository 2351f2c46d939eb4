pub mod Changes
pub mod Groups
pub mod Looks
pub mod Stages
pub mod Steps
