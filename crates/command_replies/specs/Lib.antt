pub mod Runs
pub mod Refusals
pub mod Ended
pub mod Seated
pub mod Texts
pub mod Answers
