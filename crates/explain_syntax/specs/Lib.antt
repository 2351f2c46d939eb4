pub mod Slots
pub mod Forms
pub mod Faults
pub mod Late
pub mod Near
pub mod Sentences
