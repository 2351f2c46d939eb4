pub mod DataRuns
pub mod Ends
pub mod Fronts
