pub mod FaultLemmas
pub mod TellsLemmas
pub mod Behind
pub mod NearLemmas
