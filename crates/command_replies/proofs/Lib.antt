pub mod RunLemmas
pub mod RunWord
pub mod WordsAgain
pub mod RunsAgain
pub mod DataAgain
pub mod RunLine
