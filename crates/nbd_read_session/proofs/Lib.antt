pub mod Hears
pub mod Wholes
pub mod SoFar
pub mod OneAnswer
pub mod Blanks
pub mod Errors
pub mod Calm
