pub mod Grammar
pub mod Printed
pub mod Lawful
pub mod Lines
pub mod Runs
