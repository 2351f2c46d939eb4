pub mod Cells
pub mod Marks
