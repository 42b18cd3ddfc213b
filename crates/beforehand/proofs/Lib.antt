pub mod Cells
pub mod Beforehand
