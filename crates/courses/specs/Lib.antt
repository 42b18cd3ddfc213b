pub mod Course
pub mod Demand3
pub mod Left
