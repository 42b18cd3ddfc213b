pub mod Decided
pub mod Whole
pub mod Counting
