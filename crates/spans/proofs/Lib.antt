pub mod Decided
pub mod Ends
pub mod Counts
pub mod Sums
