pub mod Demand1
pub mod Views
pub mod Uninterpreted
pub mod Plain
pub mod OneByOne
pub mod Demand2
