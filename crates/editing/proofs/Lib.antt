pub mod Parts
pub mod Several
