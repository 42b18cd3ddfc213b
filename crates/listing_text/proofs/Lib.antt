pub mod Over
pub mod Lines
pub mod Listed
pub mod Meaning
