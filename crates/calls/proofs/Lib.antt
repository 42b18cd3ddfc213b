pub mod Answers
pub mod Cases
pub mod Numbers
pub mod Sites
pub mod Worn
pub mod Beforehand
pub mod Calls
