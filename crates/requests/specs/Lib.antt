pub mod Requests
pub mod Sites
