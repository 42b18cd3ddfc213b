pub mod Fits
pub mod Plan
