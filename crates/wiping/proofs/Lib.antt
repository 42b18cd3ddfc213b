pub mod Rising
pub mod Older
pub mod Wiping
