pub mod Nodes
pub mod Mark
pub mod Kept
pub mod Later
pub mod Bytes
pub mod Worn
