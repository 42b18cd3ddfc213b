pub mod Walks
pub mod Trails
pub mod Inside
pub mod Told
pub mod Members
