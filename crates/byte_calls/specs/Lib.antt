pub mod Plans
pub mod Interface
