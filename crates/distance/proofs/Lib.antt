pub mod Rings
pub mod Far
pub mod Noticed
pub mod PutBack
pub mod Idents
pub mod Outside
pub mod Distance
