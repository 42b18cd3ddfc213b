pub mod Edits
pub mod Edited
