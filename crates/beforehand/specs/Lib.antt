pub mod Beforehand
