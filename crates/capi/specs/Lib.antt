pub mod Case
pub mod Packed
