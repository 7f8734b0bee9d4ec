pub mod Bytes
pub mod Pairs
pub mod TaskFile
pub mod WellFormed
