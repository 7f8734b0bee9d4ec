pub mod Many
pub mod Running
