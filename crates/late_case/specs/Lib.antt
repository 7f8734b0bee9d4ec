pub mod Late
pub mod Questions
