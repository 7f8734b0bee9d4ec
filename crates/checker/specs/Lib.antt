pub mod Answer
pub mod Check
pub mod Kind
pub mod Outcome
pub mod Plan
pub mod Questions
pub mod Trace
pub mod Write
