pub mod Demand2
pub mod Demand3
pub mod LateCase
pub mod Laws
pub mod ManySteps
pub mod NoClash
pub mod SingleSteps
pub mod Starred
