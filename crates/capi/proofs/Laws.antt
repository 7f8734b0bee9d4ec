-- Laws of the definitions of the crates below that only this interface needs.
pub mod Place
pub mod Small
