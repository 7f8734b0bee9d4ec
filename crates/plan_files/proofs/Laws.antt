-- The law of the definitions in specs/: how long what is printed is (Printed).
pub mod Printed
