-- The laws of the definitions in specs/, each in a file with the definition's name; those of Reading's loop are in Turns, what its turns
-- keep is in Kept, what a task that passes holds in Passed, the numbers of its answer in Numbers, the three bytes of an instruction in Triple, and
-- what they spell in Spelled.
pub mod Bounds
pub mod Facts
pub mod First
pub mod Instruction
pub mod Kept
pub mod Numbers
pub mod Passed
pub mod Program
pub mod Reading
pub mod Spelled
pub mod Triple
pub mod Turns
pub mod Verdict
