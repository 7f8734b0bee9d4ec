-- The laws of the definitions in specs/, each in a file with the definition's name. Answers has what the tests of one step lead to, Kept
-- that a step keeps a possible position possible.
pub mod Answers
pub mod Effects
pub mod Facts
pub mod Head
pub mod Kept
pub mod Moved
pub mod Perform
pub mod Possible
pub mod Ready
pub mod Run
pub mod Single
