-- The laws of the definitions in specs/, each in a file with the definition's name; in Bytes those of the bytes of a number and of a record, and in Tests
-- what several proofs share.
pub mod Bytes
pub mod Loop
pub mod Numbers
pub mod Record
pub mod Tests
