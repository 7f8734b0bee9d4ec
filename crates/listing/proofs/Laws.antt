-- The laws of the definitions in specs/, each in a file with the definition's name; in Length how long a report is, and in
-- Line that a word can hold the offset of each byte of a line.
pub mod Decimal
pub mod Length
pub mod Line
pub mod Page
