-- The laws that the theorems stand on: lists whose elements all have a property (Every), lists laid end to end and rows of records (Rows); the bytes of each part
-- of a task and what is read where they stand (Parts), and that they are below 256 (Below); a task's rules as the reading asks them (Formed); its preset
-- program (Presets); what the reading has when it has read some of a task's records (SoFar); that what it accepts is a task's file (Read), and that it accepts
-- a task's file (Written). And the parts of a task by their numbers, as they are read at their offsets (Located).
pub mod Below
pub mod Every
pub mod Formed
pub mod Located
pub mod Parts
pub mod Presets
pub mod Read
pub mod Rows
pub mod SoFar
pub mod Written
