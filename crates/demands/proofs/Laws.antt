-- The laws that the theorems stand on: the bytes of a plan (Plan), a program's lines (Program, Presets, Held), one instruction by the
-- compiled task's rules (Runs), one step of a plan (Steps) and of a program (Makes), a plan that is followed and the run of the program that it gives
-- (Heart, Leads), a run through all cases, cut into the runs on each case by itself (Cases), and the writer: its steps' kinds (Kinds), its run (Writes)
-- and its answer (Finish).
pub mod Cases
pub mod Finish
pub mod Heart
pub mod Held
pub mod Kinds
pub mod Leads
pub mod Longer
pub mod Makes
pub mod Plan
pub mod Presets
pub mod Program
pub mod Runs
pub mod Steps
pub mod Writes
