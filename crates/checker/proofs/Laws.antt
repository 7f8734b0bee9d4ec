-- The laws of the definitions in specs/: what the tests of a record lead to is in Check, the loop over the records in Turns and Follow, and the answers
-- to task, plan or program, and buffer in Answer; what verdict they can be is in Verdict. The writer's run is in Write, its trace in Trace, its loop in Running, and the
-- plan from the trace in Records. The head and the callers after a step, for both loops, are in Stepping.
pub mod Answer
pub mod Check
pub mod Follow
pub mod Records
pub mod Running
pub mod Stepping
pub mod Trace
pub mod Turns
pub mod Verdict
pub mod Write
