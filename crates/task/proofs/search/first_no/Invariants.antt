-- `task::search::first_no` meets its contract: the test says yes at every place passed.
-- Assumes nothing.
use Rattle.std.proofs.Common.{ℕ, ◌<◌, true}
use Rattle.task.proofs.search.first_no.Given as goal

abbrev pub invariant-loop-k : goal.invariant-loop-k
invariant-loop-k g l = (j : ℕ) → j < l.k → goal.F-post g l.test j true
