-- `task::facts::pairs_before_fault` meets its contract: it makes the pass with the greatest set of facts below `facts`.
-- Assumes nothing.
use native.Mathlib.Omega.{arith}
use Rattle.task.proofs.Laws.Facts.{most-all}
use Rattle.task.proofs.facts.pairs_before_fault.Goals as goal

pub returns-then-facts-ge64 : goal.returns-then-facts-ge64
returns-then-facts-ge64 c = c.pairs_to.ensures _ (most-all _ (omega arith))
