-- `task::facts::pairs_to` meets its contract: it is the search for the first pair that fails question 6, 16 bytes a pair.
-- Assumes nothing.
use Prim.Native.Nat.{ℕ, ◌-◌, ◌/◌, ◌%◌}
use mathlib.Core.Path.{◌≡◌}
use lib.ListN.{length}
use Rattle.task.specs.Facts.{Greatest, pair_consistent}
use Rattle.task.proofs.Laws.First.{Searching}
use Rattle.task.proofs.facts.pairs_to.Given as goal

abbrev pub invariant-loop-at : goal.invariant-loop-at
invariant-loop-at l = (l.at % 16 ≡ 0) × ((facts : ℕ) → Greatest facts l.most → Searching (pair_consistent facts l.body 0) (length l.body / 16) (l.at / 16))

abbrev pub decreases-loop-at : goal.decreases-loop-at
decreases-loop-at l = l.end - l.at
