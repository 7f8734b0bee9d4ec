-- `task::facts::pairs_to` meets its contract: it is the search for the first pair that fails question 6, 16 bytes a pair.
-- Assumes nothing.
use Prim.Native.Nat.{◌+◌, ◌/◌}
use mathlib.Core.Path.{◌≡◌}
use native.Mathlib.Omega.{arith}
use Rattle.task.specs.Facts.{pairs_before_fault_at, pairs_before_fault}
use Rattle.task.proofs.Laws.Facts.{pair-test_at}
use Rattle.task.proofs.Laws.First.{searching, found-yes, found-no, found_none}
use Rattle.task.proofs.facts.pairs_to.Goals as goal

pub loop-at-init : goal.loop-at-init
loop-at-init c = (omega arith, λ facts m. searching _ _)

pub loop-at-preserved : goal.loop-at-preserved
loop-at-preserved c =
    let next : (c.loop-at.at + 16) / 16 ≡ c.loop-at.at / 16 + 1 = omega arith in (
      omega arith,
      λ facts m.
          rw next
          (found-yes _ _ _ (c.loop-at.invariant.1 facts m) (omega arith)
          (pair-test_at _ _ _ _ _ _ c.loop-at.invariant.0 c.literals_at.ensures (c.consistent_to.ensures facts m) c.if-consistent_to.true)),
    )

pub returns-else-consistent_to : goal.returns-else-consistent_to
unfolding pairs_before_fault pairs_before_fault_at
returns-else-consistent_to c =
    λ facts m.
    found-no _ _ _ (c.loop-at.invariant.1 facts m) (omega arith)
    (pair-test_at _ _ _ _ _ _ c.loop-at.invariant.0 c.literals_at.ensures (c.consistent_to.ensures facts m) c.if-consistent_to.false)

pub returns : goal.returns
unfolding pairs_before_fault pairs_before_fault_at
returns c = λ facts m. found_none _ _ _ (c.loop-at.invariant.1 facts m) (omega arith)
