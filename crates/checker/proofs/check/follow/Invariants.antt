-- `checker::check::follow` meets its contract: what the plan comes to from each record on is what the whole plan comes to; the head and the
-- callers stand for the position, which stays possible.
-- Assumes nothing.
use Prim.Native.Nat.{◌-◌}
use lib.ListN.{length}
use Rattle.checker.specs.Check.{follow}
use Rattle.checker.proofs.Laws.Follow.{Following}
use Rattle.checker.proofs.check.follow.Given as goal

abbrev pub invariant-loop-read : goal.invariant-loop-read
invariant-loop-read l = let t = l.fn.task in Following t.bytes.now t.index t.offsets.now l.plan (follow t.bytes.now (record { index = t.index; offsets = t.offsets.now; presets = l.initial.program }) l.plan) l.at l.program l.head l.callers

abbrev pub decreases-loop-read : goal.decreases-loop-read
decreases-loop-read l = length l.plan - l.at
