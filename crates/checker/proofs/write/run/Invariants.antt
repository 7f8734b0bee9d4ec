-- `checker::write::run` meets its contract: the head and the callers beside it stand for a position from which the run comes to what the whole
-- run comes to, and the steps done have their frames in the trace.
-- Assumes nothing.
use Prim.Native.Nat.{◌-◌}
use mathlib.Core.List.{map}
use Rattle.checker.specs.Trace.{frame_of}
use Rattle.checker.proofs.Laws.Running.{Running}
use Rattle.checker.proofs.write.run.Given as goal

abbrev pub invariant-loop-head : goal.invariant-loop-head
invariant-loop-head l = let t = l.fn.task in Running t.bytes.now (record { index = t.index; offsets = t.offsets.now; presets = l.presets }) l.program (map frame_of l.trace) l.head l.callers

abbrev pub decreases-loop-head : goal.decreases-loop-head
decreases-loop-head l = l.fn.task.index.bounds.steps - l.head.steps
