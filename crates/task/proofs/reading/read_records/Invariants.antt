-- `task::reading::read_records` meets its contract: what is left to read at each turn is what the whole file reads to.
-- Assumes nothing.
use Prim.Native.Nat.{◌-◌}
use mathlib.Core.Path.{◌≡◌}
use lib.ListN.{length}
use Rattle.task.specs.Outcome.{progress, state}
use Rattle.task.specs.Reading.{read_task}
use Rattle.task.proofs.Laws.Passed.{Reached}
use Rattle.task.proofs.Laws.Turns.{from}
use Rattle.task.proofs.reading.read_records.Given as goal

abbrev pub invariant-loop-record : goal.invariant-loop-record
invariant-loop-record l = let s = state (progress l.p) l.offsets l.presets in (from l.task s ≡ read_task l.task) × Reached l.task s

abbrev pub decreases-loop-record : goal.decreases-loop-record
decreases-loop-record l = length l.task - l.p.at
