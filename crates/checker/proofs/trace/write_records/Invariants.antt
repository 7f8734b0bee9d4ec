-- `checker::trace::write_records` meets its contract: question 29 asks for the plan's bytes, and behind k steps `lines` and the buffer's bytes are
-- those of the frames of the trace's first k bytes.
-- Assumes nothing.
use mathlib.Core.List.{map}
use Rattle.checker.specs.Trace.{frame_of}
use Rattle.checker.proofs.Laws.Records.{Putting}
use Rattle.checker.proofs.trace.write_records.Given as goal

abbrev pub invariant-loop-k : goal.invariant-loop-k
invariant-loop-k l = Putting l.bounds l.program l.fn.presets (map frame_of l.trace) l.initial.buffer l.k l.lines l.buffer
