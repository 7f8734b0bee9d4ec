-- `task::program::allowed_lines` meets its contract: it is the search for the first line that is not allowed. The line's number in its
-- procedure is counted along.
-- Assumes nothing.
use Prim.Native.Nat.{◌+◌, ◌%◌}
use mathlib.Core.Path.{◌≡◌}
use Rattle.task.specs.Program.{line_allowed}
use Rattle.task.proofs.Laws.First.{Searching}
use Rattle.task.proofs.program.allowed_lines.Given as goal

abbrev pub invariant-loop-k : goal.invariant-loop-k
invariant-loop-k l = Searching (line_allowed l.index l.program) l.count l.k × (l.line ≡ l.k % (l.index.bounds.last + 1))
