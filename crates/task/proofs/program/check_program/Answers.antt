-- `task::program::check_program` meets its contract, question by question.
-- Assumes nothing.
use native.Mathlib.Omega.{arith}
use Rattle.task.proofs.Laws.Program.{size-no, lines-no, presets-no, program-good}
use Rattle.task.proofs.program.check_program.Goals as goal

pub returns-then-program-count : goal.returns-then-program-count
returns-then-program-count c = rw c.at.ensures (size-no _ _ _ _ c.line_count-count.ensures (omega arith))

pub returns-then-allowed-count : goal.returns-then-allowed-count
returns-then-allowed-count c = rw c.at-then-allowed-count.ensures (lines-no _ _ _ _ c.line_count-count.ensures (omega arith) _ c.allowed_lines-allowed.ensures c.if-allowed-count.true)

pub returns-then-held-count : goal.returns-then-held-count
returns-then-held-count c = rw c.at-then-held-count.ensures (presets-no _ _ _ _ c.line_count-count.ensures (omega arith) _ c.allowed_lines-allowed.ensures c.if-allowed-count.false _ c.held_presets-held.ensures c.if-held-count.true)

pub returns : goal.returns
returns c = program-good _ _ _ _ c.line_count-count.ensures (omega arith) _ c.allowed_lines-allowed.ensures c.if-allowed-count.false _ c.held_presets-held.ensures c.if-held-count.false
