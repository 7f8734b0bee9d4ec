-- `task::program::preset_held` meets its contract: a line whose preset's op is 0 is not preset, and any other is compared with its preset.
-- Assumes nothing.
use mathlib.Core.Path.{◌∙◌}
use Rattle.task.proofs.Laws.Program.{preset-none, preset-test}
use Rattle.task.proofs.program.preset_held.Goals as goal

pub returns-then-op-eq0 : goal.returns-then-op-eq0
returns-then-op-eq0 c = preset-none _ _ _ _ c.byte_at-op.ensures c.if-op-eq0.true

pub returns : goal.returns
returns c = c.eq.ensures ∙ preset-test _ _ _ _ c.byte_at-op.ensures c.if-op-eq0.false _ _ _ c.byte_at.ensures c.byte_at-2.ensures c.triple_at.ensures
