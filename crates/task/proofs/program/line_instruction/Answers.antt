-- `task::program::line_instruction` meets its contract: the line's bytes are an instruction, and it is the one that they spell.
-- Assumes nothing.
use Rattle.task.proofs.Laws.Program.{line-spells, line-spelled}
use Rattle.task.proofs.program.line_instruction.Goals as goal

pub spelled-requires : goal.spelled-requires
spelled-requires c = line-spells _ _ _ _ c.requires.1 _ _ c.line_offset.ensures c.triple_at.ensures

pub returns : goal.returns
returns c = line-spelled _ _ _ _ c.requires.1 _ _ c.line_offset.ensures c.triple_at.ensures _ c.spelled.ensures
