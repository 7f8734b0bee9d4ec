-- `task::instruction::decodes_for` meets its contract: the tests are the definition's.
-- Assumes nothing.
use Rattle.task.proofs.Laws.Instruction.{test-for}
use Rattle.task.proofs.instruction.decodes_for.Goals as goal

pub returns : goal.returns
returns c = rw c.decodes.ensures (test-for _ _ _ _ _)
