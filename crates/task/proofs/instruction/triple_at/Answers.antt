-- `task::instruction::triple_at` meets its contract: the three bytes are there.
-- Assumes nothing.
use borrow.Author.Rules.{rules}
use Rattle.task.specs.Instruction.{triple_at}
use Rattle.task.proofs.instruction.triple_at.Goals as goal

pub returns : goal.returns
unfolding triple_at
returns c = search rules
