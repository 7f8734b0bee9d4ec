-- `task::instruction::put_triple` meets its contract: the three bytes are there.
-- Assumes nothing.
use mathlib.Core.Path.{refl}
use Rattle.task.specs.Instruction.{with_triple}
use Rattle.task.proofs.instruction.put_triple.Goals as goal

pub returns : goal.returns
unfolding with_triple
returns c = refl
