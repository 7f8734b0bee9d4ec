-- `task::instruction::decodes` meets its contract, op by op: the tests are the definition's.
-- Assumes nothing.
use native.Mathlib.Omega.{arith}
use Rattle.task.proofs.Laws.Instruction.{test-empty, test-act, test-goto, test-call, test-end, test-other}
use Rattle.task.proofs.instruction.decodes.Goals as goal

pub returns-in-0 : goal.returns-in-0
returns-in-0 c = test-empty _ _ _ _ (omega arith)

pub returns-in-1 : goal.returns-in-1
returns-in-1 c = test-act _ _ _ _ (omega arith)

pub returns-in-2 : goal.returns-in-2
returns-in-2 c = test-goto _ _ _ _ (omega arith)

pub returns-in-3 : goal.returns-in-3
returns-in-3 c = test-call _ _ _ _ (omega arith)

pub returns-in-4 : goal.returns-in-4
returns-in-4 c = test-end _ _ _ _ (omega arith)

pub returns-in-5-to-255 : goal.returns-in-5-to-255
returns-in-5-to-255 c = test-other _ _ _ _ (omega arith)
