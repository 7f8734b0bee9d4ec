-- `task::instruction::spelled` meets its contract, op by op.
-- Assumes nothing.
use Rattle.task.proofs.Laws.Spelled.{spelled-act, spelled-goto, spelled-call, spelled-end, spelled-empty}
use native.Mathlib.Omega.{arith}
use Rattle.task.proofs.instruction.spelled.Goals as goal

pub returns-in-1 : goal.returns-in-1
returns-in-1 c = spelled-act _ c.requires c.in-1.is

pub returns-in-2 : goal.returns-in-2
returns-in-2 c = spelled-goto _ c.requires c.in-2.is

pub returns-in-3 : goal.returns-in-3
returns-in-3 c = spelled-call _ c.requires c.in-3.is

pub returns-in-4 : goal.returns-in-4
returns-in-4 c = spelled-end _ c.requires c.in-4.is

pub returns-in_default : goal.returns-in_default
returns-in_default c = spelled-empty _ c.requires (omega arith) (omega arith) (omega arith) (omega arith)
