-- `task::index::case_body_at` meets its contract: the bytes of the start are there.
-- Assumes nothing.
use native.Mathlib.Omega.{arith}
use Rattle.records.proofs.Laws.Numbers.{u64-there}
use Rattle.task.proofs.index.case_body_at.Goals as goal

pub returns : goal.returns
returns c = (u64-there c.args.task.now c.args.at _ c.eight_at.ensures (omega arith), c.literals_at.ensures)
