-- `task::facts::literals_at` meets its contract: both sets are there.
-- Assumes nothing.
use Rattle.task.proofs.Laws.Facts.{literals-there}
use Rattle.task.proofs.facts.literals_at.Goals as goal

pub returns : goal.returns
returns c = literals-there c.args.bytes.now c.args.at _ _ c.requires c.eight_at.ensures c.eight_at-2.ensures
