-- `step::facts::has` meets its contract: a fact's bit is the lowest after a shift.
-- Assumes nothing.
use borrow.Author.Rules.{rules}
use Rattle.step.specs.Facts.{has}
use Rattle.step.proofs.facts.has.Goals as goal

pub returns : goal.returns
unfolding has
returns c = search rules
