-- `step::facts::holds` meets its contract: no fact that must be true is missing, none that must be false is there.
-- Assumes nothing.
use borrow.Author.Rules.{rules}
use Rattle.step.proofs.Laws.Facts.{holds-masked}
use Rattle.step.proofs.facts.holds.Goals as goal

pub returns : goal.returns
returns c = holds-masked _ _ (search rules) (search rules) (search rules)
