-- `task::facts::most` meets its contract: the lowest ones of a word are the greatest such set.
-- Assumes nothing.
use native.Mathlib.Omega.{arith}
use Rattle.task.proofs.Laws.Facts.{most-shifted, most-all}
use Rattle.task.proofs.facts.most.Goals as goal

pub returns-then-facts-ge64 : goal.returns-then-facts-ge64
returns-then-facts-ge64 c = most-all _ (omega arith)

pub returns : goal.returns
returns c = λ set h. most-shifted _ (omega arith) set h
