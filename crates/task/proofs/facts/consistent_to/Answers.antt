-- `task::facts::consistent_to` meets its contract: without a fact in both sets, their union is no greater than the greatest set exactly if both are not.
-- Assumes nothing.
use borrow.Author.Rules.{rules}
use Rattle.task.proofs.Laws.Facts.{named-twice, pair-below}
use Rattle.task.proofs.facts.consistent_to.Goals as goal

pub returns-then-literals-ne0 : goal.returns-then-literals-ne0
returns-then-literals-ne0 c = λ facts m. named-twice facts _ c.if-literals-ne0.true

pub returns : goal.returns
returns c = λ facts m. pair-below facts _ c.if-literals-ne0.false (search rules) (search rules) _ m
