-- `task::reading::ask_header` meets its contract: question 5 decides.
-- Assumes nothing.
use Rattle.task.proofs.Laws.Reading.{header-no, header-yes}
use Rattle.task.proofs.reading.ask_header.Goals as goal

pub returns-then-in_range : goal.returns-then-in_range
returns-then-in_range c = λ p next o q. header-yes _ _ _ next o q _ _ c.bounds_at.ensures c.in_range.ensures c.if-in_range.true

pub returns : goal.returns
returns c = λ p next o q. header-no _ _ _ next o q _ _ c.bounds_at.ensures c.in_range.ensures c.if-in_range.false
