-- `task::bounds::line_count` meets its contract: the product of two bytes, one of them with 1 added, fits 16 bits.
-- Assumes nothing.
use borrow.Author.Rules.{rules}
use Rattle.task.specs.Bounds.{line_count}
use Rattle.task.proofs.bounds.line_count.Goals as goal

pub returns : goal.returns
unfolding line_count
returns c = search rules
