-- `task::program::line_offset` meets its contract: the products of bytes fit a word.
-- Assumes nothing.
use borrow.Author.Rules.{rules}
use Rattle.task.specs.Program.{line_offset}
use Rattle.task.proofs.program.line_offset.Goals as goal

pub returns : goal.returns
unfolding line_offset
returns c = search rules
