-- `checker::check::line_fits` meets its contract: question 18 of a write, and of a repeat.
-- Assumes nothing.
use mathlib.Core.Path.{◌∙◌}
use Rattle.checker.specs.Check.{line_fits}
use Rattle.checker.proofs.Laws.Check.{line-repeats}
use Rattle.checker.proofs.check.line_fits.Goals as goal

pub returns-in-Write : goal.returns-in-Write
unfolding line_fits
returns-in-Write c = rw c.in-Write.is

pub returns-in-Repeat : goal.returns-in-Repeat
returns-in-Repeat c = c.eq.ensures ∙ line-repeats _ _ c.requires _ c.in-Repeat.is _
