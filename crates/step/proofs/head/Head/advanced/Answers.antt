-- `step::head::Head::advanced` meets its contract: a jump to the next line.
-- Assumes nothing.
use Rattle.step.specs.Head.{advanced_head, jumped_head, caller_of}
use Rattle.step.proofs.head.Head.advanced.Goals as goal

pub returns : goal.returns
unfolding advanced_head jumped_head caller_of
returns c = c.jumped.ensures
