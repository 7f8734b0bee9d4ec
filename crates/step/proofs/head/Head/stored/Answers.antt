-- `step::head::Head::stored` meets its contract: the frame that is left behind is set, and the head is put over the frames.
-- Assumes nothing.
use Rattle.step.specs.Head.{stored}
use Rattle.step.proofs.head.Head.stored.Goals as goal

pub returns : goal.returns
unfolding stored
returns c = rw (c.over.ensures, c.number.ensures.0, c.left_behind.ensures)
