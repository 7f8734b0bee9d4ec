-- `step::head::Head::popped` meets its contract: the frame below is the top one.
-- Assumes nothing.
use mathlib.Core.Path.{refl}
use Rattle.step.specs.Head.{popped_head}
use Rattle.step.proofs.head.Head.popped.Goals as goal

pub returns : goal.returns
unfolding popped_head
returns c = refl
