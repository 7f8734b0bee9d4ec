-- `step::head::Head::jumped` meets its contract: one field changes.
-- Assumes nothing.
use mathlib.Core.Path.{refl}
use Rattle.step.specs.Head.{jumped_head}
use Rattle.step.proofs.head.Head.jumped.Goals as goal

pub returns : goal.returns
unfolding jumped_head
returns c = refl
