-- `step::head::Head::pushed` meets its contract: line 0 of the procedure is the top one.
-- Assumes nothing.
use mathlib.Core.Path.{refl}
use Rattle.step.specs.Head.{pushed_head}
use Rattle.step.proofs.head.Head.pushed.Goals as goal

pub returns : goal.returns
unfolding pushed_head
returns c = refl
