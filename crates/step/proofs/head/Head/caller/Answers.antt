-- `step::head::Head::caller` meets its contract: the line grows.
-- Assumes nothing.
use mathlib.Core.Path.{refl}
use Rattle.step.specs.Head.{caller_of}
use Rattle.step.proofs.head.Head.caller.Goals as goal

pub returns : goal.returns
unfolding caller_of
returns c = refl
