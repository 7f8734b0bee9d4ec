-- `step::head::Head::starting` meets its contract: the facts are those of the case that is read.
-- Assumes nothing.
use mathlib.Core.Path.{ap}
use Rattle.task.specs.declared.index.Case.{Case}
use Rattle.step.specs.Head.{starting_head}
use Rattle.step.proofs.head.Head.starting.Goals as goal

pub returns : goal.returns
unfolding starting_head
returns c = ap (λ (x : Case). starting_head x.start) c.case_at.ensures
