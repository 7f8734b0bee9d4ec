-- `capi::pp_steps` meets its contract: the place of the answer to a number of steps is small.
-- Assumes nothing.
use mathlib.Core.Path.{ap}
use Rattle.steps.specs.Many.{StepsTaken}
use Rattle.capi.proofs.Laws.Small.{steps-small}
use Rattle.capi.proofs.pp_steps.Goals as goal

pub packed_steps-requires : goal.packed_steps-requires
packed_steps-requires c = rw (ap (λ (r : StepsTaken). r.answer.verdict) c.many_steps_in_place.ensures) (steps-small _ _ _ _)
