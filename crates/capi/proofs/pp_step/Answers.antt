-- `capi::pp_step` meets its contract: the value of a step's answer is small.
-- Assumes nothing.
use mathlib.Core.Path.{ap}
use Rattle.step.specs.Perform.{Stepped}
use Rattle.capi.proofs.Laws.Small.{step_small}
use Rattle.capi.proofs.pp_step.Goals as goal

pub packed-requires : goal.packed-requires
packed-requires c = rw (ap (λ (r : Stepped). r.verdict) c.step_in_place.ensures) (step_small _ _ _)
