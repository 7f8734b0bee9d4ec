-- `capi::pp_check_plan` meets its contract: the value of a plan's answer is small.
-- Assumes nothing.
use mathlib.Core.Path.{ap}
use Rattle.checker.specs.Answer.{Answer}
use Rattle.capi.proofs.Laws.Small.{plan-small}
use Rattle.capi.proofs.pp_check_plan.Goals as goal

pub packed-requires : goal.packed-requires
packed-requires c = rw (ap (λ (r : Answer). r.verdict) c.check_plan.ensures) (plan-small _ _ _)
