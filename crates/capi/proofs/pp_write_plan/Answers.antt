-- `capi::pp_write_plan` meets its contract: the value of a program's answer is small.
-- Assumes nothing.
use mathlib.Core.Path.{ap}
use Rattle.checker.specs.Answer.{Answer}
use Rattle.capi.proofs.Laws.Small.{write-small}
use Rattle.capi.proofs.pp_write_plan.Goals as goal

pub packed-requires : goal.packed-requires
packed-requires c = rw (ap (λ (r : Answer). r.verdict) c.write_plan.ensures) (write-small _ _ _)
