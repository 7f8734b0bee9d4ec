-- `step::single::step_in_place` meets its contract: the record has the next position, or is left as it was.
-- Assumes nothing.
use Rattle.std.proofs.lemmas.Result.{err_from_is_err_and}
use Rattle.step.specs.Perform.{stepped, unchanged}
use Rattle.step.proofs.single.step_in_place.Goals as goal

pub returns-in-Some : goal.returns-in-Some
unfolding stepped
returns-in-Some c = rw c.in-Some.is at c.in_ok-next.ensures

pub returns-in-None : goal.returns-in-None
unfolding stepped unchanged
returns-in-None c = rw c.in-None.is at c.in_ok-next.ensures

pub returns-in_err-next : goal.returns-in_err-next
unfolding stepped unchanged
returns-in_err-next c =
    let p = err_from_is_err_and c.from_residual.result c.from_residual.ensures.1 in
    rw (p.1, p.2) c.in_err-next.ensures
