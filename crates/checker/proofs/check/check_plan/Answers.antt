-- `checker::check::check_plan` meets its contract: the task's verdict decides, then the check against a task that passes.
-- Assumes nothing.
use Rattle.std.proofs.lemmas.Result.{err_from_is_err_and}
use Rattle.checker.proofs.Laws.Answer.{task-refused}
use Rattle.checker.proofs.check.check_plan.Goals as goal

pub returns-in_err-layout : goal.returns-in_err-layout
returns-in_err-layout c =
    let p = err_from_is_err_and c.from_residual.result c.from_residual.ensures.1 in
    rw (p.1, p.2) (task-refused _ _ _ _ c.in_err-layout.ensures)
