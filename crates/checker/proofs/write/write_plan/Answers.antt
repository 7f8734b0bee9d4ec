-- `checker::write::write_plan` meets its contract: the task's verdict decides, then the program's, then what the run comes to.
-- Assumes nothing.
use mathlib.Core.Path.{◌∙◌}
use Rattle.std.proofs.lemmas.Result.{err_from_is_err_and}
use Rattle.checker.proofs.Laws.Answer.{task-no, program-refused, run-answers}
use Rattle.checker.proofs.write.write_plan.Goals as goal

pub returns-in_err-layout : goal.returns-in_err-layout
returns-in_err-layout c =
    let p = err_from_is_err_and c.from_residual.result c.from_residual.ensures.1 in
    rw (p.1, p.2) (task-no _ _ _ _ c.in_err-layout.ensures)

pub returns-in_err-check_program : goal.returns-in_err-check_program
returns-in_err-check_program c =
    let p = err_from_is_err_and c.from_residual-in_err-check_program.result c.from_residual-in_err-check_program.ensures.1 in
    rw (p.1, p.2) (program-refused _ _ _ _ c.in_ok-layout.ensures _ c.in_err-check_program.ensures)

pub returns : goal.returns
returns c =
    let run = rw (c.new-held.ensures.bytes, c.new-held.ensures.index, c.new-held.ensures.offsets) at c.run.ensures in
    run ∙ run-answers _ _ c.args.buffer.now _ c.in_ok-layout.ensures c.in_ok-check_program.ensures
