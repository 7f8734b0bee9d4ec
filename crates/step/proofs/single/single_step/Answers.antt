-- `step::single::single_step` meets its contract: the task's verdict decides, then the program's; a task that passes has the bounds that a step requires.
-- Assumes nothing.
use mathlib.Core.Path.{refl, ◌∙◌}
use Rattle.std.proofs.lemmas.Result.{err_from_is_err_and}
use Rattle.task.specs.Reading.{refused, accepted, reading}
use Rattle.step.specs.Perform.{stepped}
use Rattle.step.proofs.Laws.Single.{task-refused, program-refused, both-passed}
use Rattle.step.proofs.single.single_step.Goals as goal

pub returns-in_err-layout : goal.returns-in_err-layout
unfolding stepped reading refused
returns-in_err-layout c =
    let p = err_from_is_err_and c.from_residual.result c.from_residual.ensures.1 in
    rw (p.1, p.2) (task-refused _ _ _ _ c.in_err-layout.ensures _ _ refl)

pub returns-in_err-check_program : goal.returns-in_err-check_program
unfolding stepped reading accepted
returns-in_err-check_program c =
    let p = err_from_is_err_and c.from_residual-in_err-check_program.result c.from_residual-in_err-check_program.ensures.1 in
    rw (p.1, p.2) (program-refused _ _ _ _ c.in_ok-layout.ensures _ refl _ c.in_err-check_program.ensures _ _ refl)

pub returns : goal.returns
unfolding reading accepted
returns c =
    let step = rw (c.new.ensures.bytes, c.new.ensures.index, c.new.ensures.offsets) at c.step_once.ensures in
    step ∙ both-passed _ _ c.args.position _ c.in_ok-layout.ensures _ refl _ c.in_ok-check_program.ensures _ refl
