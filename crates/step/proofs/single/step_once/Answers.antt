-- `step::single::step_once` meets its contract: question 31 decides, then whether the run is finished, then question 14.
-- Assumes nothing.
use Rattle.std.proofs.Common.{rules}
use Rattle.std.proofs.lemmas.Result.{err_from_is_err_and}
use Rattle.step.specs.Perform.{stepped}
use Rattle.step.proofs.Laws.Single.{step-impossible, step-finished, step-late, step-no, step-made}
use Rattle.step.proofs.single.step_once.Goals as goal

pub returns-then-not-possible : goal.returns-then-not-possible
unfolding stepped
returns-then-not-possible c =
    rw c.at.ensures (step-impossible _ _ _ _ _ _ c.possible.ensures c.if-not-possible.true)

pub returns-then-position-eq0 : goal.returns-then-position-eq0
unfolding stepped
returns-then-position-eq0 c =
    step-finished _ _ _ _ _ _ c.possible.ensures c.if-not-possible.false c.if-position-eq0.true

pub returns-then-task-position : goal.returns-then-task-position
unfolding stepped
returns-then-task-position c =
    rw c.at-then-task-position.ensures
    (step-late _ _ _ _ _ _ c.possible.ensures c.if-not-possible.false c.if-position-eq0.false c.if-task-position.true)

pub returns-in_err-next : goal.returns-in_err-next
unfolding stepped
returns-in_err-next c =
    let p = err_from_is_err_and c.from_residual.result c.from_residual.ensures.1 in
    rw (p.1, p.2)
    (step-no _ _ _ _ _ _ c.possible.ensures c.if-not-possible.false c.if-position-eq0.false c.if-task-position.false c.run_line.result c.run_line.ensures _
    (search rules))

pub returns : goal.returns
unfolding stepped
returns c =
    step-made _ _ _ _ _ _ c.possible.ensures c.if-not-possible.false c.if-position-eq0.false c.if-task-position.false c.run_line.result c.run_line.ensures _
    (search rules)
