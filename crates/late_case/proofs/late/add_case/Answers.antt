-- `late_case::late::add_case` meets its contract: the task's verdict decides, then the questions about the run and the case, and then the case is put in.
-- Assumes nothing.
use mathlib.Core.Path.{refl, ◌∙◌}
use native.Mathlib.Omega.{arith}
use Rattle.std.proofs.lemmas.Result.{err_from_is_err_and}
use Rattle.records.specs.Numbers.{AreBytes}
use Rattle.task.specs.Reading.{refused, accepted, reading}
use Rattle.late_case.specs.Late.{after_task}
use Rattle.late_case.proofs.Laws.Late.{smaller, task-refused, late-refused, late-room, late-added}
use Rattle.late_case.proofs.late.add_case.Goals as goal

pub returns-in_err-index : goal.returns-in_err-index
unfolding reading refused
returns-in_err-index c =
    let p = err_from_is_err_and c.from_residual.result c.from_residual.ensures.1 in
    rw (p.1, p.2) (task-refused _ _ _ _ _ (smaller _ _ _ c.min-size.ensures) _ c.in_err-index.ensures _ _ refl)

pub returns-in_err-check_case : goal.returns-in_err-check_case
unfolding reading accepted after_task
returns-in_err-check_case c =
    let p = err_from_is_err_and c.from_residual-in_err-check_case.result c.from_residual-in_err-check_case.ensures.1 in
    let bytes : AreBytes c.args.buffer.now = λ at. grind arith in
    rw (p.1, p.2)
    (late-refused _ _ _ _ _ (smaller _ _ _ c.min-size.ensures) _ c.in_ok-index.ensures bytes _ refl _ (c.in_err-check_case.ensures _) _ _ refl)

pub overflow_sub-size : goal.overflow_sub-size
unfolding reading accepted after_task
overflow_sub-size c =
    let bytes : AreBytes c.args.buffer.now = λ at. grind arith in
    let room = late-room _ _ _ _ _ (smaller _ _ _ c.min-size.ensures) _ c.in_ok-index.ensures bytes _ refl _ (c.in_ok-check_case.ensures _) _ refl in
    room.0

pub put_case-requires : goal.put_case-requires
unfolding reading accepted after_task
put_case-requires c =
    let bytes : AreBytes c.args.buffer.now = λ at. grind arith in
    let room = late-room _ _ _ _ _ (smaller _ _ _ c.min-size.ensures) _ c.in_ok-index.ensures bytes _ refl _ (c.in_ok-check_case.ensures _) _ refl in
    omega arith

pub returns : goal.returns
unfolding reading accepted after_task
returns c =
    let bytes : AreBytes c.args.buffer.now = λ at. grind arith in
    let added = late-added _ _ _ _ _ (smaller _ _ _ c.min-size.ensures) _ c.in_ok-index.ensures bytes _ refl _ (c.in_ok-check_case.ensures _) _ refl in
    (added.0, c.put_case.ensures ∙ added.1)
