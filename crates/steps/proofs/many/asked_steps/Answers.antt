-- `steps::many::asked_steps` meets its contract: the task's verdict decides, then the program's, then question 31, then the run.
-- Assumes nothing.
use Rattle.std.proofs.Common.{◌∙◌, refl, sym, ap, min}
use Rattle.std.proofs.lemmas.Result.{err_from_is_err_and}
use Rattle.task.specs.Reading.{Reading, refused, accepted, reading}
use Rattle.steps.specs.Running.{asked_as}
use Rattle.steps.proofs.Laws.Many.{least-asked, many-task-refused, many-program-refused, BothPass, many-impossible, many-runs}
use Rattle.steps.proofs.many.asked_steps.Goals as goal

pub returns-in_err-layout : goal.returns-in_err-layout
unfolding asked_as reading refused
returns-in_err-layout c =
    let p = err_from_is_err_and c.from_residual.result c.from_residual.ensures.1 in
    rw (p.1, p.2) (many-task-refused _ _ _ _ _ c.in_err-layout.ensures _ _ refl)

pub returns-in_err-check_program : goal.returns-in_err-check_program
unfolding asked_as reading accepted
returns-in_err-check_program c =
    let p = err_from_is_err_and c.from_residual-in_err-check_program.result c.from_residual-in_err-check_program.ensures.1 in
    rw (p.1, p.2) (many-program-refused _ _ _ _ _ c.in_ok-layout.ensures _ refl _ c.in_err-check_program.ensures _ _ refl)

pub returns-then-not-possible : goal.returns-then-not-possible
unfolding asked_as reading accepted
returns-then-not-possible c =
    let both : BothPass c.args.task.now c.args.program.now _ _ =
    record { read = c.in_ok-layout.ensures; value = _; task = refl; asked = c.in_ok-check_program.ensures; own = _; passes = refl } in
    rw c.at.ensures (many-impossible _ _ _ _ both _ _ c.possible.ensures c.if-not-possible.true _)

pub run-requires : goal.run-requires
unfolding reading accepted
run-requires c =
    let e = sym c.in_ok-layout.ensures in
    rw (c.new.ensures.bytes, c.new.ensures.index, c.new.ensures.offsets)
    (record {
      value = 0;
      task = ap (λ (r : Reading). r.verdict) e;
      index = ap (λ (r : Reading). r.layout.index) e;
      offsets = ap (λ (r : Reading). r.layout.offsets) e;
      checked = 0;
      program = rw e (sym c.in_ok-check_program.ensures);
      possible = sym c.possible.ensures ∙ c.if-not-possible.false;
    })

-- `wanted` is the number of steps that is asked for
pub returns : goal.returns
unfolding asked_as reading accepted
returns c =
    let both : BothPass c.args.task.now c.args.program.now _ _ =
    record { read = c.in_ok-layout.ensures; value = _; task = refl; asked = c.in_ok-check_program.ensures; own = _; passes = refl } in
    (rw c.new.ensures.bytes at c.run.ensures) ∙ many-runs _ _ _ _ both _ _ c.possible.ensures c.if-not-possible.false _ _
    (c.min-wanted.ensures ∙ ap (min c.args.count) c.from.ensures ∙ least-asked _)
