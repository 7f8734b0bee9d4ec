-- `checker::check::read_step` meets its contract: questions 15, 16 and 17 decide. The step is then one of the top frame's line.
-- Assumes nothing.
use mathlib.Core.Path.{◌≡◌, sym, ◌∙◌}
use mathlib.Core.Bool.{true, false}
use native.Mathlib.Omega.{arith}
use Rattle.std.proofs.lemmas.Bool.{not-true, not-false}
use Rattle.step.specs.Head.{top_of}
use Rattle.step.specs.Position.{same_frame}
use Rattle.checker.specs.Outcome.{read_turn, ReadyAt}
use Rattle.checker.specs.Plan.{frame_at}
use Rattle.checker.proofs.Laws.Check.{same-frame, for-spells, step-is-ready, none-decoded, none_open, another-line, step-ready}
use Rattle.checker.proofs.check.read_step.Goals as goal

pub returns-then-not-decodes_for-clause-turn : goal.returns-then-not-decodes_for-clause-turn
unfolding read_turn frame_at
returns-then-not-decodes_for-clause-turn c =
    let a = c.args in
    let t = a.task in
    λ program at callers s st.
    none-decoded t.bytes.now t.index t.offsets.now at s program a.plan.now _ a.found.body a.found.next (omega (arith, st.steps, c.requires.left))
    c.triple_at-triple.ensures c.decodes_for.ensures c.if-not-decodes_for.true

pub returns-then-task-head-clause-turn : goal.returns-then-task-head-clause-turn
unfolding read_turn frame_at
returns-then-task-head-clause-turn c =
    let a = c.args in
    let t = a.task in
    λ program at callers s st.
    none_open t.bytes.now t.index t.offsets.now at s program a.plan.now _ a.found.body a.found.next (omega (arith, st.steps, c.requires.left))
    c.triple_at-triple.ensures c.decodes_for.ensures c.if-not-decodes_for.false (omega (arith, st.case, c.if-task-head.true))

pub returns-then-ne-clause-turn : goal.returns-then-ne-clause-turn
unfolding read_turn frame_at same_frame top_of
returns-then-ne-clause-turn c =
    let a = c.args in
    let t = a.task in
    let f = frame_at a.plan.now a.found.body in
    let elsewhere : same_frame f (top_of a.head) ≡ false = not-true _ (sym (rw c.top.ensures at c.ne.ensures) ∙ c.if-ne.true) in
    λ program at callers s st.
    another-line t.bytes.now t.index t.offsets.now at s program a.plan.now _ a.found.body a.found.next (omega (arith, st.steps, c.requires.left))
    c.triple_at-triple.ensures c.decodes_for.ensures c.if-not-decodes_for.false (omega (arith, st.case, c.if-task-head.false))
    (rw st.top elsewhere)

pub spelled-requires : goal.spelled-requires
unfolding frame_at
spelled-requires c =
    let a = c.args in
    let f = frame_at a.plan.now a.found.body in
    for-spells a.task.index.bounds a.task.index.actions f.procedure f.line c.triple_at-triple.result c.decodes_for.result
    c.decodes_for.ensures c.if-not-decodes_for.false

pub returns-clause-turn : goal.returns-clause-turn
unfolding read_turn frame_at same_frame top_of
returns-clause-turn c =
    let a = c.args in
    let t = a.task in
    let f = frame_at a.plan.now a.found.body in
    let here : same_frame f (top_of a.head) ≡ true = not-false _ (sym (rw c.top.ensures at c.ne.ensures) ∙ c.if-ne.false) in
    λ program at callers s st.
    rw c.step_of.ensures
    (step-ready t.bytes.now t.index t.offsets.now at s program a.plan.now _ a.found.body a.found.next (omega (arith, st.steps, c.requires.left))
    c.triple_at-triple.ensures c.decodes_for.ensures c.if-not-decodes_for.false
    (omega (arith, st.case, c.if-task-head.false)) (same-frame f (top_of a.head) here ∙ sym st.top) c.spelled.ensures)

pub returns-clause-ready : goal.returns-clause-ready
unfolding ReadyAt frame_at same_frame top_of
returns-clause-ready c =
    let a = c.args in
    let t = a.task in
    let f = frame_at a.plan.now a.found.body in
    let here : same_frame f (top_of a.head) ≡ true = not-false _ (sym (rw c.top.ensures at c.ne.ensures) ∙ c.if-ne.false) in
    rw c.step_of.ensures
    (step-is-ready t.index a.head t.held.task.ranges c.if-task-head.false c.requires.left f here c.decodes_for.ensures
    c.if-not-decodes_for.false c.spelled.ensures _)
