-- `step::perform::ask` meets its contract: instruction by instruction.
-- Assumes nothing.
use mathlib.Core.Path.{refl}
use Rattle.std.specs.Prelude.{Ok, Err}
use Rattle.task.specs.declared.questions.Question.TheVariants.{LineEmpty}
use Rattle.step.specs.Moved.{Keeps, performed_as, moved_by}
use Rattle.step.specs.Perform.{perform, goto}
use Rattle.step.proofs.Laws.Answers.{call-refused, call-pushes, end-pops, end_refused, end-closes, asks-as}
use Rattle.step.proofs.perform.ask.Goals as goal

pub returns-in-Empty : goal.returns-in-Empty
unfolding perform performed_as Keeps
returns-in-Empty c =
    let a = c.args in
    let t = a.task in
    (asks-as t.bytes.now t.index t.offsets.now a.head.facts a.head.case a.head.depth a.w _ c.in-Empty.is (Err LineEmpty) (λ s x y z. refl), λ other. tt)

pub returns-in-Act : goal.returns-in-Act
unfolding perform
returns-in-Act c =
    let a = c.args in
    let t = a.task in
    let e = c.in-Act.is in
    (asks-as t.bytes.now t.index t.offsets.now a.head.facts a.head.case a.head.depth a.w _ e _ (λ s x y z. c.act.ensures t.index s _ x), λ other. absurd (other _ e))

pub returns-in-Goto : goal.returns-in-Goto
unfolding perform performed_as moved_by goto Keeps
returns-in-Goto c =
    let a = c.args in
    let t = a.task in
    (asks-as t.bytes.now t.index t.offsets.now a.head.facts a.head.case a.head.depth a.w _ c.in-Goto.is (Ok a.head.facts) (λ s x y z. refl), λ other. refl)

pub returns-then-task-head : goal.returns-then-task-head
unfolding perform Keeps
returns-then-task-head c =
    let a = c.args in
    let t = a.task in
    let refused = call-refused t.index.bounds.stack a.head.depth c.if-task-head.true in
    (asks-as t.bytes.now t.index t.offsets.now a.head.facts a.head.case a.head.depth a.w _ c.in-Call.is _ (λ s x y z. refused t.bytes.now t.index s _ z), λ other. tt)

pub returns-else-task-head : goal.returns-else-task-head
unfolding perform Keeps
returns-else-task-head c =
    let a = c.args in
    let t = a.task in
    let pushes = call-pushes t.index.bounds.stack a.head.depth c.if-task-head.false in
    (asks-as t.bytes.now t.index t.offsets.now a.head.facts a.head.case a.head.depth a.w _ c.in-Call.is _ (λ s x y z. pushes _ t.bytes.now t.index s _ z), λ other. refl)

pub returns-then-head-gt1 : goal.returns-then-head-gt1
unfolding perform Keeps
returns-then-head-gt1 c =
    let a = c.args in
    let t = a.task in
    let h = a.head in
    (asks-as t.bytes.now t.index t.offsets.now h.facts h.case h.depth a.w _ c.in-End.is _ (end-pops t.bytes.now t.index h.facts h.case h.depth c.if-head-gt1.true), λ other. refl)

pub returns-then-not-holds : goal.returns-then-not-holds
unfolding perform Keeps
returns-then-not-holds c =
    let a = c.args in
    let t = a.task in
    let h = a.head in
    let ends = end_refused t.bytes.now t.index h.facts h.case h.depth c.if-head-gt1.false c.case_at-last.result
    c.case_at-last.ensures c.holds.result c.holds.ensures c.if-not-holds.true in
    (asks-as t.bytes.now t.index t.offsets.now h.facts h.case h.depth a.w _ c.in-End.is _ ends, λ other. tt)

pub returns-else-not-holds : goal.returns-else-not-holds
unfolding perform Keeps
returns-else-not-holds c =
    let a = c.args in
    let t = a.task in
    let h = a.head in
    let ends = end-closes t.bytes.now t.index h.facts h.case h.depth c.if-head-gt1.false c.case_at-last.result
    c.case_at-last.ensures c.holds.result c.holds.ensures c.if-not-holds.false in
    (asks-as t.bytes.now t.index t.offsets.now h.facts h.case h.depth a.w _ c.in-End.is _ ends, λ other. refl)
