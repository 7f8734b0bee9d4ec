-- `step::head::Head::moved` meets its contract: instruction by instruction, of the head with the step counted. The fact decides a goto, the
-- depth and the cases left an end.
-- Assumes nothing.
use mathlib.Core.Path.{refl, ◌∙◌}
use Rattle.records.proofs.Laws.Tests.{cond_yes, cond_no}
use Rattle.step.specs.Head.{counted_head, moved_head, head_with, advanced_head, caller_of, goto_head}
use Rattle.step.proofs.Laws.Head.{moves-as, ended-pops, ended-begins, ended-finishes}
use Rattle.step.proofs.head.Head.moved.Goals as goal

pub returns-in-Empty : goal.returns-in-Empty
unfolding moved_head counted_head
returns-in-Empty c = let a = c.args in moves-as a.task.now a.index a.self a.below a.facts a.w _ c.in-Empty.is _ refl

pub returns-in-Act : goal.returns-in-Act
unfolding moved_head counted_head head_with advanced_head caller_of
returns-in-Act c = let a = c.args in moves-as a.task.now a.index a.self a.below a.facts a.w _ c.in-Act.is _ c.advanced.ensures

pub returns-then-has : goal.returns-then-has
unfolding moved_head counted_head goto_head
returns-then-has c =
    let a = c.args in
    moves-as a.task.now a.index a.self a.below a.facts a.w _ c.in-Goto.is _
    (c.advanced-then-has.ensures ∙ cond_yes _ _ _ _ c.has.ensures c.if-has.true)

pub returns-else-has : goal.returns-else-has
unfolding moved_head counted_head goto_head
returns-else-has c =
    let a = c.args in
    moves-as a.task.now a.index a.self a.below a.facts a.w _ c.in-Goto.is _
    (c.jumped.ensures ∙ cond_no _ _ _ _ c.has.ensures c.if-has.false)

pub returns-in-Call : goal.returns-in-Call
unfolding moved_head counted_head
returns-in-Call c = let a = c.args in moves-as a.task.now a.index a.self a.below a.facts a.w _ c.in-Call.is _ c.pushed.ensures

pub returns-then-self-gt1 : goal.returns-then-self-gt1
unfolding moved_head counted_head
returns-then-self-gt1 c =
    let a = c.args in
    moves-as a.task.now a.index a.self a.below a.facts a.w _ c.in-End.is _ (ended-pops a.task.now a.index (counted_head a.self) a.below c.popped.result c.if-self-gt1.true c.popped.ensures)

pub returns-then-next-index : goal.returns-then-next-index
unfolding moved_head counted_head
returns-then-next-index c =
    let a = c.args in
    moves-as a.task.now a.index a.self a.below a.facts a.w _ c.in-End.is _
    (ended-begins a.task.now a.index (counted_head a.self) a.below c.next_case.result c.if-self-gt1.false c.if-next-index.true _ c.case_at-start.ensures c.next_case.ensures)

pub returns-else-next-index : goal.returns-else-next-index
unfolding moved_head counted_head
returns-else-next-index c =
    let a = c.args in
    moves-as a.task.now a.index a.self a.below a.facts a.w _ c.in-End.is _
    (ended-finishes a.task.now a.index (counted_head a.self) a.below c.next_case-in-End.result c.if-self-gt1.false c.if-next-index.false c.next_case-in-End.ensures)
