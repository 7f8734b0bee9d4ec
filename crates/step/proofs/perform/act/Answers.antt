-- `step::perform::act` meets its contract: question 19 decides, and the word is the facts that the definition has afterwards.
-- Assumes nothing.
use native.Mathlib.Omega.{arith}
use Rattle.step.proofs.Laws.Effects.{changed-masked}
use Rattle.step.proofs.Laws.Answers.{act-refused, act-moves}
use Rattle.step.proofs.perform.act.Goals as goal

pub returns-then-not-holds : goal.returns-then-not-holds
returns-then-not-holds c =
    let a = c.args in
    act-refused a.task.now a.at a.facts c.action_at-action.result c.action_at-action.ensures c.holds.result c.holds.ensures
    c.if-not-holds.true

pub returns : goal.returns
returns c =
    let changes = c.changes_of-changes in
    let a = c.args in
    act-moves a.task.now a.at a.facts c.action_at-action.result c.action_at-action.ensures c.holds.result c.holds.ensures
    c.if-not-holds.false changes.result changes.ensures _
    (changed-masked a.facts changes.result c.ranges.facts.fits (omega arith) (omega arith))
