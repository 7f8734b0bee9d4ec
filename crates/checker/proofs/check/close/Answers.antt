-- `checker::check::close` meets its contract: questions 23 and 24 decide.
-- Assumes nothing.
use Prim.Native.Nat.{ℕ}
use mathlib.Core.Path.{ap, ◌∙◌}
use native.Mathlib.Omega.{arith}
use Rattle.records.specs.Loop.{stop}
use Rattle.checker.specs.Answer.{accepted}
use Rattle.checker.specs.Outcome.{followed_by}
use Rattle.checker.proofs.Laws.Check.{cases-left, bytes_left, closes}
use Rattle.checker.proofs.check.close.Goals as goal

pub returns-then-head-index : goal.returns-then-head-index
unfolding followed_by
returns-then-head-index c = λ program callers s st.
    rw c.at.ensures (cases-left _ c.args.plan.now _ s program _ (omega (arith, st.case, c.if-head-index.true)))

pub returns-then-next-plan : goal.returns-then-next-plan
unfolding followed_by
returns-then-next-plan c = λ program callers s st.
    rw c.at-then-next-plan.ensures (bytes_left _ c.args.plan.now _ s program _ (omega (arith, st.case, c.if-head-index.false)) c.if-next-plan.true)

pub returns : goal.returns
unfolding followed_by
returns c = λ program callers s st.
    ap (λ (steps : ℕ). stop (accepted steps program)) (omega (arith, st.steps))
    ∙ closes _ c.args.plan.now _ s program _ (omega (arith, st.case, c.if-head-index.false)) c.if-next-plan.false
