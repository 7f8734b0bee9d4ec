-- `checker::check::read_record` meets its contract: questions 11 to 14 decide, and of a step its body's.
-- Assumes nothing.
use mathlib.Core.Path.{◌≡◌, sym, ap, ◌∙◌}
use mathlib.Core.Bool.{false≢true}
use denote.Enum.Bare.{same_true}
use Rattle.std.proofs.Common.{rules}
use Rattle.std.proofs.lemmas.Result.{err_from_is_err_and}
use Rattle.checker.specs.Kind.{kind_number}
use Rattle.checker.specs.Outcome.{read_turn, ReadyAt}
use Rattle.checker.specs.contracts.kind.PlanKind.{the_type}
use Rattle.checker.specs.declared.kind.PlanKind.TheVariants.{Closing}
use Rattle.checker.proofs.Laws.Check.{shaped, shaped-left, not-closing, record-missing, shape-refused, closing-record, step-record, step-there}
use Rattle.checker.proofs.check.read_record.Goals as goal

pub returns-in_default-clause-turn : goal.returns-in_default-clause-turn
unfolding read_turn
returns-in_default-clause-turn c =
    λ program callers s st. record-missing _ _ _ _ _ s program _ c.plan_record.ensures c.in_default.is

pub returns-in_err-kind-clause-turn : goal.returns-in_err-kind-clause-turn
unfolding read_turn
returns-in_err-kind-clause-turn c =
    let p = err_from_is_err_and c.from_residual.result c.from_residual.ensures.1 in
    rw (p.1, p.2)
    (λ program callers s st.
    shape-refused _ _ _ _ _ s program _ c.plan_record.ensures _ c.in-Some.is _ (rw st.steps c.in_err-kind.ensures))

pub returns-then-eq-clause-turn : goal.returns-then-eq-clause-turn
unfolding read_turn
returns-then-eq-clause-turn c =
    let closing : c.in_ok-kind.kind ≡ Closing = same_true the_type (search rules) _ _ (sym c.if-eq.ensures) in
    λ program callers s st.
    closing-record _ _ _ _ _ s program _ c.plan_record.ensures _ c.in-Some.is
    (rw st.steps (shaped _ _ _ c.in_ok-kind.ensures.1)) (c.in_ok-kind.ensures.0 ∙ ap kind_number closing)

pub returns-then-eq-clause-ready : goal.returns-then-eq-clause-ready
unfolding ReadyAt
returns-then-eq-clause-ready c = tt

-- past the test the record is a step's
pub read_step-requires : goal.read_step-requires
read_step-requires c =
    let y = shaped _ _ _ c.in_ok-kind.ensures.1 in
    let step = not-closing _ _ c.in_ok-kind.ensures.0 (λ z. false≢true (rw z at c.if-eq.ensures)) in
    record {
      step = rw c.in_ok-kind.ensures.0 at step;
      left = shaped-left _ _ _ _ y step;
      there = step-there _ _ _ c.plan_record.ensures _ c.in-Some.is y.fits step;
    }

pub returns-clause-turn : goal.returns-clause-turn
returns-clause-turn c =
    let step = not-closing _ _ c.in_ok-kind.ensures.0 (λ z. false≢true (rw z at c.if-eq.ensures)) in
    λ program callers s st.
    step-record _ _ _ _ _ s program _ c.plan_record.ensures _ c.in-Some.is (rw st.steps (shaped _ _ _ c.in_ok-kind.ensures.1)) step _
    (rw c.in_ok-kind.ensures.0 (c.read_step.ensures.turn program _ callers s st))
