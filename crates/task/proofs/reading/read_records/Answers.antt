-- `task::reading::read_records` meets its contract: what is left to read at each turn is what the whole file reads to.
-- Assumes nothing.
use mathlib.Core.Path.{◌≡◌, sym, ap, ◌∙◌}
use mathlib.Core.Bool.{false≢true}
use Rattle.std.specs.Prelude.{Ok}
use Rattle.std.proofs.Common.{rules}
use Rattle.std.proofs.lemmas.Result.{err_from_is_err_and}
use Rattle.task.specs.declared.kind.Kind.TheVariants.{Closing}
use Rattle.task.specs.Kind.{kind_number}
use Rattle.task.specs.contracts.kind.Kind.{the_type}
use denote.Enum.Bare.{same_true}
use Rattle.task.specs.Outcome.{reading_of}
use Rattle.task.specs.Reading.{begin}
use Rattle.task.proofs.Laws.Passed.{zeros-index, begin-reached, next-reached, next-bounded}
use Rattle.task.proofs.Laws.Reading.{body-there, header-body}
use Rattle.task.proofs.Laws.Turns.{from-begin, from_next, from-stop, falls, turn-missing, turn-no, turn-trailing, turn-closed, turn-next, next_fits}
use Rattle.task.proofs.reading.read_records.Goals as goal

pub loop-record-init : goal.loop-record-init
unfolding begin
loop-record-init c =
    let e = zeros-index _ c.default.ensures in
    rw (e, c.requires.0, c.requires.1) (from-begin _, begin-reached _)

pub returns-in_default : goal.returns-in_default
unfolding reading_of
returns-in_default c = rw c.at.ensures (from-stop _ _ c.loop-record.invariant.0 _ (turn-missing _ _ _ _ _ c.record_at.ensures c.in_default.is))

pub ask_record-answer-requires : goal.ask_record-answer-requires
ask_record-answer-requires c = (body-there _ _ _ c.record_at.ensures _ _ _ _ c.in-Some.is, next-bounded _ _ _ _ c.loop-record.invariant.1 _)

pub with_record-requires : goal.with_record-requires
with_record-requires c =
    let counted = c.loop-record.invariant.1.counted in
    let there = body-there _ _ _ c.record_at.ensures _ _ _ _ c.in-Some.is in
    let a : c.ask_record-answer.result ≡ Ok c.in_ok-kind.kind = search rules in
    let n : c.in_ok-kind.kind ≡ Closing → ⊥ = λ z. false≢true (rw z at c.if-eq.ensures) in
    let k : c.in-Some.record.kind ≡ kind_number c.in_ok-kind.kind = rw a at c.ask_record-answer.ensures.kind in (
      λ h. header-body _ _ _ _ there (next_fits _ _ _ _ _ c.record_at.ensures _ c.in-Some.is _ _ _ c.ask_record-answer.ensures.turn _ n a) (k ∙ ap kind_number h),
      counted.actions,
      counted.cases,
    )

pub returns-in_err-kind : goal.returns-in_err-kind
unfolding reading_of
returns-in_err-kind c =
    let p = err_from_is_err_and c.from_residual.result c.from_residual.ensures.1 in
    rw (p.1, p.2)
    (from-stop _ _ c.loop-record.invariant.0 _ (turn-no _ _ _ _ _ c.record_at.ensures _ c.in-Some.is c.ask_record-answer.result _ _ c.ask_record-answer.ensures.turn _ (search rules)))

-- the kind that the record has, where none of its questions says no; past the test it is not the closing record's
pub loop-record-smaller : goal.loop-record-smaller
loop-record-smaller c =
    let a : c.ask_record-answer.result ≡ Ok c.in_ok-kind.kind = search rules in
    falls _ _ _ (sym (turn-next _ _ _ _ _ c.record_at.ensures _ c.in-Some.is _ _ _ c.ask_record-answer.ensures.turn _ (λ z. false≢true (rw z at c.if-eq.ensures)) a))

pub loop-record-preserved : goal.loop-record-preserved
loop-record-preserved c =
    let a : c.ask_record-answer.result ≡ Ok c.in_ok-kind.kind = search rules in
    let turn = turn-next _ _ _ _ _ c.record_at.ensures _ c.in-Some.is _ _ _ c.ask_record-answer.ensures.turn _ (λ z. false≢true (rw z at c.if-eq.ensures)) a in
    rw c.with_record.ensures (from_next _ _ c.loop-record.invariant.0 _ turn, next-reached _ _ _ c.loop-record.invariant.1 turn)

pub returns-then-record-task : goal.returns-then-record-task
unfolding reading_of
returns-then-record-task c =
    let a : c.ask_record-answer.result ≡ Ok c.in_ok-kind.kind = search rules in
    let k : c.in_ok-kind.kind ≡ Closing = same_true the_type (search rules) _ _ (sym c.if-eq.ensures) in
    rw c.at-then-record-task.ensures
    (from-stop _ _ c.loop-record.invariant.0 _
    (turn-trailing _ _ _ _ _ c.record_at.ensures _ c.in-Some.is _ _ _ c.ask_record-answer.ensures.turn (a ∙ ap Ok k) c.if-record-task.true))

pub returns-then-eq : goal.returns-then-eq
unfolding reading_of
returns-then-eq c =
    let a : c.ask_record-answer.result ≡ Ok c.in_ok-kind.kind = search rules in
    let k : c.in_ok-kind.kind ≡ Closing = same_true the_type (search rules) _ _ (sym c.if-eq.ensures) in
    from-stop _ _ c.loop-record.invariant.0 _
    (turn-closed _ _ _ _ _ c.record_at.ensures _ c.in-Some.is _ _ _ c.ask_record-answer.ensures.turn (a ∙ ap Ok k) c.if-record-task.false)
