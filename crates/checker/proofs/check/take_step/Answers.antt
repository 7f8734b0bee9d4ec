-- `checker::check::take_step` meets its contract: question 18 decides, then the instruction's own.
-- Assumes nothing.
use mathlib.Core.Path.{sym, ◌∙◌}
use Rattle.step.specs.Moved.{performed_as}
use Rattle.checker.specs.Check.{on_move}
use Rattle.checker.specs.Plan.{instruction_of}
use Rattle.checker.proofs.Laws.Check.{asked-room-for, line-differs, line_taken, line-filled}
use Rattle.checker.proofs.Laws.Stepping.{allowed-known}
use Rattle.checker.proofs.check.take_step.Goals as goal

pub returns-then-not-line_fits-clause-turn : goal.returns-then-not-line_fits-clause-turn
unfolding on_move performed_as
returns-then-not-line_fits-clause-turn c =
    let t = c.args.task in
    λ at next callers s st.
    line-differs t.bytes.now _ t.offsets.now _ _ _ c.line_offset-offset.ensures _ _ (rw c.triple_at-held.ensures at c.line_fits.ensures)
    callers s st at next c.if-not-line_fits.true

pub ask-requires : goal.ask-requires
ask-requires c =
    let askable = c.requires.askable in
    (askable.case, rw c.instruction_of.ensures (allowed-known c.args.task.index c.args.head.line (instruction_of c.args.step) askable.allowed))

pub returns-clause-turn : goal.returns-clause-turn
returns-clause-turn c =
    let fits = rw c.triple_at-held.ensures at c.line_fits.ensures in
    let yes = c.if-not-line_fits.false in
    let filled = c.put_triple.ensures ∙ line-filled _ _ c.requires.spells _ _ (sym fits ∙ yes) in
    let asked = rw c.instruction_of.ensures at c.ask.ensures.0 in
    λ at next callers s st.
    line_taken _ _ _ _ _ _ c.line_offset-offset.ensures _ _ fits callers s st at next yes _ filled _ (asked s st.facts st.case st.depth)

pub returns-clause-room : goal.returns-clause-room
returns-clause-room c = asked-room-for _ _ _ c.args.head _ _ (rw c.instruction_of.ensures at c.ask.ensures.0)
