-- `task::reading::ask_record` meets its contract: questions 2 and 3 decide, and then what the kind asks.
-- Assumes nothing.
use mathlib.Core.Path.{refl, sym, ap}
use native.Mathlib.Omega.{arith}
use Rattle.std.specs.Prelude.{Ok, Err}
use Rattle.std.proofs.lemmas.Result.{err_from_is_err_and}
use Rattle.task.specs.Kind.{kind_number}
use Rattle.task.proofs.Laws.Reading.{header-body, preset-body, case-body}
use Rattle.task.proofs.Laws.Turns.{unknown-kind, kind-not, length-not, asks-header, asks-action, asks-preset, asks-case, asks-close}
use Rattle.task.proofs.reading.ask_record.Goals as goal

pub returns-in_default-clause-turn : goal.returns-in_default-clause-turn
returns-in_default-clause-turn c = unknown-kind _ _ _ _ _ c.in_default.ensures

pub returns-then-not-may_stand-clause-turn : goal.returns-then-not-may_stand-clause-turn
returns-then-not-may_stand-clause-turn c = kind-not _ _ _ _ _ _ c.in-Ok.ensures c.if-not-may_stand.ensures

pub returns-then-not-length_fits-clause-turn : goal.returns-then-not-length_fits-clause-turn
returns-then-not-length_fits-clause-turn c = length-not _ _ _ _ _ _ c.in-Ok.ensures c.if-not-may_stand.ensures c.if-not-length_fits.ensures

pub ask_header-requires : goal.ask_header-requires
ask_header-requires c = header-body _ _ _ _ c.requires.0 (rw c.in-Header.is at (sym c.if-not-length_fits.ensures)) refl

pub ask_preset-requires : goal.ask_preset-requires
ask_preset-requires c = (
  preset-body _ _ _ _ c.requires.0 (rw c.in-Preset.is at (sym c.if-not-length_fits.ensures)) refl,
  c.requires.1 (rw c.in-Ok.ensures (sym c.if-not-may_stand.ensures)) (omega (arith, c.in-Ok.ensures, ap kind_number c.in-Preset.is)),
)

pub ask_case-requires : goal.ask_case-requires
ask_case-requires c = case-body _ _ _ _ c.requires.0 (rw c.in-Case.is at (sym c.if-not-length_fits.ensures)) refl

pub returns-in_err-ask_header-in-Header-clause-turn : goal.returns-in_err-ask_header-in-Header-clause-turn
returns-in_err-ask_header-in-Header-clause-turn c =
    let p = err_from_is_err_and c.from_residual.result c.from_residual.ensures.1 in
    rw (p.1, p.2)
    (asks-header _ _ _ _ _ _ c.in-Ok.ensures c.if-not-may_stand.ensures c.if-not-length_fits.ensures _ _ (Err _) c.in-Header.is
    (c.in_err-ask_header-in-Header.ensures _ _ _ _))

pub returns-in_ok-ask_header-in-Header-clause-turn : goal.returns-in_ok-ask_header-in-Header-clause-turn
returns-in_ok-ask_header-in-Header-clause-turn c =
    asks-header _ _ _ _ _ _ c.in-Ok.ensures c.if-not-may_stand.ensures c.if-not-length_fits.ensures _ _ (Ok _) c.in-Header.is
    (c.in_ok-ask_header-in-Header.ensures _ _ _ _)

pub returns-in_err-ask_action-in-Action-clause-turn : goal.returns-in_err-ask_action-in-Action-clause-turn
returns-in_err-ask_action-in-Action-clause-turn c =
    let p = err_from_is_err_and c.from_residual-in_err-ask_action-in-Action.result c.from_residual-in_err-ask_action-in-Action.ensures.1 in
    rw (p.1, p.2)
    (asks-action _ _ _ _ _ _ c.in-Ok.ensures c.if-not-may_stand.ensures c.if-not-length_fits.ensures _ _ (Err _) c.in-Action.is
    (c.in_err-ask_action-in-Action.ensures _ _))

pub returns-in_ok-ask_action-in-Action-clause-turn : goal.returns-in_ok-ask_action-in-Action-clause-turn
returns-in_ok-ask_action-in-Action-clause-turn c =
    asks-action _ _ _ _ _ _ c.in-Ok.ensures c.if-not-may_stand.ensures c.if-not-length_fits.ensures _ _ (Ok _) c.in-Action.is
    (c.in_ok-ask_action-in-Action.ensures _ _)

pub returns-in_err-ask_preset-in-Preset-clause-turn : goal.returns-in_err-ask_preset-in-Preset-clause-turn
returns-in_err-ask_preset-in-Preset-clause-turn c =
    let p = err_from_is_err_and c.from_residual-in_err-ask_preset-in-Preset.result c.from_residual-in_err-ask_preset-in-Preset.ensures.1 in
    rw (p.1, p.2)
    (asks-preset _ _ _ _ _ _ c.in-Ok.ensures c.if-not-may_stand.ensures c.if-not-length_fits.ensures _ _ (Err _) c.in-Preset.is
    (c.in_err-ask_preset-in-Preset.ensures _ _))

pub returns-in_ok-ask_preset-in-Preset-clause-turn : goal.returns-in_ok-ask_preset-in-Preset-clause-turn
returns-in_ok-ask_preset-in-Preset-clause-turn c =
    asks-preset _ _ _ _ _ _ c.in-Ok.ensures c.if-not-may_stand.ensures c.if-not-length_fits.ensures _ _ (Ok _) c.in-Preset.is
    (c.in_ok-ask_preset-in-Preset.ensures _ _)

pub returns-in_err-ask_case-in-Case-clause-turn : goal.returns-in_err-ask_case-in-Case-clause-turn
returns-in_err-ask_case-in-Case-clause-turn c =
    let p = err_from_is_err_and c.from_residual-in_err-ask_case-in-Case.result c.from_residual-in_err-ask_case-in-Case.ensures.1 in
    rw (p.1, p.2)
    (asks-case _ _ _ _ _ _ c.in-Ok.ensures c.if-not-may_stand.ensures c.if-not-length_fits.ensures _ _ (Err _) c.in-Case.is
    (c.in_err-ask_case-in-Case.ensures _ _ _))

pub returns-in_ok-ask_case-in-Case-clause-turn : goal.returns-in_ok-ask_case-in-Case-clause-turn
returns-in_ok-ask_case-in-Case-clause-turn c =
    asks-case _ _ _ _ _ _ c.in-Ok.ensures c.if-not-may_stand.ensures c.if-not-length_fits.ensures _ _ (Ok _) c.in-Case.is
    (c.in_ok-ask_case-in-Case.ensures _ _ _)

pub returns-in-Closing-clause-turn : goal.returns-in-Closing-clause-turn
returns-in-Closing-clause-turn c =
    asks-close _ _ _ _ _ _ c.in-Ok.ensures c.if-not-may_stand.ensures c.if-not-length_fits.ensures c.in-Closing.is
