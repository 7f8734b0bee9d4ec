-- `task::reading::with_record` meets its contract, kind by kind.
-- Assumes nothing.
use mathlib.Core.Path.{refl}
use mathlib.Core.Logic.{inl, inr}
use native.Mathlib.Omega.{arith}
use Rattle.task.proofs.Laws.Reading.{with-header, with-action, with_first, with-later, with-other}
use Rattle.task.proofs.reading.with_record.Goals as goal
use Rattle.task.proofs.reading.with_record.Goals.{then-index-eq0, else-index-eq0}

pub returns-in-Header : goal.returns-in-Header
returns-in-Header c =
    let d = c.default.ensures in
    rw (c.in-Header.is, d.1.0, d.1.1.0, d.1.1.1) (with-header _ _ _ _ _ _ c.bounds_at.ensures refl)

pub returns-in-Action : goal.returns-in-Action
returns-in-Action c = rw c.in-Action.is (with-action _ _ _ _ _ refl)

pub returns-after-index-eq0 : goal.returns-after-index-eq0
returns-after-index-eq0 c = rw c.in-Case.is (elim c.if-index-eq0.branch [
  | then-index-eq0 w ↦ with_first _ _ _ _ _ _ refl w.if-index-eq0.true w.index-is
  | else-index-eq0 w ↦ with-later _ _ _ _ _ _ refl w.if-index-eq0.false w.index-is
])

pub returns-in-Preset : goal.returns-in-Preset
returns-in-Preset c =
    elim c.in-Preset.is [
      | inl e ↦ rw e (with-other _ _ _ _ _ (λ h. omega arith) (λ h. omega arith) (λ h. omega arith))
      | inr e ↦ rw e (with-other _ _ _ _ _ (λ h. omega arith) (λ h. omega arith) (λ h. omega arith))
    ]
