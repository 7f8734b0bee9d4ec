-- `step::effects::changes_of` meets its contract: effect by effect the words come to have what the fired effects have.
-- Assumes nothing.
use mathlib.Core.Path.{sym, ◌∙◌}
use mathlib.Core.Bool.{true, false}
use native.Mathlib.Omega.{arith}
use lib.Bits.{or_lt}
use Rattle.task.specs.Index.{effects_of}
use Rattle.step.specs.Effects.{changes_of}
use Rattle.step.proofs.Laws.Effects.{walk_begins, walk-on, walk_ends}
use Rattle.step.proofs.effects.changes_of.Goals as goal
use Rattle.step.proofs.effects.changes_of.Goals.{then-holds, else-holds}

pub loop-e-init : goal.loop-e-init
loop-e-init c = (walk_begins _ _ _ _ _, walk_begins _ _ _ _ _)

-- the effect is read again where it fires, and is the same
pub loop-e-preserved : goal.loop-e-preserved
loop-e-preserved c =
    let walked = c.loop-e.invariant in
    let less = c.loop-e-test.true in
    let effect = c.effect_at.ensures in
    elim c.if-holds.branch [
      | then-holds w ↦
          let fires = sym w.if-holds.true ∙ c.holds.ensures in
          let same = w.effect_at-effect.ensures ∙ sym effect in (
            rw (w.raised-is, same) (walk-on _ _ _ _ _ _ _ walked.0 less _ effect true fires (or_lt 64 _ _ walked.0.small (omega arith))),
            rw (w.lowered-is, same) (walk-on _ _ _ _ _ _ _ walked.1 less _ effect true fires (or_lt 64 _ _ walked.1.small (omega arith))),
          )
      | else-holds w ↦
          let fires = sym w.if-holds.false ∙ c.holds.ensures in (
            rw w.raised-is (walk-on _ _ _ _ _ _ _ walked.0 less _ effect false fires walked.0.small),
            rw w.lowered-is (walk-on _ _ _ _ _ _ _ walked.1 less _ effect false fires walked.1.small),
          )
    ]

pub returns : goal.returns
unfolding changes_of effects_of
returns c =
    let walked = c.loop-e.invariant in
    let raised = walk_ends _ _ _ _ _ _ _ walked.0 c.loop-e-test.false in
    let lowered = walk_ends _ _ _ _ _ _ _ walked.1 c.loop-e-test.false in
    rw (← c.requires.0) (λ i. record { raised = raised i; lowered = lowered i })
