-- The kind of a step. The writer repeats a line that its bytes hold, and writes any other; where a program extends the lines that the bytes hold, that step
-- fits its line, and no other does. A step that fits is followed, whatever its kind.
-- Assumes nothing.
use Prim.Native.Nat.{ℕ}
use mathlib.Core.Path.{◌≡◌, refl, sym, ap, ◌∙◌}
use mathlib.Core.List.{List, ◌∷◌}
use lib.Dec.{eqb}
use borrow.Author.Tests.{eqb-true, eqb-false, eq-eqb, ne_eqb}
use Rattle.records.proofs.Laws.Tests.{cond_either}
use Rattle.task.specs.Instruction.{encode}
use Rattle.task.specs.declared.bounds.Bounds.{Bounds}
use Rattle.task.specs.declared.index.Layout.{Layout}
use Rattle.task.specs.declared.instruction.Instruction.{Instruction}
use Rattle.task.specs.declared.instruction.Instruction.TheVariants.{Empty}
use Rattle.task.specs.declared.instruction.Triple.{Triple}
use Rattle.task.proofs.Laws.Instruction.{op-empty}
use Rattle.step.specs.declared.position.Frame.{Frame}
use Rattle.checker.specs.Plan.{PlanStep, instruction_of}
use Rattle.checker.specs.Write.{step_on}
use Rattle.checker.specs.declared.plan.Step.{Step}
use Rattle.checker.specs.declared.plan.Step.TheVariants.{Write, Repeat}
use Rattle.demands.specs.Compiled.{Running}
use Rattle.demands.specs.Demand3.{Inside, bytes_on}
use Rattle.demands.proofs.Laws.Heart as heart
use Rattle.demands.proofs.Laws.Heart.{Extends, Chain, Follows, visits_of, written-extends}
use Rattle.demands.proofs.Laws.Leads.{Taken}
use Rattle.demands.proofs.Laws.Program.{Holds}
use Rattle.demands.proofs.Laws.Steps.{Fits, lines_after}

-- lines that a program extends, with a step on line f
module _ (b : Bounds) (program lines : Frame → Instruction) (f : Frame) where
  -- the program extends the lines after a step that runs its instruction
  pub after-extends : Extends (Inside b) program lines → (step : Step) → program f ≡ instruction_of step → Extends (Inside b) program (lines_after lines f step)
  unfolding instruction_of
  after-extends extends (Write w) e = written-extends (Inside b) lines f w program extends e
  after-extends extends (Repeat w) e = extends

  module _ (written : List ℕ) (holds : Holds b written lines) (inside : Inside b f) where
    held-op : (bytes_on b written f).op ≡ (encode (lines f)).op
    held-op = ap (λ (x : Triple). x.op) (holds f inside)

    -- the writer's step fits its line
    pub step_fits : Extends (Inside b) program lines → (w : Instruction) → program f ≡ w → Fits lines f (step_on (bytes_on b written f) w)
    unfolding step_on encode
    step_fits extends w e =
        cond_either (Fits lines f) (eqb (bytes_on b written f).op 0) (Write w) (Repeat w)
        (λ z. op-empty (lines f) (sym held-op ∙ eqb-true _ 0 z))
        (λ z. extends f inside (λ (k : lines f ≡ Empty). eqb-false _ 0 z (held-op ∙ ap (λ (v : Instruction). (encode v).op) k)) ∙ e)

    -- and it is the one that does
    pub fits-step : (step : Step) → (instruction_of step ≡ Empty → ⊥) → Fits lines f step → step_on (bytes_on b written f) (instruction_of step) ≡ step
    unfolding step_on instruction_of encode
    fits-step (Write w) n fits = rw (eq-eqb _ 0 (held-op ∙ ap (λ (v : Instruction). (encode v).op) fits)) refl
    fits-step (Repeat w) n fits =
        rw (ne_eqb (bytes_on b written f).op 0 (λ (z : (bytes_on b written f).op ≡ 0). n (sym fits ∙ op-empty (lines f) (sym held-op ∙ z)))) refl

-- a step that fits its line, in front of those that are followed after it
pub follows-fits : (bytes : List ℕ) (t : Layout) {lines last : Frame → Instruction} {r r' end : Running} {f : Frame} {rest : List PlanStep} (step : Step)
    → Fits lines f step → Taken bytes t f (instruction_of step) r r' → Follows (Taken bytes t) (lines_after lines f step) r' rest last end
    → Follows (Taken bytes t) lines r (record { frame = f; step = step } ∷ rest) last end
unfolding instruction_of
follows-fits bytes t (Write w) fits taken more = heart.writes fits taken more
follows-fits bytes t (Repeat w) fits taken more = heart.repeats fits taken more

-- and its visit, in front of those after it
pub visits-step : (bytes : List ℕ) (t : Layout) {program : Frame → Instruction} {r r' end : Running} {f : Frame} (rest : List PlanStep) (step : Step)
    → program f ≡ instruction_of step → Taken bytes t f (instruction_of step) r r' → Chain (Taken bytes t) program r' (visits_of rest) end
    → Chain (Taken bytes t) program r (visits_of (record { frame = f; step = step } ∷ rest)) end
visits-step bytes t rest step same taken more = heart.then same taken more

-- the step on a line runs the instruction that it is given
pub step-runs : (x : Triple) (w : Instruction) → instruction_of (step_on x w) ≡ w
unfolding step_on instruction_of
step-runs x w = cond_either (λ (step : Step). instruction_of step ≡ w) (eqb x.op 0) (Write w) (Repeat w) (λ e. refl) (λ e. refl)
