-- The compiled task's steps, as an instance of the heart: a step is an instruction that may stand on its line and runs there by a rule. The actions that lead
-- from one state to another are the steps that follow a plan, rule by rule.
-- Assumes nothing.
use Prim.Native.Nat.{ℕ}
use mathlib.Core.Path.{◌≡◌}
use mathlib.Core.List.{List}
use Rattle.task.specs.declared.index.Layout.{Layout}
use Rattle.task.specs.declared.instruction.Instruction.{Instruction}
use Rattle.task.specs.declared.instruction.Instruction.TheVariants.{Empty}
use Rattle.step.specs.declared.position.Frame.{Frame}
use Rattle.checker.specs.Plan.{PlanStep}
use Rattle.demands.specs.Compiled as compiled
use Rattle.demands.specs.Compiled.{Running, State, Runs, MayStand, Leads}
use Rattle.demands.specs.Demand3.{Inside}
use Rattle.demands.proofs.Laws.Steps.{may-inside}
use Rattle.demands.proofs.Laws.Heart.{Follows, none, writes, repeats}

module _ (bytes : List ℕ) (t : Layout) where
  -- an instruction that may stand at the frame, and runs there
  abbrev pub Taken : Frame → Instruction → Running → Running → Type 0
  Taken f w r r' = MayStand bytes t f w × Runs bytes t f w r r'

  pub taken-filled : (f : Frame) (w : Instruction) (r r' : Running) → Taken f w r r' → w ≡ Empty → ⊥
  taken-filled f w r r' h = h.0.instruction

  pub leads-follows : {c d : State} {σ : List PlanStep} → Leads bytes t c σ d → Follows Taken c.lines c.running σ d.lines d.running
  leads-follows compiled.none = none
  leads-follows (compiled.then (compiled.writes may empty runs) more) = writes empty (may, runs) (leads-follows more)
  leads-follows (compiled.then (compiled.repeats may same runs) more) = repeats same (may, runs) (leads-follows more)

  pub follows-leads : {lines last : Frame → Instruction} {r end : Running} {σ : List PlanStep} → Follows Taken lines r σ last end
      → Leads bytes t (record { lines = lines; running = r }) σ (record { lines = last; running = end })
  follows-leads none = compiled.none
  follows-leads (writes empty step more) = compiled.then (compiled.writes step.0 empty step.1) (follows-leads more)
  follows-leads (repeats same step more) = compiled.then (compiled.repeats step.0 same step.1) (follows-leads more)

  pub taken-inside : (f : Frame) (w : Instruction) (r r' : Running) → Taken f w r r' → Inside t.index.bounds f
  taken-inside f w r r' h = may-inside bytes t f w h.0
