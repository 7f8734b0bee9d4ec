-- The preset program of a task that passes holds, on each of its lines, an instruction that is allowed there: a preset's, or the empty one where no preset is on
-- the line.
-- Assumes nothing.
use Prim.Native.Nat.{ℕ}
use mathlib.Core.Path.{◌≡◌}
use mathlib.Core.Bool.{true}
use mathlib.Core.List.{List}
use native.Mathlib.Decide.{ℕ_discrete}
use borrow.Author.Tests.{le-leb}
use Rattle.task.specs.Instruction.{allowed, encode}
use Rattle.task.specs.Program.{spelled_on}
use Rattle.task.specs.Reading.{read_task}
use Rattle.task.specs.Task.{Preset}
use Rattle.task.specs.declared.bounds.Bounds.{Bounds}
use Rattle.task.specs.declared.index.Layout.{Layout}
use Rattle.task.specs.declared.instruction.Instruction.{Instruction}
use Rattle.task.specs.declared.instruction.Instruction.TheVariants.{Empty}
use Rattle.task.specs.declared.instruction.Line.{Line}
use Rattle.task.specs.declared.instruction.Proc.{Proc}
use Rattle.task.specs.Verdict.{Accepted}
use Rattle.task.proofs.Laws.Triple.{spelled-encode}
use Rattle.task_file.specs.WellFormed.{Every, none, also, On}
use Rattle.task_file.proofs.Laws.Every.{every-both}
use Rattle.task_file.proofs.Laws.Located.{bounds-located, actions-counted}
use Rattle.task_file.proofs.TaskFile.{accepted-formed, preset-program}
use Rattle.step.specs.declared.position.Frame.{Frame}
use Rattle.demands.specs.Compiled.{preset_on}
use Rattle.demands.specs.Demand3.{Inside, bytes_on}
use Rattle.demands.proofs.Laws.Program.{Holds}

-- lines that have an instruction that is allowed there
abbrev pub LinesAllowed : Bounds → ℕ → (Frame → Instruction) → Type 0
LinesAllowed b actions lines = (f : Frame) → Inside b f → allowed b actions f.line (lines f) ≡ true

-- whether a preset is on a line
on_line : (j : Proc) (i : Line) (p : Preset) → Dec (On j i p)
on_line j i p =
    elim (ℕ_discrete p.procedure.0 j.0) [
      | yes e ↦ elim (ℕ_discrete p.line.0 i.0) [ yes f ↦ yes (e, f) | no n ↦ no (λ on. n on.1) ]
      | no n ↦ no (λ on. n on.0)
    ]

-- a preset of a list is on it, or none is
on-or-none : {E : Preset → Type 0} {R : Type 0} (j : Proc) (i : Line) {l : List Preset} → Every E l → ((p : Preset) → E p → On j i p → R)
    → (Every (λ (p : Preset). On j i p → ⊥) l → R) → R
on-or-none j i none some other = other none
on-or-none j i (also {x} h k) some other =
    elim (on_line j i x) [ yes on ↦ some x h on | no n ↦ on-or-none j i k some (λ ns. other (also n ns)) ]

module _ (bytes : List ℕ) (v : ℕ) (e : (read_task bytes).verdict ≡ Accepted v) where
  abbrev layout : Layout
  layout = (read_task bytes).layout

  -- an instruction that a line of the preset program holds, and that is allowed there
  record HeldOn (f : Frame) : Type 0 where
    instruction : Instruction
    holds : bytes_on layout.index.bounds layout.presets f ≡ encode instruction
    allows : allowed layout.index.bounds layout.index.actions f.line instruction ≡ true

  held_on : (f : Frame) → Inside layout.index.bounds f → HeldOn f
  unfolding allowed
  held_on f h =
      let lines = rw (bounds-located bytes, actions-counted bytes v e) at (accepted-formed bytes v e).lines in
      let held = rw (bounds-located bytes) at (preset-program bytes v e) in
      on-or-none f.procedure f.line (every-both held.each lines)
      (λ p k on.
      let j : p.procedure ≡ f.procedure = λ i. record { 0 = on.0 i } in
      let l : p.line ≡ f.line = λ i. record { 0 = on.1 i } in
      record { instruction = p.instruction; holds = rw (j, l) at k.0; allows = rw l at k.1 })
      (λ none.
      record {
        instruction = Empty;
        holds = held.other f.procedure f.line h.line none;
        allows = le-leb f.line.0 layout.index.bounds.last h.line;
      })

  -- the instruction that it is read as
  held-preset : (f : Frame) (h : Inside layout.index.bounds f) → preset_on bytes layout f ≡ (held_on f h).instruction
  unfolding spelled_on
  held-preset f h = rw ((held_on f h).holds, spelled-encode)

  pub presets-hold : Holds layout.index.bounds layout.presets (preset_on bytes layout)
  presets-hold f h = rw (held-preset f h) (held_on f h).holds

  pub presets-allowed : LinesAllowed layout.index.bounds layout.index.actions (preset_on bytes layout)
  presets-allowed f h = rw (held-preset f h) (held_on f h).allows
