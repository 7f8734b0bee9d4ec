-- One step of a program and one of the compiled task, at a position in the run of a case: where the program's bytes hold some lines, a step of the one is a
-- step of the other. It closes the case exactly if the case's number grows, and keeps the position possible.
-- Assumes nothing.
use Prim.Native.Nat.{ℕ, suc, ◌+◌, ◌≤◌, ◌<◌}
use mathlib.Core.Path.{◌≡◌, ap, ◌∙◌}
use mathlib.Core.Bool.{true}
use mathlib.Core.List.{List}
use mathlib.Core.Logic.{◌⊎◌, inl, inr}
use native.Mathlib.Omega.{arith}
use Rattle.records.specs.Loop.{go}
use Rattle.records.proofs.Laws.Loop.{stop-go}
use Rattle.task.specs.Index.{case_at}
use Rattle.task.specs.Instruction.{allowed}
use Rattle.task.specs.Program.{instruction_on}
use Rattle.task.specs.declared.index.Index.{Index}
use Rattle.task.specs.declared.index.Layout.{Layout}
use Rattle.std.specs.Prelude.{Some}
use Rattle.task.specs.declared.instruction.Instruction.{Instruction}
use Rattle.task.proofs.Laws.Instruction.{decode-allowed}
use Rattle.task.proofs.Laws.Passed.{Passed}
use Rattle.step.specs.Perform.{perform, perform_decoded, run_line}
use Rattle.step.specs.Position.{starting, top}
use Rattle.step.specs.Run.{ClosesCase, Makes}
use Rattle.step.specs.declared.position.Frame.{Frame}
use Rattle.step.specs.declared.position.Position.{Position}
use Rattle.step.proofs.Laws.Kept.{top-possible, step-possible, starting-possible}
use Rattle.step.proofs.Laws.Perform.{steps-grow, case-grows, case-closes}
use Rattle.step.proofs.Laws.Possible.{parts, depth-open, case_open}
use Rattle.checker.proofs.Laws.Turns.{Standing}
use Rattle.demands.specs.Compiled.{Running}
use Rattle.demands.specs.Demand3.{Inside}
use Rattle.demands.proofs.Laws.Leads.{Taken}
use Rattle.demands.proofs.Laws.Runs.{running_of, runs-performs, performs-runs}
use Rattle.demands.proofs.Laws.Steps.{may-inside, stack-most, depth-most}

-- where the run on case c by itself begins
abbrev pub start_of : List ℕ → Layout → ℕ → Position
start_of bytes t c = starting c (case_at bytes t.index.first c).start

-- a position in the run of a case, with room for so many steps
pub record Midway (i : Index) (s : Position) (left : ℕ) : Type 0 where
  pub standing : Standing i s
  pub above : 0 < s.depth
  pub steps : s.steps + left ≤ i.bounds.steps

pub midway-open : (i : Index) (s : Position) (left : ℕ) → Midway i s left → s.case < i.cases
midway-open i s left h = let p = parts i s h.standing.0 in omega (arith, p.case, (depth-open i s p.depth h.above).0)

module _ (bytes : List ℕ) (t : Layout) (passed : Passed bytes t) where
  abbrev i : Index
  i = t.index

  -- a case at its start
  pub starts-midway : (c left : ℕ) → c < i.cases → left ≤ i.bounds.steps → Midway i (start_of bytes t c) left
  unfolding starting
  starts-midway c left l h = record { standing = starting-possible bytes t passed c l; above = omega arith; steps = omega arith }

  -- a step from there
  module _ (s : Position) (left : ℕ) (h : Midway i s (suc left)) (w : Instruction) (next : Position)
      (e : perform bytes i t.offsets s w ≡ go next) where
    -- closes the case or stays in it
    pub closes-or-stays : (ClosesCase s w × (next.case ≡ s.case + 1)) ⊎ ((ClosesCase s w → ⊥) × (next.case ≡ s.case))
    closes-or-stays =
        elim (case-grows bytes i t.offsets s w next e h.above) [
          | inl same ↦ inr (λ c. omega (arith, case-closes bytes i t.offsets s next (rw c.0 at e) c.1), same)
          | inr grows ↦ inl ((grows.0, grows.1), grows.2)
        ]

    -- and keeps the position possible
    module _ (a : allowed i.bounds i.actions (top s).line w ≡ true) where
      pub next-standing : Standing i next
      next-standing = step-possible bytes t passed s h.standing.0 h.above (omega (arith, h.steps)) h.standing.1 w a next e

      pub next-midway : next.case ≡ s.case → Midway i next left
      next-midway same =
          record {
            standing = next-standing;
            above = case_open i next (parts i next next-standing.0).depth (omega (arith, midway-open i s _ h));
            steps = omega (arith, h.steps, steps-grow bytes i t.offsets s w next e);
          }

      -- after the last case there is no frame
      pub next-finished : next.case ≡ i.cases → 0 < next.depth → ⊥
      next-finished f above = (depth-open i next (parts i next next-standing.0).depth above).0 f

-- a step of the compiled task from a position, as a step of the program
pub record Made (bytes : List ℕ) (t : Layout) (program : List ℕ) (s : Position) (f : Frame) (w : Instruction) (r : Running) : Type 0 where
  pub here : f ≡ top s
  pub next : Position
  pub running : running_of next ≡ r
  pub does : perform bytes t.index t.offsets s w ≡ go next
  pub makes : Makes bytes t.index t.offsets program s w next
  pub fits : allowed t.index.bounds t.index.actions (top s).line w ≡ true

-- a step of the program, as one by the compiled task's rules
pub record ByRules (bytes : List ℕ) (t : Layout) (lines : Frame → Instruction) (s : Position) (w : Instruction) (next : Position) : Type 0 where
  pub does : perform bytes t.index t.offsets s w ≡ go next
  pub fits : allowed t.index.bounds t.index.actions (top s).line w ≡ true
  pub same : lines (top s) ≡ w
  pub taken : Taken bytes t (top s) w (running_of s) (running_of next)

-- a program whose bytes hold these lines
module _ (bytes : List ℕ) (t : Layout) (passed : Passed bytes t) (program : List ℕ) (lines : Frame → Instruction)
    (held : (f : Frame) → Inside t.index.bounds f → instruction_on t.index program f.procedure f.line ≡ Some (lines f)) where
  pub taken-makes : (s : Position) (left : ℕ) → Midway t.index s (suc left) → {f : Frame} {w : Instruction} {r : Running} → lines f ≡ w
      → Taken bytes t f w (running_of s) r → Made bytes t program s f w r
  unfolding run_line perform_decoded
  taken-makes s left h {f} {w} same taken =
      let deep = depth-most bytes t passed s h.standing.0 h.above in
      let x = runs-performs bytes t (stack-most bytes t passed) s h.above deep h.standing.1 taken.1 in
      let line : instruction_on t.index program (top s).procedure (top s).line ≡ Some w =
      rw (← x.here) (held f (may-inside bytes t f w taken.0) ∙ ap Some same) in
      record {
        here = x.here;
        next = x.to;
        running = x.running;
        does = x.does;
        makes = record { line = line; goes = rw line x.does };
        fits = rw x.here at taken.0.allowed;
      }

  pub makes-taken : (s : Position) (left : ℕ) → Midway t.index s (suc left) → {w : Instruction} {next : Position}
      → Makes bytes t.index t.offsets program s w next → ByRules bytes t lines s w next
  unfolding run_line perform_decoded instruction_on perform
  makes-taken s left h {w} {next} makes =
      let does : perform bytes t.index t.offsets s w ≡ go next = rw makes.line at makes.goes in
      let fits = decode-allowed t.index.bounds t.index.actions (top s).line _ w makes.line in
      let inside = top-possible bytes t passed s h.standing.0 h.above h.standing.1 in
      let line = held (top s) (record { procedure = inside.0; line = inside.1 }) in
      let deep = depth-most bytes t passed s h.standing.0 h.above in
      let unfinished = midway-open t.index s _ h in
      record {
        does = does;
        fits = fits;
        same = cc (line, makes.line);
        taken = (
          record { procedure = inside.0; allowed = fits; instruction = λ e. stop-go (rw e at does) },
          performs-runs bytes t (stack-most bytes t passed) s h.above deep h.standing.1 unfinished w next does,
        );
      }
