-- The run of a program by the writer, step by step. A turn that goes on has performed the instruction on the top frame's line, and put its
-- record behind the others; one that accepts stands behind the last case; one that refuses has the question that stops the program there. So
-- a turn that goes on has one step more, and the loop's law applies: what the run comes to from here on is one turn, and then what it comes
-- to from there on. It keeps the position possible, and a run has at most S steps.
-- Assumes nothing.
use Prim.Native.Nat.{ℕ, ◌+◌, ◌≤◌, ◌<◌}
use mathlib.Core.Path.{◌≡◌, refl, sym, ap, ◌∙◌, subst}
use mathlib.Core.Bool.{true}
use mathlib.Core.List.{List, ◌++◌}
use native.Mathlib.Omega.{arith}
use lib.Dec.{ltb}
use lib.ListN.{length}
use borrow.Author.Tests.{ltb-true, ltb-false, lt-ltb, le-ltb}
use Rattle.records.specs.Loop.{Turn, stop, go, ask, after, loop}
use Rattle.records.specs.Numbers.{number_bytes}
use Rattle.records.specs.Record.{record_bytes, closing}
use Rattle.records.proofs.Laws.Loop.{Keeps, unroll, loop-keeps}
use Rattle.records.proofs.Laws.Tests.{cond_either, cond_yes}
use Rattle.task.specs.Instruction.{triple_at}
use Rattle.task.specs.Program.{line_offset, instruction_on}
use Rattle.task.specs.declared.index.Index.{Index}
use Rattle.task.specs.declared.index.Layout.{Layout}
use Rattle.std.specs.Prelude.{Some}
use Rattle.task.specs.declared.instruction.Instruction.{Instruction}
use Rattle.task.proofs.Laws.Passed.{Passed}
use Rattle.task.proofs.Laws.Triple.{decoded-on}
use Rattle.step.specs.Perform.{perform, perform_decoded, run_line, run_step}
use Rattle.step.specs.Position.{starting, top}
use Rattle.step.specs.Questions.{STEPS}
use Rattle.step.specs.declared.position.Position.{Position}
use Rattle.step.proofs.Laws.Kept.{run-possible}
use Rattle.step.proofs.Laws.Perform.{steps-grow, step-ran, step-number}
use Rattle.step.proofs.Laws.Possible.{parts, case_open}
use Rattle.checker.specs.Answer.{Outcome, refused, accepted}
use Rattle.checker.specs.Check.{written}
use Rattle.checker.specs.Plan.{PlanStep, record_of}
use Rattle.checker.specs.Write.{Writing, step_on, on_step, write_turn, steps_left, start, run}
use Rattle.checker.specs.declared.plan.Step.{Step}
use Rattle.checker.proofs.Laws.Turns.{Standing, Within}

-- a step's record has 9 bytes, the closing one 4
pub record-length : (s : PlanStep) → length (record_of s) ≡ 9
unfolding record_of record_bytes number_bytes
record-length s = refl

pub closing-length : length closing ≡ 4
unfolding closing record_bytes number_bytes
closing-length = refl

module _ (i : Index) (s : Writing) where
  -- where the top frame's line begins
  abbrev pub offset_here : ℕ
  offset_here = line_offset i.bounds (top s.position).procedure (top s.position).line

  -- the step that an instruction makes there
  abbrev pub step_here : Instruction → Step
  step_here w = step_on (triple_at s.lines offset_here) w

  -- the state that it leads to
  abbrev pub onward : Instruction → Position → Writing
  onward w position =
      record {
        position = position;
        lines = written s.lines offset_here (step_here w);
        plan = s.plan ++ record_of (record { frame = top s.position; step = step_here w });
      }

module _ (bytes : List ℕ) (i : Index) (offsets : List ℕ) (s : Writing) (program : List ℕ) where
  -- a turn that goes on: the instruction on the top frame's line is performed, and its record put behind the others
  pub record Written (u : Writing) : Type 0 where
    pub instruction : Instruction
    pub position : Position
    pub case : s.position.case < i.cases
    pub few : s.position.steps < i.bounds.steps
    pub line : instruction_on i program (top s.position).procedure (top s.position).line ≡ Some instruction
    pub moves : perform bytes i offsets s.position instruction ≡ go position
    pub to : u ≡ onward i s instruction position

  -- a turn that accepts: no case is left, and the closing record is put behind the others
  pub record Finished (steps : ℕ) (plan : List ℕ) : Type 0 where
    pub case : i.cases ≤ s.position.case
    pub count : steps ≡ s.position.steps
    pub closed : plan ≡ s.plan ++ closing

  -- a turn that refuses: the program's step stops with the question, and the place is the number of steps done
  pub record Halted (question place : ℕ) : Type 0 where
    pub case : s.position.case < i.cases
    pub stops : run_step bytes i offsets program s.position ≡ stop question
    pub count : place ≡ s.position.steps

  abbrev Ended : Outcome → Type 0
  Ended (refused question place) = Halted question place
  Ended (accepted steps plan) = Finished steps plan

  abbrev Says : Turn Writing Outcome → Type 0
  Says = Keeps Written Ended

  -- the step of an instruction that the line holds is the one that it leads onward with
  step-onward : (w : Instruction) (position : Position) → instruction_on i program (top s.position).procedure (top s.position).line ≡ Some w
      → on_step i program s (go position) ≡ go (onward i s w position)
  unfolding on_step
  step-onward w position e = rw (decoded-on i program (top s.position).procedure (top s.position).line w e).1 refl

  step-says : s.position.case < i.cases → (u : Turn Position ℕ) → run_step bytes i offsets program s.position ≡ u → Says (on_step i program s u)
  unfolding on_step
  step-says case (stop question) e = record { case = case; stops = e; count = refl }
  step-says case (go position) e =
      let ran = step-ran bytes i offsets s.position program position e in
      let w = ran.1.instruction in
      subst Says (sym (step-onward w position ran.1.here))
      (record { instruction = w; position = position; case = case; few = ran.0; line = ran.1.here; moves = ran.1.does; to = refl })

  turn-says : Says (write_turn bytes i offsets program s)
  unfolding write_turn
  turn-says =
      cond_either Says (ltb s.position.case i.cases) _ _
      (λ h. step-says (ltb-true _ _ h) _ refl)
      (λ h. record { case = ltb-false _ _ h; count = refl; closed = refl })

  -- a turn that goes on performed the line's instruction, and one that can be performed is
  pub goes-written : (u : Writing) → write_turn bytes i offsets program s ≡ go u → Written u
  goes-written u e = rw e at turn-says

  pub written-runs : (u : Writing) (w : Written u) → run_step bytes i offsets program s.position ≡ go w.position
  unfolding run_step run_line perform_decoded ask
  written-runs u w = simp (lt-ltb _ _ w.few, w.line, w.moves)

  pub written-goes : (u : Writing) → Written u → write_turn bytes i offsets program s ≡ go u
  unfolding write_turn
  written-goes u w =
      sym (cond_yes _ true _ _ (sym (lt-ltb s.position.case i.cases w.case)) refl)
      ∙ ap (on_step i program s) (written-runs u w)
      ∙ step-onward w.instruction w.position w.line
      ∙ ap go (sym w.to)

  -- a turn that accepts stands behind the last case, and there it does accept
  pub accepts-finished : (steps : ℕ) (plan : List ℕ) → write_turn bytes i offsets program s ≡ stop (accepted steps plan) → Finished steps plan
  accepts-finished steps plan e = rw e at turn-says

  pub finished-accepts : (steps : ℕ) (plan : List ℕ) → Finished steps plan → write_turn bytes i offsets program s ≡ stop (accepted steps plan)
  unfolding write_turn
  finished-accepts steps plan f = simp (le-ltb _ _ f.case, f.count, f.closed)

  -- a turn that refuses has the question that stops the program's step
  pub refuses-halted : (question place : ℕ) → write_turn bytes i offsets program s ≡ stop (refused question place) → Halted question place
  refuses-halted question place e = rw e at turn-says

  -- a turn that goes on has one step more, within the step bound
  pub written-steps : (u : Writing) → Written u → u.position.steps ≡ s.position.steps + 1
  written-steps u w = rw w.to (steps-grow bytes i offsets s.position w.instruction w.position w.moves)

  pub written-falls : (u : Writing) → write_turn bytes i offsets program s ≡ go u → steps_left i u < steps_left i s
  written-falls u e = let w = goes-written u e in omega (arith, w.few, written-steps u w)

-- a turn that goes on leads to a possible position again
pub written_stands : (bytes : List ℕ) (t : Layout) → Passed bytes t → (s u : Writing) (program : List ℕ) → Standing t.index s.position
    → write_turn bytes t.index t.offsets program s ≡ go u → Standing t.index u.position
written_stands bytes t passed s u program h e =
    let w = goes-written bytes t.index t.offsets s program u e in
    let p = s.position in
    let above = case_open t.index p (parts t.index p h.0).depth (omega (arith, w.case)) in
    rw w.to (run-possible bytes t passed p h.0 above h.1 program w.position (written-runs bytes t.index t.offsets s program u w))

-- what the run comes to from a state on
unfoldable pub run_from : List ℕ → Index → List ℕ → List ℕ → Writing → Outcome
run_from bytes i offsets program = loop (write_turn bytes i offsets program) (steps_left i) (refused STEPS 0)

module _ (bytes : List ℕ) (i : Index) (offsets program : List ℕ) where
  pub run-start : (presets : List ℕ)
      → run_from bytes i offsets program (start bytes i presets) ≡ run bytes (record { index = i; offsets = offsets; presets = presets }) program
  unfolding run_from run
  run-start presets = refl

  -- one turn, and then the rest
  pub run-turn : (s : Writing) → run_from bytes i offsets program s ≡ after (write_turn bytes i offsets program s) (run_from bytes i offsets program)
  unfolding run_from
  run-turn s =
      unroll (write_turn bytes i offsets program) (steps_left i) (refused STEPS 0)
      (λ u v. written-falls bytes i offsets u program v) s

  -- a run is within the step bound, as a plan is: so are the steps that it is accepted with, and those after which it stops
  abbrev Few : Writing → Type 0
  Few s = s.position.steps ≤ i.bounds.steps

  turn-within : (s : Writing) → Few s → (u : Turn Writing Outcome) → write_turn bytes i offsets program s ≡ u → Keeps Few (Within i) u
  turn-within s h (go u) e =
      let w = goes-written bytes i offsets s program u e in
      omega (arith, w.few, written-steps bytes i offsets s program u w)
  turn-within s h (stop (refused question place)) e =
      let r = refuses-halted bytes i offsets s program question place e in
      (step-number bytes i offsets s.position program question r.stops, omega (arith, h, r.count))
  turn-within s h (stop (accepted steps plan)) e = omega (arith, h, (accepts-finished bytes i offsets s program steps plan e).count)

  pub run-within : (presets : List ℕ) → Within i (run bytes (record { index = i; offsets = offsets; presets = presets }) program)
  unfolding run start starting
  run-within presets =
      loop-keeps Few (Within i) (write_turn bytes i offsets program) (steps_left i) (refused STEPS 0) (λ s h. turn-within s h _ refl) (omega arith)
      (start bytes i presets) (omega arith)
