-- The writer's run. A state of the writer stands for lines and for where a run is: its bytes hold the lines that are preset or were run, which are the
-- program's. The step that it makes there fits these lines, so its run makes the program's visits and is followed by the records that it writes; and a run
-- of the program that is followed to the finish is what the writer makes, record by record.
-- Assumes nothing.
use Prim.Native.Nat.{ℕ, zero, suc, ◌+◌, ◌≤◌, ◌<◌}
use mathlib.Core.Path.{◌≡◌, refl, sym, ap, ◌∙◌}
use mathlib.Core.List.{List, [], ◌∷◌, ◌++◌, append_assoc}
use native.Mathlib.Omega.{arith}
use lib.ListN.{length}
use Rattle.records.specs.Loop.{Turn, stop, go, after}
use Rattle.records.specs.Record.{closing}
use Rattle.task.specs.Program.{instruction_on}
use Rattle.task.specs.declared.bounds.Bounds.{Bounds}
use Rattle.task.specs.declared.index.Layout.{Layout}
use Rattle.std.specs.Prelude.{Some}
use Rattle.task.specs.declared.instruction.Instruction.{Instruction}
use Rattle.task.proofs.Laws.Passed.{Passed}
use Rattle.step.specs.Perform.{perform_decoded, run_line}
use Rattle.step.specs.Position.{top}
use Rattle.step.specs.Run.{Makes}
use Rattle.step.specs.declared.position.Frame.{Frame}
use Rattle.step.specs.declared.position.Position.{Position}
use Rattle.step.proofs.Laws.Perform.{steps-grow}
use Rattle.step.proofs.Laws.Possible.{parts, depth-open, case_open}
use Rattle.checker.specs.Answer.{Outcome, accepted}
use Rattle.checker.specs.Check.{written}
use Rattle.checker.specs.Plan.{PlanStep, instruction_of, record_of, plan_of}
use Rattle.checker.specs.Write.{Writing, write_turn, steps_left}
use Rattle.checker.specs.declared.plan.Step.{Step}
use Rattle.checker.specs.declared.plan.Step.TheVariants.{Write, Repeat}
use Rattle.checker.proofs.Laws.Turns.{Standing}
use Rattle.checker.proofs.Laws.Write.{Written, Finished, offset_here, onward, step_here, goes-written, written-goes, accepts-finished, finished-accepts, written-falls, run_from, run-turn}
use Rattle.demands.specs.Compiled.{Running}
use Rattle.demands.specs.Demand3.{Inside, bytes_on}
use Rattle.demands.proofs.Laws.Heart as heart
use Rattle.demands.proofs.Laws.Heart.{Extends, Agrees, Chain, Follows, visits_of}
use Rattle.demands.proofs.Laws.Kinds.{after-extends, step_fits, fits-step, follows-fits, visits-step, step-runs}
use Rattle.demands.proofs.Laws.Leads.{Taken, taken-filled, taken-inside}
use Rattle.demands.proofs.Laws.Makes.{Midway, midway-open, taken-makes, ByRules, makes-taken, next-standing}
use Rattle.demands.proofs.Laws.Program.{Holds}
use Rattle.demands.proofs.Laws.Runs.{running_of, runs-above}
use Rattle.demands.proofs.Laws.Steps.{Fits, lines_after, step-holds, step_room}

-- what a state of the writer stands for: some of the program's lines, and where the run is
pub record Stands (t : Layout) (program : Frame → Instruction) (s : Writing) (lines : Frame → Instruction) (r : Running) : Type 0 where
  pub running : r ≡ running_of s.position
  pub holds : Holds t.index.bounds s.lines lines
  pub extends : Extends (Inside t.index.bounds) program lines
  pub standing : Standing t.index s.position
  pub room : length s.lines ≡ 768

-- the writer's run from a state on, if it accepts: the program's visits, and the records of the steps that follow them
pub record Ran (bytes : List ℕ) (t : Layout) (program : Frame → Instruction) (s : Writing) (lines : Frame → Instruction) (r : Running) (k : ℕ) (plan : List ℕ) : Type 0 where
  pub steps : List PlanStep
  pub last : Frame → Instruction
  pub end : Running
  pub follows : Follows (Taken bytes t) lines r steps last end
  pub visits : Chain (Taken bytes t) program r (visits_of steps) end
  pub form : plan ≡ s.plan ++ plan_of steps
  pub count : k ≡ s.position.steps + length steps
  pub bound : k ≤ t.index.bounds.steps
  pub finished : end.case ≡ t.index.cases

-- a program whose bytes hold some lines
module _ (bytes : List ℕ) (t : Layout) (passed : Passed bytes t) (program : List ℕ) (lines_of : Frame → Instruction)
    (held : (f : Frame) → Inside t.index.bounds f → instruction_on t.index program f.procedure f.line ≡ Some (lines_of f)) where
  abbrev b : Bounds
  b = t.index.bounds

  -- what the run comes to from a state on
  abbrev result : Writing → Outcome
  result = run_from bytes t.index t.offsets program

  -- it is accepted with these steps behind those done
  abbrev AcceptedWith : Writing → List PlanStep → Type 0
  AcceptedWith s steps = result s ≡ accepted (s.position.steps + length steps) (s.plan ++ plan_of steps)

  abbrev turn : Writing → Turn Writing Outcome
  turn = write_turn bytes t.index t.offsets program

  module _ (s : Writing) (lines : Frame → Instruction) (r : Running) (h : Stands t lines_of s lines r) where
    abbrev p : Position
    p = s.position

    -- in an open case, with a step left
    midway : p.case < t.index.cases → p.steps < b.steps → Midway t.index p 1
    midway l few =
        record {
          standing = h.standing;
          above = case_open t.index p (parts t.index p h.standing.0).depth (omega arith);
          steps = omega arith;
        }

    -- one step: the state that it leads to stands for the lines after it, and for where it leads
    module _ (w : Instruction) (next : Position) (m : Midway t.index p 1) (x : ByRules bytes t lines_of p w next)
        (inside : Inside b (top p)) where
      abbrev here : Step
      here = step_here t.index s w

      onward-stands : Stands t lines_of (onward t.index s w next) (lines_after lines (top p) here) (running_of next)
      onward-stands =
          record {
            running = refl;
            holds = step-holds bytes t passed s.lines lines h.holds (top p) inside h.room here;
            extends = after-extends b lines_of lines (top p) h.extends here (x.same ∙ sym (step-runs _ w));
            standing = next-standing bytes t passed p 0 m w next x.does x.fits;
            room = step_room bytes t passed s.lines _ here ∙ h.room;
          }

  module _ (s : Writing) (lines : Frame → Instruction) (r : Running) (h : Stands t lines_of s lines r) where
    -- after the last case: no step, and the closing record
    finished-ran : (k : ℕ) (plan : List ℕ) → Finished bytes t.index t.offsets s program k plan → Ran bytes t lines_of s lines r k plan
    unfolding plan_of
    finished-ran k plan f =
        let q = parts t.index s.position h.standing.0 in
        record {
          steps = [];
          last = lines;
          end = r;
          follows = heart.none;
          visits = heart.none;
          form = f.closed;
          count = omega (arith, f.count);
          bound = omega (arith, f.count, q.steps);
          finished = ap (λ (u : Running). u.case) h.running ∙ omega (arith, q.case, f.case);
        }

    -- one step in front of the rest
    written-ran : (u : Writing) (k : ℕ) (plan : List ℕ) (x : Written bytes t.index t.offsets s program u)
        → ((lines' : Frame → Instruction) (r' : Running) → Stands t lines_of u lines' r' → Ran bytes t lines_of u lines' r' k plan) → Ran bytes t lines_of s lines r k plan
    unfolding plan_of run_line perform_decoded
    written-ran u k plan x again =
        let w = x.instruction in
        let p = s.position in
        let m = midway s lines r h x.case x.few in
        let y = makes-taken bytes t passed program lines_of held p 0 m {w = w} {next = x.position} (record { line = x.line; goes = rw x.line x.moves }) in
        let inside = taken-inside bytes t _ _ _ _ y.taken in
        let step = step_here t.index s w in
        let runs = step-runs (bytes_on b s.lines (top p)) w in
        let taken : Taken bytes t (top p) (instruction_of step) r (running_of x.position) = rw (runs, h.running) y.taken in
        let z = again (lines_after lines (top p) step) (running_of x.position) (rw x.to (onward-stands s lines r h w x.position m y inside)) in
        let fits = step_fits b lines_of lines (top p) s.lines h.holds inside h.extends w y.same in
        let grows = steps-grow bytes t.index t.offsets p w x.position x.moves in
        record {
          steps = record { frame = top p; step = step } ∷ z.steps;
          last = z.last;
          end = z.end;
          follows = follows-fits bytes t step fits taken z.follows;
          visits = visits-step bytes t z.steps step (y.same ∙ sym runs) taken z.visits;
          form = z.form ∙ ap (λ (v : Writing). v.plan ++ plan_of z.steps) x.to ∙ append_assoc s.plan _ (plan_of z.steps);
          count = omega (arith, z.count, ap (λ (v : Writing). v.position.steps) x.to, grows);
          bound = z.bound;
          finished = z.finished;
        }

    -- by the turn that is taken, given the rest
    turn-ran : (k : ℕ) (plan : List ℕ) (u : Turn Writing Outcome) → turn s ≡ u → after u result ≡ accepted k plan
        → ((v : Writing) → turn s ≡ go v → result v ≡ accepted k plan
        → (lines' : Frame → Instruction) (r' : Running) → Stands t lines_of v lines' r' → Ran bytes t lines_of v lines' r' k plan)
        → Ran bytes t lines_of s lines r k plan
    unfolding after
    turn-ran k plan (stop answer) f e again = finished-ran k plan (accepts-finished bytes t.index t.offsets s program k plan (f ∙ ap stop e))
    turn-ran k plan (go v) f e again = written-ran v k plan (goes-written bytes t.index t.offsets s program v f) (again v f e)

  -- a run that is accepted within so many steps
  ran-within : (n : ℕ) (s : Writing) → steps_left t.index s < n → (k : ℕ) (plan : List ℕ) → result s ≡ accepted k plan
      → (lines : Frame → Instruction) (r : Running) → Stands t lines_of s lines r → Ran bytes t lines_of s lines r k plan
  ran-within zero s l k plan e lines r h = absurd (omega arith)
  ran-within (suc n) s l k plan e lines r h =
      turn-ran s lines r h k plan (turn s) refl (sym (run-turn bytes t.index t.offsets program s) ∙ e)
      (λ v f g. ran-within n v (omega (arith, written-falls bytes t.index t.offsets s program v f)) k plan g)

  -- what the writer accepts are visits of the program, and their steps
  pub accepted-ran : (s : Writing) (lines : Frame → Instruction) (r : Running) → Stands t lines_of s lines r → (k : ℕ) (plan : List ℕ)
      → result s ≡ accepted k plan → Ran bytes t lines_of s lines r k plan
  accepted-ran s lines r h k plan e = ran-within (suc (steps_left t.index s)) s (omega arith) k plan e lines r h

  -- conversely, one step in front of the rest that the writer accepts
  module _ (s : Writing) (lines : Frame → Instruction) (r : Running) (h : Stands t lines_of s lines r) (step : Step) (rest : List PlanStep) where
    abbrev w : Instruction
    w = instruction_of step

    -- the state that it leads to
    module _ (next : Position) where
      abbrev reached : Writing
      reached =
          record {
            position = next;
            lines = written s.lines (offset_here t.index s) step;
            plan = s.plan ++ record_of (record { frame = top s.position; step = step });
          }

      here-accepted : (m : Midway t.index s.position 1) (y : ByRules bytes t lines_of s.position w next)
          → Makes bytes t.index t.offsets program s.position w next → Fits lines (top s.position) step
          → (Stands t lines_of reached (lines_after lines (top s.position) step) (running_of next)
          → AcceptedWith reached rest)
          → AcceptedWith s (record { frame = top s.position; step = step } ∷ rest)
      unfolding after plan_of
      here-accepted m y makes fits again =
          let p = s.position in
          let inside = taken-inside bytes t _ _ _ _ y.taken in
          let same = fits-step b lines_of lines (top p) s.lines h.holds inside step (taken-filled bytes t _ _ _ _ y.taken) fits in
          let goes =
          written-goes bytes t.index t.offsets s program reached
          (record {
            instruction = w;
            position = next;
            case = midway-open t.index p 1 m;
            few = omega (arith, m.steps);
            line = makes.line;
            moves = y.does;
            to = rw same refl;
          }) in
          run-turn bytes t.index t.offsets program s
          ∙ ap (λ (u : Turn Writing Outcome). after u result) goes
          ∙ again (rw same at (onward-stands s lines r h w next m y inside))
          ∙ cc (append_assoc s.plan (record_of (record { frame = top p; step = step })) (plan_of rest), more)
        where
          more : next.steps + length rest ≡ s.position.steps + suc (length rest)
          more = omega (arith, steps-grow bytes t.index t.offsets s.position w next y.does)

      -- at the frame that the step names, which is the top one
      placed-accepted : (f : Frame) (r' : Running) → f ≡ top s.position → running_of next ≡ r' → (m : Midway t.index s.position 1)
          (y : ByRules bytes t lines_of s.position w next)
          → Makes bytes t.index t.offsets program s.position w next → Fits lines f step
          → ((u : Writing) → Stands t lines_of u (lines_after lines f step) r' → u.position.steps + length rest ≤ b.steps
          → AcceptedWith u rest)
          → s.position.steps + suc (length rest) ≤ b.steps
          → AcceptedWith s (record { frame = f; step = step } ∷ rest)
      placed-accepted f r' e g m y makes fits again bound =
          let grows = steps-grow bytes t.index t.offsets s.position w next y.does in
          rw e (here-accepted m y makes (rw e at fits) (λ stands. again reached (rw (e, ← g) stands) (omega (arith, grows))))

    step-accepted : {f : Frame} {r' : Running} → Fits lines f step → Taken bytes t f w r r' → lines_of f ≡ w
        → s.position.steps + suc (length rest) ≤ b.steps
        → ((u : Writing) → Stands t lines_of u (lines_after lines f step) r' → u.position.steps + length rest ≤ b.steps
        → AcceptedWith u rest)
        → AcceptedWith s (record { frame = f; step = step } ∷ rest)
    step-accepted {f} {r'} fits taken same bound again =
        let p = s.position in
        let taken_here : Taken bytes t f w (running_of p) r' = rw (← h.running) taken in
        let above = runs-above bytes t p taken_here.1 in
        let q = parts t.index p h.standing.0 in
        let unfinished : p.case < t.index.cases = omega (arith, q.case, (depth-open t.index p q.depth above).0) in
        let m = midway s lines r h unfinished (omega arith) in
        let x = taken-makes bytes t passed program lines_of held p 0 m same taken_here in
        let y = makes-taken bytes t passed program lines_of held p 0 m x.makes in
        placed-accepted x.next f r' x.here x.running m y x.makes fits again bound

  -- a plan that is followed to the finish, with the program's visits, is what the writer writes
  pub followed-accepted : {lines last : Frame → Instruction} {r end : Running} {steps : List PlanStep} → Follows (Taken bytes t) lines r steps last end
      → Agrees lines_of (visits_of steps) → end.case ≡ t.index.cases → (s : Writing) → Stands t lines_of s lines r
      → s.position.steps + length steps ≤ b.steps
      → AcceptedWith s steps
  unfolding after plan_of instruction_of Agrees
  followed-accepted heart.none agrees finished s h bound =
      run-turn bytes t.index t.offsets program s
      ∙ ap (λ (u : Turn Writing Outcome). after u result)
      (finished-accepts bytes t.index t.offsets s program (s.position.steps + 0) (s.plan ++ closing)
      (record { case = omega (arith, finished, ap (λ (u : Running). u.case) h.running); count = omega arith; closed = refl }))
  followed-accepted (heart.writes {w = w} {rest} empty taken more) agrees finished s h bound =
      step-accepted s _ _ h (Write w) rest empty taken agrees.0 bound (λ u stands few. followed-accepted more agrees.1 finished u stands few)
  followed-accepted (heart.repeats {w = w} {rest} same taken more) agrees finished s h bound =
      step-accepted s _ _ h (Repeat w) rest same taken agrees.0 bound (λ u stands few. followed-accepted more agrees.1 finished u stands few)
