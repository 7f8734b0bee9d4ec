-- One step of a plan: the checker's turn and the compiled task's action are the same thing. A state of the checker stands for a state of the
-- compiled task if its position is where that state's run is and its program's bytes hold that state's lines. From such states a turn that
-- goes on applies the action that its record spells, and an action that applies is what the turn does with the action's record; and the states
-- afterwards stand for one another again.
-- Assumes nothing.
use Prim.Native.Nat.{ℕ, ◌+◌, ◌≤◌, ◌<◌}
use mathlib.Core.Path.{◌≡◌, refl, sym, ◌∙◌, subst}
use mathlib.Core.Bool.{true}
use mathlib.Core.List.{List, ◌++◌}
use mathlib.Core.Logic.{◌↔◌}
use native.Mathlib.Omega.{arith}
use lib.ListN.{length, drop}
use Rattle.records.specs.Loop.{go}
use Rattle.task.specs.Bounds.{program_size}
use Rattle.task.specs.Instruction.{decode_for, encode}
use Rattle.task.specs.Program.{line_offset}
use Rattle.task.specs.declared.bounds.Bounds.{Bounds}
use Rattle.task.specs.declared.index.Layout.{Layout}
use Rattle.std.specs.Prelude.{Some}
use Rattle.task.specs.declared.instruction.Instruction.{Instruction}
use Rattle.task.specs.declared.instruction.Instruction.TheVariants.{Empty}
use Rattle.task.specs.declared.instruction.Triple.{Triple}
use Rattle.task.proofs.Laws.Bounds.{ranges}
use Rattle.task.proofs.Laws.Instruction.{allowed-line, decoded-for, for-decoded, put-length}
use Rattle.task.proofs.Laws.Passed.{Passed}
use Rattle.step.specs.Position.{top}
use Rattle.step.specs.Possible.{possible}
use Rattle.step.specs.declared.position.Frame.{Frame}
use Rattle.step.specs.declared.position.Position.{Position}
use Rattle.step.proofs.Laws.Perform.{steps-grow}
use Rattle.step.proofs.Laws.Possible.{parts, depth-open, case_open}
use Rattle.checker.specs.Check as check
use Rattle.checker.specs.Check.{turn_of, written, line_fits}
use Rattle.checker.specs.Plan.{PlanStep, instruction_of, kind_of, step_of, frame_at, record_of}
use Rattle.checker.specs.declared.plan.Step.{Step}
use Rattle.checker.specs.declared.plan.Step.TheVariants.{Write, Repeat}
use Rattle.checker.proofs.Laws.Answer.{size-most}
use Rattle.checker.proofs.Laws.Check.{same-frame, step-instruction}
use Rattle.checker.proofs.Laws.Turns.{reached, Went, goes-went, went-goes, Standing, turn-stands}
use Rattle.demands.specs.Compiled.{State, Running, written_at, Runs, MayStand, Applies, writes, repeats}
use Rattle.demands.specs.Demand3.{Inside, bytes_on}
use Rattle.demands.proofs.Laws.Plan.{step-read, step-written, step-again}
use Rattle.demands.proofs.Laws.Program.{Holds, write-fits, repeat-fits, frame_same, holds-written}
use Rattle.demands.proofs.Laws.Runs.{running_of, performs-runs, runs-performs, runs-above}

-- what a step asks of its line: a write that it is empty, a repeat that it holds the instruction
abbrev pub Fits : (Frame → Instruction) → Frame → Step → Type 0
Fits lines f (Write w) = lines f ≡ Empty
Fits lines f (Repeat w) = lines f ≡ w

-- the lines after a step
abbrev pub lines_after : (Frame → Instruction) → Frame → Step → Frame → Instruction
lines_after lines f (Write w) = written_at lines f w
lines_after lines f (Repeat w) = lines

-- an action of the compiled task, with its kind left open
module _ (bytes : List ℕ) (t : Layout) where
  record Applied (a : PlanStep) (c d : State) : Type 0 where
    may : MayStand bytes t a.frame (instruction_of a.step)
    fits : Fits c.lines a.frame a.step
    runs : Runs bytes t a.frame (instruction_of a.step) c.running d.running
    lines : d.lines ≡ lines_after c.lines a.frame a.step

  applies-applied : {a : PlanStep} {c d : State} → Applies bytes t a c d → Applied a c d
  unfolding instruction_of
  applies-applied (writes may empty runs) = record { may = may; fits = empty; runs = runs; lines = refl }
  applies-applied (repeats may same runs) = record { may = may; fits = same; runs = runs; lines = refl }

  action-applies : (f : Frame) (step : Step) (c : State) (r : Running) → MayStand bytes t f (instruction_of step) → Fits c.lines f step
      → Runs bytes t f (instruction_of step) c.running r
      → Applies bytes t (record { frame = f; step = step }) c (record { lines = lines_after c.lines f step; running = r })
  unfolding instruction_of
  action-applies f (Write w) c r may fits runs = writes may fits runs
  action-applies f (Repeat w) c r may fits runs = repeats may fits runs

-- question 15 decodes the bytes of an instruction exactly where it may stand, which is on a line of the program
module _ (bytes : List ℕ) (t : Layout) (f : Frame) (w : Instruction) where
  abbrev b : Bounds
  b = t.index.bounds

  decoded-may : (x : Triple) → decode_for b t.index.actions f.procedure f.line x ≡ Some w → MayStand bytes t f w × (encode w ≡ x)
  decoded-may x e =
      let d = decoded-for b t.index.actions f.procedure f.line x w e in
      (record { procedure = d.procedure; allowed = d.allowed; instruction = d.nonempty }, d.encodes)

  may-decoded : MayStand bytes t f w → decode_for b t.index.actions f.procedure f.line (encode w) ≡ Some w
  may-decoded m = for-decoded b t.index.actions f.procedure f.line w m.procedure m.allowed m.instruction

  pub may-inside : MayStand bytes t f w → Inside t.index.bounds f
  may-inside m = record { procedure = m.procedure; line = allowed-line b t.index.actions f.line w m.allowed }

module _ (bytes : List ℕ) (t : Layout) (passed : Passed bytes t) where
  -- a state of the checker that stands for one of the compiled task
  pub record Stands (s : check.State) (c : State) : Type 0 where
    pub running : c.running ≡ running_of s.position
    pub holds : Holds t.index.bounds s.program c.lines
    pub standing : Standing t.index s.position
    pub room : length s.program ≡ 768

  pub stack-most : t.index.bounds.stack ≤ 16
  stack-most = (ranges t.index.bounds passed.bounded).stack.1

  pub depth-most : (p : Position) → possible t.index p ≡ true → 0 < p.depth → p.depth ≤ 16
  depth-most p h above = omega (arith, stack-most, depth-open t.index p (parts t.index p h).depth above)

  size_room : (program : List ℕ) → length program ≡ 768 → program_size t.index.bounds ≤ length program
  size_room program e = omega (arith, size-most t.index.bounds passed.bounded)

  module _ (program : List ℕ) (lines : Frame → Instruction) (holds : Holds t.index.bounds program lines) (f : Frame)
      (inside : Inside t.index.bounds f) where
    -- question 18 is what a step asks of its line
    line-fits : (step : Step) → (line_fits (bytes_on t.index.bounds program f) step ≡ true) ↔ Fits lines f step
    line-fits (Write w) = write-fits t.index.bounds program lines holds f inside w
    line-fits (Repeat w) = repeat-fits t.index.bounds program lines holds f inside w

    -- the bytes after a step hold the lines after it
    pub step-holds : length program ≡ 768 → (step : Step)
        → Holds t.index.bounds (written program (line_offset t.index.bounds f.procedure f.line) step) (lines_after lines f step)
    unfolding written
    step-holds room (Write w) = holds-written t.index.bounds program lines (size_room program room) holds f inside w
    step-holds room (Repeat w) = holds

  pub step_room : (program : List ℕ) (at : ℕ) (step : Step) → length (written program at step) ≡ length program
  unfolding written
  step_room program at (Write w) = put-length program at (encode w)
  step_room program at (Repeat w) = refl

  module _ (plan : List ℕ) (s : check.State) (c : State) (h : Stands s c) where
    abbrev p : Position
    p = s.position

    -- a turn to state `u`, as an action: the one that its record spells applies, and the states afterwards stand for one another
    pub record Action (u : check.State) : Type 0 where
      pub action : PlanStep
      pub to : State
      pub applies : Applies bytes t action c to
      pub stands : Stands u to
      pub spells : drop s.at plan ≡ record_of action ++ drop u.at plan
      pub counts : u.position.steps ≡ p.steps + 1
      pub few : p.steps < t.index.bounds.steps

    went-action : (u : check.State) (w : Went bytes t.index t.offsets plan s u)
        → Action (reached bytes t.index t.offsets plan s w.kind w.next (frame_at plan w.body) w.instruction w.position)
    went-action u w =
        let k = w.taken in
        let r = w.read in
        let f = frame_at plan w.body in
        let step = step_of w.kind w.instruction in
        let may = decoded-may bytes t f w.instruction _ k.decoded in
        let inside = may-inside bytes t f w.instruction may.0 in
        let above = case_open t.index p (parts t.index p h.standing.0).depth (omega (arith, k.case)) in
        let same = same-frame f (top p) k.here in
        let deep = depth-most p h.standing.0 above in
        let runs = performs-runs bytes t stack-most p above deep h.standing.1 k.case w.instruction w.position k.moves in
        let instruction = step-instruction w.kind w.instruction in
        let goes = went-goes bytes t.index t.offsets plan s u w in
        record {
          action = record { frame = f; step = step };
          to = record { lines = lines_after c.lines f step; running = running_of w.position };
          applies =
              action-applies bytes t f step c (running_of w.position) (rw instruction may.0)
              ((line-fits s.program c.lines h.holds f inside step).0 k.line) (rw (instruction, same, h.running) runs);
          stands =
              record {
                running = refl;
                holds = step-holds s.program c.lines h.holds f inside h.room step;
                standing = subst (λ (x : check.State). Standing t.index x.position) w.to (turn-stands bytes t passed plan s u h.standing goes);
                room = step_room s.program _ step ∙ h.room;
              };
          spells = step-written plan s.at w.kind w.body w.size w.next r.found r.fits r.known r.step w.instruction (sym may.1);
          counts = steps-grow bytes t.index t.offsets p w.instruction w.position k.moves;
          few = k.few;
        }

    pub turn-action : (u : check.State) → turn_of bytes t.index t.offsets plan s ≡ go u → Action u
    turn-action u e =
        let w = goes-went bytes t.index t.offsets plan s u e in
        subst Action (sym w.to) (went-action u w)

    -- an action that applies is what the turn does with the action's record
    pub record Turned (d : State) (rest : List ℕ) : Type 0 where
      pub to : check.State
      pub turns : turn_of bytes t.index t.offsets plan s ≡ go to
      pub stands : Stands to d
      pub behind : drop to.at plan ≡ rest
      pub counts : to.position.steps ≡ p.steps + 1

    pub applies-turns : (a : PlanStep) (d : State) (rest : List ℕ) → Applies bytes t a c d → drop s.at plan ≡ record_of a ++ rest
        → p.steps < t.index.bounds.steps → Turned d rest
    applies-turns a d rest e spells few =
        let x = applies-applied bytes t e in
        let w = instruction_of a.step in
        let r = step-read plan s.at a rest spells in
        let inside = may-inside bytes t a.frame w x.may in
        let runs = rw h.running at x.runs in
        let above = runs-above bytes t p runs in
        let q = parts t.index p h.standing.0 in
        let does = runs-performs bytes t stack-most p above (depth-most p h.standing.0 above) h.standing.1 runs in
        let again = step-again a.step in
        let to : check.State =
        record {
          at = r.next;
          position = does.to;
          program = written s.program (line_offset t.index.bounds a.frame.procedure a.frame.line) a.step;
        } in
        let fits = (line-fits s.program c.lines h.holds a.frame inside a.step).1 x.fits in
        let goes =
        went-goes bytes t.index t.offsets plan s to
        (record {
          kind = kind_of a.step;
          body = r.body;
          size = r.size;
          next = r.next;
          instruction = w;
          position = does.to;
          read = record { found = r.found; known = r.kind; fits = r.fits; step = r.more };
          taken =
              record {
                few = few;
                decoded = rw (r.frame, r.triple) (may-decoded bytes t a.frame w x.may);
                case = omega (arith, q.case, (depth-open t.index p q.depth above).0);
                here = rw (r.frame, does.here) (frame_same (top p));
                line = rw (r.frame, again) fits;
                moves = does.does;
              };
          to = rw (r.frame, again) refl;
        }) in
        record {
          to = to;
          turns = goes;
          stands =
              record {
                running = sym does.running;
                holds = rw x.lines (step-holds s.program c.lines h.holds a.frame inside h.room a.step);
                standing = turn-stands bytes t passed plan s to h.standing goes;
                room = step_room s.program _ a.step ∙ h.room;
              };
          behind = r.behind;
          counts = steps-grow bytes t.index t.offsets p w does.to does.does;
        }
