-- The compiled planning task: lines are written and repeated after Jiménez and Jonsson, and run with a call stack after Segovia-Aguas, Jiménez and
-- Jonsson. A plan for it writes a planning program and runs it on every case. Its states say which instruction each line holds, which case is
-- active, which facts are true and where the run is. For each instruction that is allowed on a line there are two actions: one writes it on the
-- line, which must be empty, and runs it; the other runs it again where it stands. All of it is said by rules, one for each way that an action
-- can go. As docs/FORMATS.md rules and the papers do not, a fact that effects which fire both raise and lower is true (the papers' sets of literals never
-- have a fact both ways), the last case's goal is asked at its end, nothing applies after the finish, lines may be preset, any procedure may be called, and
-- a goto may name its own line.
-- `bytes` are the task's, `t` their layout.
use Rattle.std.specs.Prelude.{ℕ, ◌+◌, ◌<◌, ◌≡◌, true, false, cond, List, [], ◌∷◌, length, get_or}
use Rattle.task.specs.Index.{action_at, effects_of, case_at}
use Rattle.task.specs.Instruction.{allowed}
use Rattle.task.specs.Program.{spelled_on}
use Rattle.task.specs.declared.bounds.Bounds.{Bounds}
use Rattle.task.specs.declared.index.Case.{Case}
use Rattle.task.specs.declared.index.Layout.{Layout}
use Rattle.task.specs.declared.instruction.Line.{Line}
use Rattle.task.specs.declared.instruction.Proc.{Proc}
use Rattle.task.specs.declared.instruction.Instruction.{Instruction}
use Rattle.task.specs.declared.instruction.Instruction.TheVariants.{Empty, Act, Goto, Call, End}
use Rattle.step.specs.Effects.{changes_of, changed}
use Rattle.step.specs.Facts.{has, holds}
use Rattle.step.specs.Position.{same_frame}
use Rattle.step.specs.declared.position.Frame.{Frame}
use Rattle.checker.specs.Plan.{PlanStep}
use Rattle.checker.specs.declared.plan.Step.TheVariants.{Write, Repeat}

-- a line of a procedure, as the papers' pair (j, i)
abbrev pub at : Proc → ℕ → Frame
at j i = record { procedure = j; line = record { 0 = i } }

-- where a run is: the active case, the facts that are true, and the call stack, its top first
pub record Running : Type 0 where
  pub case : ℕ
  pub facts : ℕ
  pub stack : List Frame

-- the same, in one line: case c, facts s, and a stack
abbrev run : ℕ → ℕ → List Frame → Running
run c s stack = record { case = c; facts = s; stack = stack }

-- a state: the instruction on each line, empty where none is written yet, and where the run is
pub record State : Type 0 where
  pub lines : Frame → Instruction
  pub running : Running

-- the lines with one of them written
unfoldable pub written_at : (Frame → Instruction) → Frame → Instruction → Frame → Instruction
written_at lines f w g = cond (same_frame f g) w (lines g)

-- the instruction on a line of a program
abbrev pub instruction_at : Bounds → List ℕ → Frame → Instruction
instruction_at b program f = spelled_on b program f.procedure f.line

module _ (bytes : List ℕ) (t : Layout) where
  -- case number c: the facts true at its start, and its goal
  abbrev case_of : ℕ → Case
  case_of c = case_at bytes t.index.first c

  -- a case from its start, on line 0 of procedure 0
  abbrev pub started : ℕ → Running
  started c = run c (case_of c).start (at (record { 0 = 0 }) 0 ∷ [])

  -- where the record of an action is
  abbrev offset_of : ℕ → ℕ
  offset_of action = get_or t.offsets action 0

  -- running an instruction that the top frame (j, i) is at
  pub data Runs : Frame → Instruction → Running → Running → Type 0 where
    -- an action whose precondition holds changes the facts; the line grows by 1
    acts : {action c s i : ℕ} {j : Proc} {below : List Frame}
        → holds s (action_at bytes (offset_of action)).precondition ≡ true
        → Runs (at j i) (Act action)
        (run c s (at j i ∷ below))
        (run c (changed s (changes_of s (effects_of bytes (offset_of action)))) (at j (i + 1) ∷ below))
    -- a goto jumps if its fact is false
    jumps : {fact c s i : ℕ} {target : Line} {j : Proc} {below : List Frame}
        → has s fact ≡ false
        → Runs (at j i) (Goto target fact) (run c s (at j i ∷ below)) (run c s (at j target.0 ∷ below))
    -- if it is true the line grows by 1
    continues : {fact c s i : ℕ} {target : Line} {j : Proc} {below : List Frame}
        → has s fact ≡ true
        → Runs (at j i) (Goto target fact) (run c s (at j i ∷ below)) (run c s (at j (i + 1) ∷ below))
    -- a call, with fewer than m frames: the line grows by 1, and line 0 of the procedure is pushed
    calls : {c s i : ℕ} {j p : Proc} {below : List Frame}
        → length (at j i ∷ below) < t.index.bounds.stack
        → Runs (at j i) (Call p) (run c s (at j i ∷ below)) (run c s (at p 0 ∷ at j (i + 1) ∷ below))
    -- an end with a frame below pops
    returns : {c s i : ℕ} {j : Proc} {f : Frame} {below : List Frame}
        → Runs (at j i) End (run c s (at j i ∷ f ∷ below)) (run c s (f ∷ below))
    -- an end with one frame in the case's goal: the next case, from its start
    begins : {c s i : ℕ} {j : Proc}
        → holds s (case_of c).goal ≡ true
        → c + 1 < t.index.cases
        → Runs (at j i) End (run c s (at j i ∷ [])) (started (c + 1))
    -- after the last one: no frame, and the case is the number of cases
    finishes : {c s i : ℕ} {j : Proc}
        → holds s (case_of c).goal ≡ true
        → c + 1 ≡ t.index.cases
        → Runs (at j i) End (run c s (at j i ∷ [])) (run (c + 1) s [])

  -- an instruction that may stand on a line of a procedure: the procedure is below b, the instruction allowed on the line and not empty
  pub record MayStand (f : Frame) (w : Instruction) : Type 0 where
    pub procedure : f.procedure.0 < t.index.bounds.procedures
    pub allowed : allowed t.index.bounds t.index.actions f.line w ≡ true
    pub instruction : w ≡ Empty → ⊥

  -- the two actions of each instruction at each frame, from a state to the next
  pub data Applies : PlanStep → State → State → Type 0 where
    -- writes the instruction on its line, which is empty, and runs it
    writes : {f : Frame} {w : Instruction} {lines : Frame → Instruction} {r r' : Running}
        → MayStand f w
        → lines f ≡ Empty
        → Runs f w r r'
        → Applies (record { frame = f; step = Write w })
        (record { lines = lines; running = r })
        (record { lines = written_at lines f w; running = r' })
    -- runs the instruction that its line holds
    repeats : {f : Frame} {w : Instruction} {lines : Frame → Instruction} {r r' : Running}
        → MayStand f w
        → lines f ≡ w
        → Runs f w r r'
        → Applies (record { frame = f; step = Repeat w })
        (record { lines = lines; running = r })
        (record { lines = lines; running = r' })

  -- steps applied one after the other
  pub data Leads : State → List PlanStep → State → Type 0 where
    none : {s : State} → Leads s [] s
    then : {s u v : State} {a : PlanStep} {rest : List PlanStep} → Applies a s u → Leads u rest v → Leads s (a ∷ rest) v

  -- the instruction that a line of the program is preset to, empty where it is not
  abbrev pub preset_on : Frame → Instruction
  preset_on = instruction_at t.index.bounds t.presets

  -- the initial state: the preset lines, and the first case from its start
  abbrev pub initial : State
  initial = record { lines = preset_on; running = started 0 }

  -- the steps solve the task, and end in a state: all cases are finished there
  pub record Solves (steps : List PlanStep) (final : State) : Type 0 where
    pub leads : Leads initial steps final
    pub finished : final.running.case ≡ t.index.cases
