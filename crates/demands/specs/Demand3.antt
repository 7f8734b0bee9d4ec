-- Demand 3: checker and writer are inverse to one another. Each half is one claim about all the steps of all the cases. First half: if the checker
-- accepts a plan, the program that it gives ends every case in its goal, the plan is made of the steps of these runs, and the writer gives the plan back.
-- Second half: the writer accepts a program exactly if the program passes 25 to 27 and ends every case in its goal within the step bound, and then the checker accepts what
-- was written and gives back the lines that the runs visit, and the preset ones.
use Rattle.std.specs.Prelude.{ℕ, ◌≤◌, ◌<◌, ◌≡◌, Bool, true, false, cond, ◌||◌, List, [], ◌∷◌, ◌++◌, ◌↔◌, ltb, length, take, drop, get_or}
use Rattle.task.specs.Bounds.{program_size}
use Rattle.task.specs.Program.{line_bytes, instruction_on, is_instruction}
use Rattle.task.specs.Reading.{read_task}
use Rattle.task.specs.declared.bounds.Bounds.{Bounds}
use Rattle.task.specs.declared.index.Layout.{Layout}
use Rattle.task.specs.declared.instruction.Instruction.{Instruction}
use Rattle.task.specs.declared.instruction.Instruction.TheVariants.{Empty}
use Rattle.task.specs.declared.instruction.Triple.{Triple}
use Rattle.task.specs.Verdict.{Accepted, Refused}
use Rattle.step.specs.Position.{same_frame}
use Rattle.step.specs.Run.{Visit, EndsCase}
use Rattle.step.specs.declared.position.Frame.{Frame}
use Rattle.checker.specs.Check.{check}
use Rattle.checker.specs.Plan.{PlanStep, plan_of, plan_size}
use Rattle.checker.specs.Write.{write}
use Rattle.checker.specs.declared.plan.Step.TheVariants.{Write, Repeat}
use Rattle.demands.specs.Compiled.{instruction_at}
use Rattle.demands.specs.Demand2.{program_of}

-- a buffer is long enough if it has the bytes that the question about it asks for; where that question is not reached, any length will do
abbrev pub LongEnough : (ℕ → Type 0) → List ℕ → Type 0
LongEnough Asked buffer = (size : ℕ) → Asked size → size ≤ length buffer

-- question 10, of a task that passes, asks for a program's bytes
pub record Asked10 (bytes : List ℕ) (size : ℕ) : Type 0 where
  pub value : ℕ
  pub passes : (read_task bytes).verdict ≡ Accepted value
  pub asks : size ≡ program_size (read_task bytes).layout.index.bounds

-- traces laid end to end
unfoldable pub end_to_end : List (List Visit) → List Visit
end_to_end [] = []
end_to_end (trace ∷ rest) = trace ++ end_to_end rest

-- whether one of some visits is to a line
unfoldable pub visited : List Visit → Frame → Bool
visited [] f = false
visited (v ∷ rest) f = same_frame v.frame f || visited rest f

-- the steps of a plan that makes these visits: one whose line is known, or was visited earlier, repeats it; any other writes it
unfoldable pub steps_of : (Frame → Bool) → List Visit → List PlanStep
steps_of known [] = []
steps_of known (v ∷ rest) =
    record { frame = v.frame; step = cond (known v.frame) (Repeat v.instruction) (Write v.instruction) }
    ∷ steps_of (λ f. same_frame v.frame f || known f) rest

-- the three bytes on a line of a program
abbrev pub bytes_on : Bounds → List ℕ → Frame → Triple
bytes_on b program f = line_bytes b program f.procedure f.line

-- whether a line is preset
unfoldable pub is_preset : Layout → Frame → Bool
is_preset t f = ltb 0 (bytes_on t.index.bounds t.presets f).op

-- the lines that a plan gives back: the program's instruction where a line is preset or visited, and empty elsewhere
unfoldable pub lines_back : Layout → List ℕ → List Visit → Frame → Instruction
lines_back t program visits f = cond (is_preset t f || visited visits f) (instruction_at t.index.bounds program f) Empty

-- a frame whose procedure and line a program has
pub record Inside (b : Bounds) (f : Frame) : Type 0 where
  pub procedure : f.procedure.0 < b.procedures
  pub line : f.line.0 ≤ b.last

-- a program that passes its own questions, 25 to 27: it has its full length; each line's instruction is allowed there, or empty; and each
-- preset line holds its preset
pub record WellFormedProgram (t : Layout) (program : List ℕ) : Type 0 where
  pub size : length program ≡ program_size t.index.bounds
  pub lines : (f : Frame) → Inside t.index.bounds f → is_instruction (instruction_on t.index program f.procedure f.line) ≡ true
  pub presets : (f : Frame) → Inside t.index.bounds f → is_preset t f ≡ true
      → bytes_on t.index.bounds program f ≡ bytes_on t.index.bounds t.presets f

module _ (bytes : List ℕ) (t : Layout) (program : List ℕ) where
  -- a program ends every case in its goal, each by itself: trace number c has the steps of its run on case c
  pub record EndsAll (traces : List (List Visit)) : Type 0 where
    pub cases : length traces ≡ t.index.cases
    pub ends : (c : ℕ) → c < t.index.cases → EndsCase bytes t.index t.offsets program c (get_or traces c [])

  -- a program that the writer is to accept with k: it is well formed, ends every case in its goal, and the runs' steps together are k, at most S
  pub record SolvesCases (k : ℕ) : Type 0 where
    pub formed : WellFormedProgram t program
    pub traces : List (List Visit)
    pub runs : EndsAll traces
    pub count : length (end_to_end traces) ≡ k
    pub bound : k ≤ t.index.bounds.steps

  -- question 29, reached if the program solves all cases, asks for the plan's bytes
  pub record Asked29 (size : ℕ) : Type 0 where
    pub steps : ℕ
    pub solves : SolvesCases steps
    pub asks : size ≡ plan_size steps

  -- what is said of an accepted plan of k steps, with the program that it gives
  pub record GivesProgram (plan : List ℕ) (k : ℕ) : Type 0 where
    pub traces : List (List Visit)
    pub runs : EndsAll traces
    pub form : plan ≡ plan_of (steps_of (is_preset t) (end_to_end traces))
    pub count : length (end_to_end traces) ≡ k
    pub writes : (buffer : List ℕ) → plan_size k ≤ length buffer
        → write bytes program buffer ≡ record { verdict = Accepted k; buffer = plan ++ drop (plan_size k) buffer }

  -- what is said of a program and a buffer for its plan
  pub record GivesPlan (buffer : List ℕ) : Type 0 where
    pub accepts : (k : ℕ) → ((write bytes program buffer).verdict ≡ Accepted k) ↔ SolvesCases k
    pub checks : (k : ℕ) (good : SolvesCases k) (room : List ℕ) → LongEnough (Asked10 bytes) room
        → check bytes (take (plan_size k) (write bytes program buffer).buffer) room
        ≡ record {
          verdict = Accepted k;
          buffer = program_of t.index.bounds (lines_back t program (end_to_end good.traces)) ++ drop (program_size t.index.bounds) room;
        }

-- for all bytes as task and plan and every buffer, with the program that the checker filled the buffer's first bytes with
abbrev pub FirstHalf : Type 0
FirstHalf =
    (bytes plan buffer : List ℕ) (k : ℕ) (filled : List ℕ)
    → check bytes plan buffer ≡ record { verdict = Accepted k; buffer = filled }
    → GivesProgram bytes (read_task bytes).layout (take (program_size (read_task bytes).layout.index.bounds) filled) plan k

-- for every task that passes, all bytes as program and every buffer that is long enough
abbrev pub SecondHalf : Type 0
SecondHalf =
    (bytes program buffer : List ℕ) (value : ℕ)
    → (read_task bytes).verdict ≡ Accepted value
    → LongEnough (Asked29 bytes (read_task bytes).layout program) buffer
    → GivesPlan bytes (read_task bytes).layout program buffer

-- a run is determined: the steps that it makes on a case by itself are one list
abbrev pub OneRun : Type 0
OneRun =
    (bytes : List ℕ) (t : Layout) (program : List ℕ) (c : ℕ) (σ τ : List Visit)
    → EndsCase bytes t.index t.offsets program c σ → EndsCase bytes t.index t.offsets program c τ → σ ≡ τ

-- and a refusal of the writer leaves the buffer as it was
abbrev pub WriterRefusalKeeps : Type 0
WriterRefusalKeeps =
    (bytes program buffer after : List ℕ) (question place : ℕ)
    → write bytes program buffer ≡ record { verdict = Refused question place; buffer = after } → after ≡ buffer
