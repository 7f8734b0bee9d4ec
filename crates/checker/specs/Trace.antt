-- The writer's trace, the top frame at each step of a run, which the code keeps in one byte; and what a trace leads to, the lines preset or run and
-- the records of its first steps. Only contracts of private functions cite it.
use Rattle.std.specs.Prelude.{ℕ, zero, suc, ◌+◌, ◌/◌, ◌%◌, ◌≤◌, ◌<◌, ◌≡◌, true, List, [], ◌++◌, length, take, drop, get_or}
use Rattle.task.specs.Instruction.{spelled}
use Rattle.task.specs.Program.{line_offset, line_bytes, spelled_on, is_instruction}
use Rattle.task.specs.declared.bounds.Bounds.{Bounds}
use Rattle.step.specs.Position.{origin}
use Rattle.step.specs.declared.position.Frame.{Frame}
use Rattle.checker.specs.Check.{written}
use Rattle.checker.specs.Plan.{record_of}
use Rattle.checker.specs.Write.{step_on}
use Rattle.checker.specs.declared.plan.Step.{Step}

-- the frame of a byte: its procedure is below 8, and its line below 32
unfoldable pub frame_of : ℕ → Frame
frame_of n = record { procedure = record { 0 = n / 32 }; line = record { 0 = n % 32 } }

-- bytes with the first so many of others at an offset
unfoldable pub with_bytes : List ℕ → ℕ → ℕ → List ℕ → List ℕ
with_bytes bytes at size others = take at bytes ++ (take size others ++ drop (at + size) bytes)

module _ (b : Bounds) (program : List ℕ) where
  -- a frame's line has its three bytes, and they spell an instruction
  pub record SpelledAt (f : Frame) : Type 0 where
    pub there : line_offset b f.procedure f.line + 3 ≤ length program
    pub spells : is_instruction (spelled (line_bytes b program f.procedure f.line)) ≡ true

  -- as the writer's definition has them: the step at a frame, given the lines preset or run, the lines after it, and its record
  unfoldable pub step_at : List ℕ → Frame → Step
  step_at lines f = step_on (line_bytes b lines f.procedure f.line) (spelled_on b program f.procedure f.line)

  unfoldable pub lines_with : List ℕ → Frame → List ℕ
  lines_with lines f = written lines (line_offset b f.procedure f.line) (step_at lines f)

  unfoldable pub record_on : List ℕ → Frame → List ℕ
  record_on lines f = record_of (record { frame = f; step = step_at lines f })

  -- whether every line of a trace's first steps spells an instruction
  unfoldable pub Spelled : List Frame → ℕ → Type 0
  Spelled trace steps = (k : ℕ) → k < steps → SpelledAt (get_or trace k origin)

  module _ (presets : List ℕ) (trace : List Frame) where
    -- the lines preset or run after the first k steps
    unfoldable pub lines_after : ℕ → List ℕ
    lines_after zero = presets
    lines_after (suc k) = lines_with (lines_after k) (get_or trace k origin)

    -- their records
    unfoldable pub records_after : ℕ → List ℕ
    records_after zero = []
    records_after (suc k) = records_after k ++ record_on (lines_after k) (get_or trace k origin)
