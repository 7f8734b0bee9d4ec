-- A plan's steps and its bytes. A step writes an instruction on a line and runs it, or repeats the one that is there; its record has kind 16
-- or 17 and the bytes procedure, line and instruction. A record of kind 5 with no body closes the file.
use Rattle.std.specs.Prelude.{ℕ, ◌+◌, ◌*◌, List, [], ◌∷◌, ◌++◌, Bool, cond, ◌||◌, eqb}
use Rattle.records.specs.Numbers.{byte_at}
use Rattle.records.specs.Record.{record_bytes, closing}
use Rattle.task.specs.Bounds.{between}
use Rattle.task.specs.Instruction.{encode_for}
use Rattle.task.specs.declared.instruction.Instruction.{Instruction}
use Rattle.step.specs.declared.position.Frame.{Frame}
use Rattle.checker.specs.declared.plan.Step.{Step}
use Rattle.checker.specs.declared.plan.Step.TheVariants.{Write, Repeat}

-- a step of a plan, with the procedure and the line that it names
pub record PlanStep : Type 0 where
  pub frame : Frame
  pub step : Step

-- the instruction that a step runs
unfoldable pub instruction_of : Step → Instruction
instruction_of (Write w) = w
instruction_of (Repeat w) = w

-- the kind of its record
unfoldable pub kind_of : Step → ℕ
kind_of (Write w) = 16
kind_of (Repeat w) = 17

-- the step of a record: kind 16 writes, kind 17 repeats
unfoldable pub step_of : ℕ → Instruction → Step
step_of kind w = cond (eqb kind 16) (Write w) (Repeat w)

-- question 12: the kind of a step, or the closing record's
unfoldable pub is_kind : ℕ → Bool
is_kind kind = between 16 kind 17 || eqb kind 5

-- question 13: a step has 5 bytes, the closing record none
unfoldable pub length_fits : ℕ → ℕ → Bool
length_fits kind size = cond (eqb kind 5) (eqb size 0) (eqb size 5)

-- the procedure and the line that a step's body names
unfoldable pub frame_at : List ℕ → ℕ → Frame
frame_at plan body = record { procedure = record { 0 = byte_at plan body }; line = record { 0 = byte_at plan (body + 1) } }

-- the bytes of a step's record: its body is procedure, line, instruction
unfoldable pub record_of : PlanStep → List ℕ
record_of s = record_bytes (kind_of s.step) (encode_for s.frame.procedure s.frame.line (instruction_of s.step))

-- the bytes of a plan: its steps' records, and the closing one
unfoldable pub plan_of : List PlanStep → List ℕ
plan_of [] = closing
plan_of (s ∷ rest) = record_of s ++ plan_of rest

-- how many bytes a plan of so many steps has: 9 for each step's record, and 4 for the closing one
unfoldable pub plan_size : ℕ → ℕ
plan_size steps = 9 * steps + 4
