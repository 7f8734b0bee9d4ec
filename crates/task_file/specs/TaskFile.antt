-- A task file is the bytes of a task: a file is accepted exactly when it is the bytes of a well-formed task, and then it means that task. And the
-- program that the reading gives with it has the task's presets.
use Rattle.std.specs.Prelude.{ℕ, ◌≤◌, ◌≡◌, List, ◌↔◌}
use Rattle.records.specs.Numbers.{AreBytes}
use Rattle.task.specs.Instruction.{encode}
use Rattle.task.specs.Program.{line_bytes}
use Rattle.task.specs.Reading.{read_task}
use Rattle.task.specs.Task.{Preset, Task}
use Rattle.task.specs.TaskAt.{task_of}
use Rattle.task.specs.Verdict.{Accepted}
use Rattle.task.specs.declared.bounds.Bounds.{Bounds}
use Rattle.task.specs.declared.instruction.Instruction.TheVariants.{Empty}
use Rattle.task.specs.declared.instruction.Line.{Line}
use Rattle.task.specs.declared.instruction.Proc.{Proc}
use Rattle.task_file.specs.Bytes.{task_bytes}
use Rattle.task_file.specs.WellFormed.{Every, On, WellFormed}

-- a list of numbers means a task: each number is below 256, the list is accepted with 0, and the task that stands in it where the reading says is this one
pub record Means (bytes : List ℕ) (t : Task) : Type 0 where
  pub below : AreBytes bytes
  pub passes : (read_task bytes).verdict ≡ Accepted 0
  pub same : task_of bytes ≡ t

-- a list of numbers is the file of a well-formed task
pub record FileOf (bytes : List ℕ) (t : Task) : Type 0 where
  pub formed : WellFormed t
  pub form : bytes ≡ task_bytes t

-- for all lists of numbers and every task: the list means the task exactly if it is the task's file
abbrev pub TaskFile : Type 0
TaskFile = (bytes : List ℕ) (t : Task) → Means bytes t ↔ FileOf bytes t

-- bytes that are accepted, with any value, are the file of the task that stands in them
abbrev pub AcceptedFile : Type 0
AcceptedFile =
    (bytes : List ℕ) (value : ℕ) → (read_task bytes).verdict ≡ Accepted value → AreBytes bytes → FileOf bytes (task_of bytes)

-- two well-formed tasks with the same bytes are one
abbrev pub OneTask : Type 0
OneTask = (t u : Task) → WellFormed t → WellFormed u → task_bytes t ≡ task_bytes u → t ≡ u

-- a program that holds each preset on its line, and nothing on any other line
pub record HoldsPresets (b : Bounds) (presets : List Preset) (program : List ℕ) : Type 0 where
  pub each : Every (λ (p : Preset). line_bytes b program p.procedure p.line ≡ encode p.instruction) presets
  pub other : (procedure : Proc) (line : Line) → line.0 ≤ b.last → Every (λ (p : Preset). On procedure line p → ⊥) presets
      → line_bytes b program procedure line ≡ encode Empty

-- the preset program of an accepted list holds the presets of its task
abbrev pub PresetProgram : Type 0
PresetProgram =
    (bytes : List ℕ) (value : ℕ) → (read_task bytes).verdict ≡ Accepted value
    → HoldsPresets (task_of bytes).bounds (task_of bytes).presets (read_task bytes).layout.presets
