-- What the functions below the entries require, so that no index, sum or shift leaves its type. The questions that come before them give it:
-- 1 to 9 the task's bounds, and that its actions and cases are there, 25 to 27 that each line holds an instruction, 31 the position's ranges, 14 the
-- steps', and 21 the room for a frame.
use Rattle.std.specs.Prelude.{ℕ, ◌+◌, ◌*◌, ◌≤◌, ◌<◌, ◌≡◌, true, List, length, get_or}
use Rattle.task.specs.Bounds.{in_range}
use Rattle.task.specs.Index.{action_at}
use Rattle.task.specs.Program.{program_verdict}
use Rattle.task.specs.declared.index.Index.{Index}
use Rattle.task.specs.declared.instruction.Instruction.{Instruction}
use Rattle.task.specs.declared.instruction.Instruction.TheVariants.{Act, Call}
use Rattle.task.specs.declared.instruction.Proc.{Proc}
use Rattle.task.specs.Verdict.{Accepted}
use Rattle.step.specs.Possible.{possible}
use Rattle.step.specs.declared.position.Position.{Position}

-- a task whose bounds are in range and whose counts question 4 lets pass
pub record Bounded (i : Index) : Type 0 where
  pub ranges : in_range i.bounds ≡ true
  pub actions : i.actions ≤ 64
  pub cases : i.cases ≤ 32

-- such a task's actions and cases are all there in its bytes
pub record Held (bytes : List ℕ) (i : Index) (offsets : List ℕ) : Type 0 where
  pub task : Bounded i
  pub action : (a : ℕ) → a < i.actions → get_or offsets a 0 + (20 + 32 * (action_at bytes (get_or offsets a 0)).effects) ≤ length bytes
  pub case : i.first + 28 * i.cases ≤ length bytes

-- a possible position of such a task, and not the finish
pub record Open (i : Index) (s : Position) : Type 0 where
  pub task : Bounded i
  pub possible : possible i s ≡ true
  pub unfinished : 0 < s.depth

-- a program that questions 25 to 27 let pass
pub record Lined (i : Index) (program : List ℕ) : Type 0 where
  pub presets : List ℕ
  pub value : ℕ
  pub passes : program_verdict i presets program ≡ Accepted value

-- a position at which such a program runs, with fewer than S steps done
pub record Runs (i : Index) (program : List ℕ) (s : Position) : Type 0 where
  pub standing : Open i s
  pub lined : Lined i program
  pub left : s.steps < i.bounds.steps

-- an act names one of the task's actions
abbrev pub Known : Index → Instruction → Type 0
Known i w = (action : ℕ) → w ≡ Act action → action < i.actions

-- room for a call's frame: question 21 said yes
abbrev pub Room : Index → ℕ → Instruction → Type 0
Room i depth w = (procedure : Proc) → w ≡ Call procedure → depth < i.bounds.stack
