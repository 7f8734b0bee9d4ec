-- The planning task: bounds; actions, each a precondition and conditional effects, and cases, each a start and a goal, as the papers have them; and preset lines.
use Rattle.std.specs.Prelude.{List, [], ◌∷◌, ◌++◌}
use Rattle.task.specs.declared.bounds.Bounds.{Bounds}
use Rattle.task.specs.declared.facts.Literals.{Literals}
use Rattle.task.specs.declared.index.Case.{Case}
use Rattle.task.specs.declared.index.Effect.{Effect}
use Rattle.task.specs.declared.instruction.Instruction.{Instruction}
use Rattle.task.specs.declared.instruction.Line.{Line}
use Rattle.task.specs.declared.instruction.Proc.{Proc}

-- an action: what has to hold before it, and its conditional effects, each a condition and the facts raised and lowered
pub record Action : Type 0 where
  pub precondition : Literals
  pub effects : List Effect

-- a preset line: a line of a procedure, and the instruction that it holds
pub record Preset : Type 0 where
  pub procedure : Proc
  pub line : Line
  pub instruction : Instruction

-- a task; actions and cases are numbered from 0. A case is the facts true at its start, and its goal
pub record Task : Type 0 where
  pub bounds : Bounds
  pub actions : List Action
  pub presets : List Preset
  pub cases : List Case

-- the same task with a case added last
abbrev pub with_case : Task → Case → Task
with_case t c = record { bounds = t.bounds; actions = t.actions; presets = t.presets; cases = t.cases ++ (c ∷ []) }
