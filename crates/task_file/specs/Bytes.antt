-- The bytes of a task: its records in the order of the file. A record's length and kind and the bound S have 2 bytes, a fact set has 8, little-endian; every
-- other number is one byte.
use Rattle.std.specs.Prelude.{ℕ}
use mathlib.Core.List.{List, [], ◌∷◌, ◌++◌, flat_map}
use Rattle.records.specs.Numbers.{u16_bytes, u64_bytes}
use Rattle.records.specs.Record.{record_bytes, closing}
use Rattle.task.specs.Instruction.{encode_for}
use Rattle.task.specs.Task.{Action, Preset, Task}
use Rattle.task.specs.declared.bounds.Bounds.{Bounds}
use Rattle.task.specs.declared.facts.Literals.{Literals}
use Rattle.task.specs.declared.index.Case.{Case}
use Rattle.task.specs.declared.index.Effect.{Effect}

-- a pair of fact sets: must be true, must be false
unfoldable pub pair_bytes : Literals → List ℕ
pair_bytes l = u64_bytes l.positive ++ u64_bytes l.negative

-- the two pairs of an effect: its condition, and the facts raised and lowered
unfoldable pub effect_pairs : Effect → List Literals
effect_pairs e = e.condition ∷ record { positive = e.raised; negative = e.lowered } ∷ []

-- the 1 + 2 * e pairs of an action: its precondition, and those of its effects
unfoldable pub action_pairs : Action → List Literals
action_pairs a = a.precondition ∷ flat_map effect_pairs a.effects

-- kind 1, length 6: F, b, n, m, and S in two bytes
unfoldable pub bounds_record : Bounds → List ℕ
bounds_record b = record_bytes 1 (b.facts ∷ b.procedures ∷ b.last ∷ b.stack ∷ u16_bytes b.steps)

-- the body of an action's record, 16 bytes a pair
abbrev pub action_body : Action → List ℕ
action_body a = flat_map pair_bytes (action_pairs a)

-- kind 2, length 16 + 32 * e: the action's pairs
unfoldable pub action_record : Action → List ℕ
action_record a = record_bytes 2 (action_body a)

-- kind 3, length 5: procedure, line, instruction
unfoldable pub preset_record : Preset → List ℕ
preset_record p = record_bytes 3 (encode_for p.procedure p.line p.instruction)

-- kind 4, length 24: the facts true at the start, and the goal pair
unfoldable pub case_record : Case → List ℕ
case_record c = record_bytes 4 (u64_bytes c.start ++ pair_bytes c.goal)

-- the file of a task: its bounds, its actions, its presets, its cases, and the closing record (kind 5, length 0)
unfoldable pub task_bytes : Task → List ℕ
task_bytes t =
    bounds_record t.bounds
    ++ flat_map action_record t.actions
    ++ flat_map preset_record t.presets
    ++ flat_map case_record t.cases
    ++ closing
