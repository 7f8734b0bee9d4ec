-- What a task keeps to, rule by rule.
use Rattle.std.specs.Prelude.{ℕ, ◌^◌, ◌≤◌, ◌<◌, ◌≡◌, true, length}
use mathlib.Core.List.{List, [], ◌∷◌, ◌++◌, map, flat_map}
use Rattle.std.specs.Int.Bits.{bit_and}
use Rattle.task.specs.Bounds.{in_range}
use Rattle.task.specs.Instruction.{allowed}
use Rattle.task.specs.Task.{Action, Preset, Task}
use Rattle.task.specs.declared.facts.Literals.{Literals}
use Rattle.task.specs.declared.index.Case.{Case}
use Rattle.task.specs.declared.instruction.Instruction.TheVariants.{Empty}
use Rattle.task.specs.declared.instruction.Line.{Line}
use Rattle.task.specs.declared.instruction.Proc.{Proc}
use Rattle.task_file.specs.Bytes.{action_pairs}

-- each element of a list has a property
pub data Every {A : Type 0} (P : A → Type 0) : List A → Type 0 where
  none : Every P []
  also : {x : A} {rest : List A} → P x → Every P rest → Every P (x ∷ rest)

-- a preset is on a line of a procedure
abbrev pub On : Proc → Line → Preset → Type 0
On procedure line p = (p.procedure.0 ≡ procedure.0) × (p.line.0 ≡ line.0)

-- no two presets of a list are on one line: the first is on the line of none behind it
unfoldable pub Once : List Preset → Type 0
Once [] = Unit
Once (p ∷ rest) = Every (λ q. On q.procedure q.line p → ⊥) rest × Once rest

-- every pair of a task: those of its actions, and its cases' goals
unfoldable pub pairs : Task → List Literals
pairs t = flat_map action_pairs t.actions ++ map (λ (c : Case). c.goal) t.cases

-- both sets of a pair
abbrev pub both_sets : Literals → List ℕ
both_sets l = l.positive ∷ l.negative ∷ []

-- every fact set of a task: both of each pair, and its cases' starts
unfoldable pub sets : Task → List ℕ
sets t = flat_map both_sets (pairs t) ++ map (λ (c : Case). c.start) t.cases

-- each rule with the question that asks it; that there is an action, question 2 asks of the record behind the bounds, and that there is a case, of the closing one
pub record WellFormed (t : Task) : Type 0 where
  -- 5: F is from 1 to 64, b from 1 to 8, n from 1 to 31, m from 1 to 16 and S from 1 to 4,096
  pub bounds : in_range t.bounds ≡ true
  -- 2 and 4: there are 1 to 64 actions
  pub actions : (1 ≤ length t.actions) × (length t.actions ≤ 64)
  -- 3: each action has at most 8 effects
  pub effects : Every (λ (a : Action). length a.effects ≤ 8) t.actions
  -- 2 and 4: there are 1 to 32 cases
  pub cases : (1 ≤ length t.cases) × (length t.cases ≤ 32)
  -- 6: every set has facts below F alone
  pub facts : Every (λ (set : ℕ). set < 2 ^ t.bounds.facts) (sets t)
  -- 6: no pair names a fact twice
  pub apart : Every (λ (l : Literals). bit_and l.positive l.negative ≡ 0) (pairs t)
  -- 7: each preset's procedure is below b
  pub procedures : Every (λ (p : Preset). p.procedure.0 < t.bounds.procedures) t.presets
  -- 7: each preset's instruction is allowed on its line, which is then from 0 to n
  pub lines : Every (λ (p : Preset). allowed t.bounds (length t.actions) p.line p.instruction ≡ true) t.presets
  -- 7: no preset is empty
  pub nonempty : Every (λ (p : Preset). p.instruction ≡ Empty → ⊥) t.presets
  -- 8: no line is preset twice
  pub once : Once t.presets
