-- One pass over an action's pairs, in file order: how many stand before the first that fails question 6.
use Rattle.std.specs.Prelude.{ℕ, suc, ◌+◌, ◌*◌, ◌^◌, ◌≤◌, ◌<◌, ◌≡◌, Bool, true, cond, List, [], ◌∷◌, ◌++◌, ◌↔◌, eqb, length, drop}
use Rattle.records.specs.Loop.{go, ask}
use Rattle.task.specs.Facts.{consistent, pairs_before_fault}
use Rattle.task.specs.Questions.{SETS}
use Rattle.task.specs.Reading.{State, may_stand, refused, turn_of}
use Rattle.task.specs.Task.{Action, Task}
use Rattle.task.specs.declared.facts.Literals.{Literals}
use Rattle.task_file.specs.Bytes.{action_pairs, action_body, action_record}
use Rattle.task_file.specs.WellFormed.{Every, WellFormed}

-- of a list, how many elements stand before the first to which a test says no
unfoldable pub before_no : {A : Type 0} → (A → Bool) → List A → ℕ
before_no test [] = 0
before_no test (x ∷ rest) = cond (test x) (suc (before_no test rest)) 0

-- the pass over an action's body counts all its pairs
abbrev pub FullCount : ℕ → Action → Type 0
FullCount facts a = pairs_before_fault facts (action_body a) ≡ 1 + 2 * length a.effects

-- both sets of a pair fit in 8 bytes
abbrev pub PairFits : Literals → Type 0
PairFits l = (l.positive < 2 ^ 64) × (l.negative < 2 ^ 64)

-- every set of an action fits in 8 bytes
abbrev pub SetsFit : Action → Type 0
SetsFit a = Every PairFits (action_pairs a)

-- the pass over the bytes of an action's body counts the action's pairs before the first that fails question 6; and it counts all exactly if every pair passes
pub record Counted (facts : ℕ) (a : Action) : Type 0 where
  pub count : pairs_before_fault facts (action_body a) ≡ before_no (consistent facts) (action_pairs a)
  pub full : FullCount facts a ↔ Every (λ (l : Literals). consistent facts l ≡ true) (action_pairs a)

abbrev pub OnePass : Type 0
OnePass = (facts : ℕ) (a : Action) → SetsFit a → Counted facts a

-- a task with other actions
abbrev pub other_actions : Task → List Action → Task
other_actions t actions = record { bounds = t.bounds; actions = actions; presets = t.presets; cases = t.cases }

-- of a well-formed task: the count of each action is full; and any action with a full count, at most 8 effects and sets that fit in 8 bytes may stand in the
-- place of one
pub record WellFormedCounts (t : Task) : Type 0 where
  pub each : Every (FullCount t.bounds.facts) t.actions
  pub another : (front : List Action) (old new : Action) (rest : List Action) → t.actions ≡ front ++ (old ∷ rest)
      → length new.effects ≤ 8 → SetsFit new → FullCount t.bounds.facts new → WellFormed (other_actions t (front ++ (new ∷ rest)))

abbrev pub WellFormedActions : Type 0
WellFormedActions = (t : Task) → WellFormed t → WellFormedCounts t

-- the reading comes to the record of an action, and questions 1 to 4 say yes to it
pub record AtAction (bytes : List ℕ) (s : State) (a : Action) (rest : List ℕ) : Type 0 where
  -- 1: its bytes are all there
  pub there : drop s.progress.at bytes ≡ action_record a ++ rest
  -- 2: an action may stand here
  pub stands : may_stand s.progress.last 2 ≡ true
  -- 3: it has at most 8 effects
  pub effects : length a.effects ≤ 8
  -- 4: fewer than 64 actions came before it
  pub actions : s.progress.index.actions < 64

-- then question 6 alone is asked, whether the pass over the action's body counts all pairs, and on a yes the reading goes on behind the record
abbrev pub ActionAsked : Type 0
ActionAsked =
    (bytes : List ℕ) (s : State) (a : Action) (rest : List ℕ) → AtAction bytes s a rest
    → (next : State)
    × (next.progress.at ≡ s.progress.at + length (action_record a))
    × (turn_of bytes s
    ≡ ask (eqb (pairs_before_fault s.progress.index.bounds.facts (action_body a)) (1 + 2 * length a.effects)) (refused SETS s.progress.at) (go next))
