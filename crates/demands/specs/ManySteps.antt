-- Calls for a number of steps, beside one another and beside single steps: two calls are one call, and a call for one step is a single step.
use Rattle.std.specs.Prelude.{ℕ, ◌+◌, ◌≤◌, ◌≡◌, List, length}
use Rattle.task.specs.Verdict.{Verdict, Accepted, Refused}
use Rattle.step.specs.Perform.{Stepped}
use Rattle.step.specs.Single.{single_step}
use Rattle.step.specs.declared.position.Position.{Position}
use Rattle.steps.specs.Many.{StepsTaken, capped, taken_to, many_steps}
use Rattle.demands.specs.SingleSteps.{repeated, steps_on}

-- a value with j steps more; a refusal has its number and its place whatever was made before
unfoldable pub counting : ℕ → Verdict → Verdict
counting j (Accepted value) = Accepted (j + value)
counting j (Refused question place) = Refused question place

-- a call's answer with j steps made before it
unfoldable pub later : ℕ → StepsTaken → StepsTaken
later j a = taken_to (counting j a.answer.verdict) (j + a.answer.made) a.position

-- A call that makes all the j steps that it was asked for, and then a call for k, are one call for j + k. The second may stop early. A record has 16
-- frames, and one call makes at most 4,096 steps.
abbrev pub CallsJoin : Type 0
CallsJoin =
    (bytes program : List ℕ) (j k : ℕ) (s : Position) → length s.frames ≡ 16 → j + k ≤ 4096 → (many_steps bytes program j s).answer.made ≡ j
    → many_steps bytes program (j + k) s ≡ later j (many_steps bytes program k (many_steps bytes program j s).position)

-- the steps that a single step's answer says are made: its value, or none
unfoldable pub made_by : Verdict → ℕ
made_by (Accepted value) = value
made_by (Refused question place) = 0

-- a single step, told as a call tells it
unfoldable pub as_call : Stepped → StepsTaken
as_call step = taken_to step.verdict (made_by step.verdict) step.position

-- k calls for one step are k single steps: each gives the single step's answer and its position, so the record after k of them is the same. One call
-- for k leaves that record too, since a single step that is refused, or comes after the finish, leaves it alone.
pub record CallsAreSteps (bytes program : List ℕ) : Type 0 where
  pub one : (s : Position) → many_steps bytes program 1 s ≡ as_call (single_step bytes program s)
  pub all : (k : ℕ) (s : Position)
      → repeated (λ r. (many_steps bytes program 1 r).position) k s ≡ steps_on bytes program k s
  pub together : (k : ℕ) (s : Position)
      → (many_steps bytes program k s).position ≡ steps_on bytes program (capped k) s
