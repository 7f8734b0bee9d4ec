-- One step in two parts, as the code makes it: the questions are asked, and then the position moves. What an answer leads to is what `perform`
-- comes to: laws `asked-no` and `asked-moves`. Only contracts of functions below the entries cite it.
use Rattle.std.specs.Prelude.{ℕ, ◌≡◌, List, cond, ltb, Result, Ok, Err}
use Rattle.records.specs.Loop.{Turn, stop, go}
use Rattle.task.specs.Verdict.{number}
use Rattle.task.specs.declared.index.Index.{Index}
use Rattle.task.specs.declared.instruction.Instruction.{Instruction}
use Rattle.task.specs.declared.instruction.Instruction.TheVariants.{Empty, Act, Goto, Call, End}
use Rattle.task.specs.declared.questions.Question.{Question}
use Rattle.step.specs.Facts.{has}
use Rattle.step.specs.Perform.{after_case}
use Rattle.step.specs.Position.{advanced, jumped, pushed, popped, with_facts, counted}
use Rattle.step.specs.declared.position.Position.{Position}

-- an answer with facts has those before the step: so of every instruction but an act
unfoldable pub Keeps : ℕ → Result ℕ Question → Type 0
Keeps facts (Err question) = Unit {0}
Keeps facts (Ok after) = after ≡ facts

module _ (bytes : List ℕ) (i : Index) (s : Position) where
  -- where an instruction that no question turns down moves a position, given the facts that an action leaves
  unfoldable pub moved_by : ℕ → Instruction → Position
  moved_by facts Empty = s
  moved_by facts (Act action) = with_facts (advanced s) facts
  moved_by facts (Goto target fact) = cond (has s.facts fact) (advanced s) (jumped s target)
  moved_by facts (Call procedure) = pushed (advanced s) procedure
  moved_by facts End = cond (ltb 1 s.depth) (popped s) (after_case bytes i s)

  -- the step that the answer to the questions stands for
  unfoldable pub performed_as : Instruction → Result ℕ Question → Turn Position ℕ
  performed_as w (Err question) = stop (number question)
  performed_as w (Ok facts) = go (counted (moved_by facts w))

-- the step that a line's answer stands for
unfoldable pub line_as : Result Position Question → Turn Position ℕ
line_as (Err question) = stop (number question)
line_as (Ok next) = go next
