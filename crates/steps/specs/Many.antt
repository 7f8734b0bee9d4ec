-- A number of steps of a caller's run in one call: that many single steps, one after the other, and at most 4,096. They stop early at the finish and at
-- a refusal. The questions up to 31 come first, even when the number is 0. The value is the number of steps made, which stands beside a refusal too,
-- and the position is the one after the last step made, after a refusal too: this call alone may refuse and still have changed a position.
use Rattle.std.specs.Prelude.{ℕ, zero, suc, ◌+◌, List, cond, eqb, ltb, Option, Some, None}
use Rattle.task.specs.Program.{program_verdict}
use Rattle.task.specs.Reading.{read_task, Reading}
use Rattle.task.specs.Verdict.{Verdict, Accepted, Refused, number}
use Rattle.task.specs.declared.refusal.Refusal.{Refusal}
use Rattle.step.specs.Possible.{possible}
use Rattle.step.specs.Questions.{POSSIBLE}
use Rattle.step.specs.Single.{single_step}
use Rattle.step.specs.declared.position.Position.{Position}
use Rattle.steps.specs.declared.many.StepsAnswer as code_answer
use Rattle.steps.specs.declared.many.StepsTaken as code

-- what a call answers: its verdict, whose value is the number of steps made, and that number
pub record StepsAnswer : Type 0 where
  pub verdict : Verdict
  pub made : ℕ

-- a call's answer, and the position after the last step made
pub record StepsTaken : Type 0 where
  pub answer : StepsAnswer
  pub position : Position

-- a count above 4,096 counts as 4,096
unfoldable pub capped : ℕ → ℕ
capped count = cond (ltb count 4096) count 4096

-- an answer with so many steps made, and the position after them
unfoldable pub taken_to : Verdict → ℕ → Position → StepsTaken
taken_to verdict made s = record { answer = record { verdict = verdict; made = made }; position = s }

-- what follows a verdict: the rest, by its value; a refusal is the answer, with the steps made so far
unfoldable pub onward : ℕ → Position → Verdict → (ℕ → StepsTaken) → StepsTaken
onward made s (Accepted value) rest = rest value
onward made s (Refused question place) rest = taken_to (Refused question place) made s

module _ (bytes program : List ℕ) where
  -- at most n single steps from a position, the call having made some already; a single step that is accepted has the value 0 at the finish alone
  unfoldable pub steps_from : ℕ → ℕ → Position → StepsTaken
  steps_from zero made s = taken_to (Accepted made) made s
  steps_from (suc n) made s =
      let step = single_step bytes program s in
      onward made s step.verdict (λ value. cond (eqb value 0) (taken_to (Accepted made) made s) (steps_from n (made + 1) step.position))

  -- a task's reading: its verdict, the program's, question 31, and then the steps
  unfoldable pub many_on_reading : ℕ → Position → Reading → StepsTaken
  many_on_reading count s r =
      onward 0 s r.verdict
      (λ value.
      onward 0 s (program_verdict r.layout.index r.layout.presets program)
      (λ own. cond (possible r.layout.index s) (steps_from (capped count) 0 s) (taken_to (Refused POSSIBLE 0) 0 s)))

  -- the call
  unfoldable pub many_steps : ℕ → Position → StepsTaken
  many_steps count s = many_on_reading count s (read_task bytes)

-- the verdict of a call that has made so many steps: the refusal that ended it, if one did
abbrev pub ended : ℕ → Option Refusal → Verdict
ended made None = Accepted made
ended made (Some r) = Refused (number r.question) r.place

-- what the code's answer stands for
abbrev pub answer_as : code_answer.StepsAnswer → StepsAnswer
answer_as a = record { verdict = ended a.made a.refusal; made = a.made }

-- and with the position
abbrev pub taken_as : code.StepsTaken → StepsTaken
taken_as t = record { answer = answer_as t.answer; position = t.position }
