-- What the functions below the entries require and give. Only their contracts cite it.
use Rattle.std.specs.Prelude.{ℕ, ◌≡◌, true, List, Result, Ok, Err}
use Rattle.records.specs.Loop.{Turn, stop, go}
use Rattle.task.specs.Program.{program_verdict}
use Rattle.task.specs.Reading.{read_task}
use Rattle.task.specs.declared.index.Index.{Index}
use Rattle.task.specs.declared.questions.Question.{Question}
use Rattle.task.specs.declared.refusal.Refusal.{Refusal}
use Rattle.task.specs.Verdict.{Accepted, Refused, number}
use Rattle.step.specs.Head.{over}
use Rattle.step.specs.Possible.{possible}
use Rattle.step.specs.declared.head.Head.{Head}
use Rattle.step.specs.declared.position.Frame.{Frame}
use Rattle.step.specs.declared.position.Position.{Position}
use Rattle.steps.specs.Many.{StepsTaken, taken_to, taken_as}
use Rattle.steps.specs.declared.many.StepsTaken as code

-- the step that the answer to a head over its frames stands for, given the frames after it
unfoldable pub advanced_as : List Frame → Result Head Question → Turn Position ℕ
advanced_as frames (Err question) = stop (number question)
advanced_as frames (Ok next) = go (over next frames)

-- what the answer to the questions up to 31, and the steps after them, stands for: at a refusal no step is made, and the position is as it was
unfoldable pub asked_as : Position → Result code.StepsTaken Refusal → StepsTaken
asked_as s (Ok t) = taken_as t
asked_as s (Err r) = taken_to (Refused (number r.question) r.place) 0 s

-- a task and a program that passed, with the parts of the layout, and a possible position
pub record Admitted (bytes : List ℕ) (i : Index) (actions lines : List ℕ) (s : Position) : Type 0 where
  pub value : ℕ
  pub task : (read_task bytes).verdict ≡ Accepted value
  pub index : (read_task bytes).layout.index ≡ i
  pub offsets : (read_task bytes).layout.offsets ≡ actions
  pub checked : ℕ
  pub program : program_verdict i (read_task bytes).layout.presets lines ≡ Accepted checked
  pub possible : possible i s ≡ true
