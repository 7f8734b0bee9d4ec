-- An answer as its two numbers: 0 and a value, or the number of the first question whose answer is no, and a place. The definitions speak of these; in code a no
-- is a `Refusal`, which names the question, and each contract says the numbers by `verdict`, or by a definition like it where the value is another.
use Rattle.std.specs.Prelude.{ℕ, Result, Ok, Err}
use Rattle.task.specs.declared.questions.Question.{Question}
use Rattle.task.specs.declared.questions.Question.TheVariants.{TaskRecordCut, TaskRecordKind, TaskRecordLength, TaskTooMany, TaskBounds, TaskFacts, TaskPreset, TaskPresetTwice, TaskNotEnded, ProgramNoRoom, PlanRecordCut, PlanRecordKind, PlanRecordLength, StepBound, StepInstruction, StepAfterFinish, StepElsewhere, StepLine, Precondition, Clash, StackFull, Goal, CaseOpen, PlanNotEnded, ProgramLength, ProgramInstruction, ProgramPreset, LineEmpty, PlanNoRoom, FileTooLong, RunImpossible, RunFinished, CasesFull, CaseNoRoom}
use Rattle.task.specs.declared.refusal.Refusal.{Refusal}

pub data Verdict : Type 0 where
  Accepted : ℕ → Verdict
  Refused : ℕ → ℕ → Verdict

abbrev pub number_of : Verdict → ℕ
number_of (Accepted value) = 0
number_of (Refused question place) = question

abbrev pub value_of : Verdict → ℕ
value_of (Accepted value) = value
value_of (Refused question place) = place

-- a question's number
abbrev pub number : Question → ℕ
number TaskRecordCut = 1
number TaskRecordKind = 2
number TaskRecordLength = 3
number TaskTooMany = 4
number TaskBounds = 5
number TaskFacts = 6
number TaskPreset = 7
number TaskPresetTwice = 8
number TaskNotEnded = 9
number ProgramNoRoom = 10
number PlanRecordCut = 11
number PlanRecordKind = 12
number PlanRecordLength = 13
number StepBound = 14
number StepInstruction = 15
number StepAfterFinish = 16
number StepElsewhere = 17
number StepLine = 18
number Precondition = 19
number Clash = 20
number StackFull = 21
number Goal = 22
number CaseOpen = 23
number PlanNotEnded = 24
number ProgramLength = 25
number ProgramInstruction = 26
number ProgramPreset = 27
number LineEmpty = 28
number PlanNoRoom = 29
number FileTooLong = 30
number RunImpossible = 31
number RunFinished = 32
number CasesFull = 33
number CaseNoRoom = 34

-- an answer of the code, whose value is a number
abbrev pub verdict : Result ℕ Refusal → Verdict
verdict (Ok value) = Accepted value
verdict (Err r) = Refused (number r.question) r.place

-- and one without a value
abbrev pub unit_verdict : Result Unit Refusal → Verdict
unit_verdict (Ok value) = Accepted 0
unit_verdict (Err r) = Refused (number r.question) r.place
