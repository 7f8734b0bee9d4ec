-- A verdict does not both refuse and accept; and a question is told by its number.
-- Assumes nothing.
use Prim.Native.Nat.{ℕ}
use mathlib.Core.Path.{◌≡◌, refl, sym, ap, ◌∙◌}
use native.Mathlib.Omega.{arith}
use Rattle.task.specs.Verdict.{Accepted, Refused, number}
use Rattle.task.specs.declared.questions.Question.{Question}
use Rattle.task.specs.declared.questions.Question.TheVariants.{TaskRecordCut, TaskRecordKind, TaskRecordLength, TaskTooMany, TaskBounds, TaskFacts, TaskPreset, TaskPresetTwice, TaskNotEnded, ProgramNoRoom, PlanRecordCut, PlanRecordKind, PlanRecordLength, StepBound, StepInstruction, StepAfterFinish, StepElsewhere, StepLine, Precondition, Clash, StackFull, Goal, CaseOpen, PlanNotEnded, ProgramLength, ProgramInstruction, ProgramPreset, LineEmpty, PlanNoRoom, FileTooLong, RunImpossible, RunFinished, CasesFull, CaseNoRoom}
use Rattle.std.specs.Prelude.{cond, eqb}

pub refused-accepted : {question place value : ℕ} → Refused question place ≡ Accepted value → ⊥
refused-accepted h = let z : ◌≡◌ {A = ℕ} 0 1 = cc in omega arith

-- the question with a number
abbrev named : ℕ → Question
named n =
    cond (eqb n 1) TaskRecordCut
    (cond (eqb n 2) TaskRecordKind
    (cond (eqb n 3) TaskRecordLength
    (cond (eqb n 4) TaskTooMany
    (cond (eqb n 5) TaskBounds
    (cond (eqb n 6) TaskFacts
    (cond (eqb n 7) TaskPreset
    (cond (eqb n 8) TaskPresetTwice
    (cond (eqb n 9) TaskNotEnded
    (cond (eqb n 10) ProgramNoRoom
    (cond (eqb n 11) PlanRecordCut
    (cond (eqb n 12) PlanRecordKind
    (cond (eqb n 13) PlanRecordLength
    (cond (eqb n 14) StepBound
    (cond (eqb n 15) StepInstruction
    (cond (eqb n 16) StepAfterFinish
    (cond (eqb n 17) StepElsewhere
    (cond (eqb n 18) StepLine
    (cond (eqb n 19) Precondition
    (cond (eqb n 20) Clash
    (cond (eqb n 21) StackFull
    (cond (eqb n 22) Goal
    (cond (eqb n 23) CaseOpen
    (cond (eqb n 24) PlanNotEnded
    (cond (eqb n 25) ProgramLength
    (cond (eqb n 26) ProgramInstruction
    (cond (eqb n 27) ProgramPreset
    (cond (eqb n 28) LineEmpty
    (cond (eqb n 29) PlanNoRoom
    (cond (eqb n 30) FileTooLong
    (cond (eqb n 31) RunImpossible
    (cond (eqb n 32) RunFinished
    (cond (eqb n 33) CasesFull
    CaseNoRoom))))))))))))))))))))))))))))))))

named-number : (q : Question) → named (number q) ≡ q
named-number TaskRecordCut = refl
named-number TaskRecordKind = refl
named-number TaskRecordLength = refl
named-number TaskTooMany = refl
named-number TaskBounds = refl
named-number TaskFacts = refl
named-number TaskPreset = refl
named-number TaskPresetTwice = refl
named-number TaskNotEnded = refl
named-number ProgramNoRoom = refl
named-number PlanRecordCut = refl
named-number PlanRecordKind = refl
named-number PlanRecordLength = refl
named-number StepBound = refl
named-number StepInstruction = refl
named-number StepAfterFinish = refl
named-number StepElsewhere = refl
named-number StepLine = refl
named-number Precondition = refl
named-number Clash = refl
named-number StackFull = refl
named-number Goal = refl
named-number CaseOpen = refl
named-number PlanNotEnded = refl
named-number ProgramLength = refl
named-number ProgramInstruction = refl
named-number ProgramPreset = refl
named-number LineEmpty = refl
named-number PlanNoRoom = refl
named-number FileTooLong = refl
named-number RunImpossible = refl
named-number RunFinished = refl
named-number CasesFull = refl
named-number CaseNoRoom = refl

-- so what a contract says of the numbers, it says of the questions
pub number-one : (a b : Question) → number a ≡ number b → a ≡ b
number-one a b h = sym (named-number a) ∙ ap named h ∙ named-number b
