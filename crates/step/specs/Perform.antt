-- One step: one instruction at a position. The step stops with the number of the first question that says no, or goes to the next
-- position, with one step more done. `bytes` are the task's, `i` and `offsets` parts of their layout.
use Rattle.std.specs.Prelude.{ℕ, ◌+◌, List, cond, get_or, ltb, Option, Some, None, Result, Ok, Err}
use Rattle.records.specs.Loop.{Turn, stop, go, ask}
use Rattle.task.specs.Index.{action_at, effects_of, case_at}
use Rattle.task.specs.Program.{instruction_on}
use Rattle.task.specs.declared.index.Index.{Index}
use Rattle.task.specs.declared.instruction.Line.{Line}
use Rattle.task.specs.declared.instruction.Proc.{Proc}
use Rattle.task.specs.declared.instruction.Instruction.{Instruction}
use Rattle.task.specs.declared.instruction.Instruction.TheVariants.{Empty, Act, Goto, Call, End}
use Rattle.task.specs.Verdict.{Verdict, Accepted, Refused, number}
use Rattle.task.specs.declared.refusal.Refusal.{Refusal}
use Rattle.step.specs.Effects.{changes_of, changed}
use Rattle.step.specs.Facts.{has, holds}
use Rattle.step.specs.Position.{top, jumped, advanced, pushed, popped, with_facts, next_case, finished, counted}
use Rattle.step.specs.Questions.{STEPS, PRECONDITION, STACK, GOAL, EMPTY}
use Rattle.step.specs.declared.position.Position.{Position}

-- act, given where the action's record is: question 19; the facts change, and the line grows by 1
unfoldable pub act : List ℕ → ℕ → Position → Turn Position ℕ
act bytes at s =
    ask (holds s.facts (action_at bytes at).precondition) PRECONDITION
    (go (counted (with_facts (advanced s) (changed s.facts (changes_of s.facts (effects_of bytes at))))))

-- goto: the line grows by 1 if the fact is true, and becomes the target if it is false
unfoldable pub goto : Line → ℕ → Position → Turn Position ℕ
goto target fact s = go (counted (cond (has s.facts fact) (advanced s) (jumped s target)))

-- call: question 21; the line grows by 1, then line 0 of the procedure is pushed
unfoldable pub call : ℕ → Proc → Position → Turn Position ℕ
call stack procedure s = ask (ltb s.depth stack) STACK (go (counted (pushed (advanced s) procedure)))

-- the position that follows the end of a case: the next case, or after the last one the finish
unfoldable pub after_case : List ℕ → Index → Position → Position
after_case bytes i s = cond (ltb (s.case + 1) i.cases) (next_case s (case_at bytes i.first (s.case + 1)).start) (finished s)

-- end: with more than one frame a pop; else, which of a position with a frame means one frame, question 22 and the end of the case
unfoldable pub end : List ℕ → Index → Position → Turn Position ℕ
end bytes i s =
    cond (ltb 1 s.depth)
    (go (counted (popped s)))
    (ask (holds s.facts (case_at bytes i.first s.case).goal) GOAL (go (counted (after_case bytes i s))))

module _ (bytes : List ℕ) (i : Index) (offsets : List ℕ) where
  -- an instruction: questions 19 to 22, of which 20 is never asked, and 28 of an empty one
  unfoldable pub perform : Position → Instruction → Turn Position ℕ
  perform s Empty = stop EMPTY
  perform s (Act action) = act bytes (get_or offsets action 0) s
  perform s (Goto target fact) = goto target fact s
  perform s (Call procedure) = call i.bounds.stack procedure s
  perform s End = end bytes i s

  -- what stands on a line; a line that holds no instruction, which question 26 lets no program have, is as an empty one
  unfoldable pub perform_decoded : Position → Option Instruction → Turn Position ℕ
  perform_decoded s (Some w) = perform s w
  perform_decoded s None = stop EMPTY

  module _ (program : List ℕ) (s : Position) where
    -- the top frame's line of a program: questions 28 and 19 to 22
    unfoldable pub run_line : Turn Position ℕ
    run_line = perform_decoded s (instruction_on i program (top s).procedure (top s).line)

    -- the same within the step bound: question 14 first
    unfoldable pub run_step : Turn Position ℕ
    run_step = ask (ltb s.steps i.bounds.steps) STEPS run_line

-- the answer to one step, and the position after it: the next one, or after a refusal the same
pub record Stepped : Type 0 where
  pub verdict : Verdict
  pub position : Position

-- an answer that leaves the position as it was
unfoldable pub unchanged : Position → Verdict → Stepped
unchanged s verdict = record { verdict = verdict; position = s }

-- the answer to one step from a position: 0 and 1 with the next position, or the question and the steps done, the position as it was
unfoldable pub answered : Position → Turn Position ℕ → Stepped
answered s (stop question) = unchanged s (Refused question s.steps)
answered s (go next) = record { verdict = Accepted 1; position = next }

-- what the code's answer to one step from a position stands for: 0 and 0 for a finished run, or 0 and 1 with the next position
unfoldable pub stepped : Position → Result (Option Position) Refusal → Stepped
stepped s (Ok None) = unchanged s (Accepted 0)
stepped s (Ok (Some next)) = record { verdict = Accepted 1; position = next }
stepped s (Err r) = unchanged s (Refused (number r.question) r.place)
