-- The writer: a task, a program and a buffer to a verdict, and the buffer afterwards. It asks 1 to 9 of the task and 25 to 27 of the program. Then
-- it runs the program on all the cases, one after the other, and asks 14, 28 and 19 to 22 before each step; the place of a no is the number of
-- steps done. Each step has its record: of kind 17 if its line is preset or was run earlier, in any case, else of kind 16. After the finish the closing
-- record follows, and question 29 asks for the buffer's length.
use Rattle.std.specs.Prelude.{ℕ, ◌-◌, List, [], ◌++◌, cond, length, leb, ltb, eqb}
use Rattle.records.specs.Loop.{Turn, stop, go, loop}
use Rattle.records.specs.Record.{closing}
use Rattle.task.specs.Index.{case_at}
use Rattle.task.specs.Program.{line_offset, line_bytes, spelled_on, program_verdict}
use Rattle.task.specs.Reading.{read_task}
use Rattle.task.specs.declared.index.Index.{Index}
use Rattle.task.specs.declared.index.Layout.{Layout}
use Rattle.task.specs.declared.instruction.Instruction.{Instruction}
use Rattle.task.specs.declared.instruction.Triple.{Triple}
use Rattle.task.specs.Verdict.{Refused}
use Rattle.step.specs.Perform.{run_step}
use Rattle.step.specs.Position.{starting, top}
use Rattle.step.specs.Questions.{STEPS}
use Rattle.step.specs.declared.position.Position.{Position}
use Rattle.checker.specs.Answer.{Answer, Outcome, refused, accepted, passing, answer}
use Rattle.checker.specs.Check.{written}
use Rattle.checker.specs.Plan.{record_of, plan_size}
use Rattle.checker.specs.Questions.{PLAN-BUFFER}
use Rattle.checker.specs.declared.plan.Step.{Step}
use Rattle.checker.specs.declared.plan.Step.TheVariants.{Write, Repeat}

-- where the writer stands: the run's position; the lines that are preset or were run, as a program of 768 bytes; and the records so far
pub record Writing : Type 0 where
  pub position : Position
  pub lines : List ℕ
  pub plan : List ℕ

-- the step at a line, given the three bytes that the lines preset or run have there: a line that is neither gets written
unfoldable pub step_on : Triple → Instruction → Step
step_on held w = cond (eqb held.op 0) (Write w) (Repeat w)

-- after questions 14, 28 and 19 to 22 of the top frame's line: refused with the steps done, or one step and its record more
unfoldable pub on_step : Index → List ℕ → Writing → Turn Position ℕ → Turn Writing Outcome
on_step i program s (stop question) = stop (refused question s.position.steps)
on_step i program s (go position) =
    let f = top s.position in
    let step = step_on (line_bytes i.bounds s.lines f.procedure f.line) (spelled_on i.bounds program f.procedure f.line) in
    go
    (record {
      position = position;
      lines = written s.lines (line_offset i.bounds f.procedure f.line) step;
      plan = s.plan ++ record_of (record { frame = f; step = step });
    })

-- one turn of the writer: a step of the program, or after the last case the closing record
unfoldable pub write_turn : List ℕ → Index → List ℕ → List ℕ → Writing → Turn Writing Outcome
write_turn bytes i offsets program s =
    cond (ltb s.position.case i.cases)
    (on_step i program s (run_step bytes i offsets program s.position))
    (stop (accepted s.position.steps (s.plan ++ closing)))

-- how many steps question 14 leaves
abbrev pub steps_left : Index → Writing → ℕ
steps_left i s = i.bounds.steps - s.position.steps

-- it begins at the first case's start, with the preset lines and no record
unfoldable pub start : List ℕ → Index → List ℕ → Writing
start bytes i presets = record { position = starting 0 (case_at bytes i.first 0).start; lines = presets; plan = [] }

-- the whole run. Question 14 stops it after S steps, so the loop never runs out of turns
unfoldable pub run : List ℕ → Layout → List ℕ → Outcome
run bytes t program =
    loop (write_turn bytes t.index t.offsets program) (steps_left t.index) (refused STEPS 0) (start bytes t.index t.presets)

-- what the program comes to: the task's verdict, the program's own, and its run
unfoldable pub program_result : List ℕ → List ℕ → Outcome
program_result bytes program =
    let t = (read_task bytes).layout in
    passing (read_task bytes).verdict (passing (program_verdict t.index t.presets program) (run bytes t program))

-- the answer to it: question 29 comes after the finish, and its place is the number of bytes needed
unfoldable pub on_finish : List ℕ → Outcome → Answer
on_finish buffer (refused question place) = record { verdict = Refused question place; buffer = buffer }
on_finish buffer (accepted steps plan) =
    let size = plan_size steps in
    answer size buffer (cond (leb size (length buffer)) (accepted steps plan) (refused PLAN-BUFFER size))

-- the writer
unfoldable pub write : List ℕ → List ℕ → List ℕ → Answer
write bytes program buffer = on_finish buffer (program_result bytes program)
