-- The single step of a caller's run: questions 1 to 9 of the task, 25 to 27 of the program, 31 of the position; a finished run stays as it
-- is, with 0 and 0; otherwise 14, 28 and 19 to 22, and then 0 and 1 with the next position. A refusal gives the position back as it was.
use Rattle.std.specs.Prelude.{ℕ, List, cond, eqb}
use Rattle.task.specs.Program.{program_verdict}
use Rattle.task.specs.Reading.{read_task, Reading}
use Rattle.task.specs.declared.index.Index.{Index}
use Rattle.task.specs.Verdict.{Verdict, Accepted, Refused}
use Rattle.step.specs.Perform.{Stepped, run_step, unchanged, answered}
use Rattle.step.specs.Possible.{possible}
use Rattle.step.specs.Questions.{POSSIBLE}
use Rattle.step.specs.declared.position.Position.{Position}

-- what follows a verdict: the rest if it accepts; a refusal is the answer
unfoldable pub following : Position → Verdict → Stepped → Stepped
following s (Accepted value) rest = rest
following s (Refused question place) rest = unchanged s (Refused question place)

-- task and program passed: question 31, the finish, one step
unfoldable pub step_once : List ℕ → Index → List ℕ → List ℕ → Position → Stepped
step_once bytes i offsets program s =
    cond (possible i s)
    (cond (eqb s.depth 0) (unchanged s (Accepted 0)) (answered s (run_step bytes i offsets program s)))
    (unchanged s (Refused POSSIBLE 0))

-- a task's reading: its verdict, then the program's
unfoldable pub on_reading : List ℕ → List ℕ → Position → Reading → Stepped
on_reading bytes program s r =
    following s r.verdict
    (following s (program_verdict r.layout.index r.layout.presets program) (step_once bytes r.layout.index r.layout.offsets program s))

-- the single step
unfoldable pub single_step : List ℕ → List ℕ → Position → Stepped
single_step bytes program s = on_reading bytes program s (read_task bytes)
