-- A late case: one more case is added to a task while a run of it is open. The task is the first bytes of a buffer. Questions 1 to 9 of its bytes come
-- first, then 31 of the run, 32 to 34, and 6 of the new case's sets; 31 to 34 and this 6 have place 0. The buffer then begins with the file of the same
-- task with the case added last, and the value is that file's length, 28 more. A refusal leaves the buffer as it was, and the run is only read.
use Rattle.std.specs.Prelude.{ℕ, ◌-◌, List, ◌++◌, Bool, cond, length, take, drop, leb, ltb}
use Rattle.task.specs.Facts.{case_consistent}
use Rattle.task.specs.Questions.{SETS}
use Rattle.task.specs.Reading.{read_task}
use Rattle.task.specs.Task.{with_case}
use Rattle.task.specs.TaskAt.{task_of}
use Rattle.task.specs.declared.index.Case.{Case}
use Rattle.task.specs.declared.index.Index.{Index}
use Rattle.task.specs.Verdict.{Verdict, Accepted, Refused}
use Rattle.task_file.specs.Bytes.{task_bytes}
use Rattle.step.specs.Possible.{possible}
use Rattle.step.specs.Questions.{POSSIBLE}
use Rattle.step.specs.declared.position.Position.{Position}
use Rattle.late_case.specs.Questions.{UNFINISHED, CASES, ROOM}

-- a question, with place 0, and what follows a yes
unfoldable pub asked : Bool → ℕ → Verdict → Verdict
asked answer question rest = cond answer rest (Refused question 0)

-- the answer, given the task's own verdict and what follows where that accepts
unfoldable pub after_task : Verdict → Verdict → Verdict
after_task (Accepted value) rest = rest
after_task (Refused question place) rest = Refused question place

-- what is asked once the task has passed: 31 to 34, and 6 of the new sets. `spare` bytes stand behind the task, and with the case its file has `longer`
unfoldable pub late_verdict : Index → Position → ℕ → Case → ℕ → Verdict
late_verdict i run spare c longer =
    asked (possible i run) POSSIBLE
    (asked (ltb 0 run.depth) UNFINISHED
    (asked (ltb i.cases 32) CASES
    (asked (leb 28 spare) ROOM
    (asked (case_consistent i.bounds.facts c.start c.goal) SETS
    (Accepted longer)))))

-- the buffer after a verdict: one that accepts has it begin with the file, and the bytes beyond keep their value
unfoldable pub buffer_after : Verdict → List ℕ → List ℕ → List ℕ
buffer_after (Accepted value) file buffer = file ++ drop (length file) buffer
buffer_after (Refused question place) file buffer = buffer

module _ (buffer : List ℕ) (given : ℕ) where
  -- the bytes of the task; a length above the buffer's means all of it
  abbrev pub task_in : List ℕ
  task_in = take given buffer

  module _ (c : Case) where
    -- the file of the same task with the case added last
    unfoldable pub longer_file : List ℕ
    longer_file = task_bytes (with_case (task_of task_in) c)

    module _ (run : Position) where
      -- the answer
      unfoldable pub add_verdict : Verdict
      add_verdict =
          after_task (read_task task_in).verdict
          (late_verdict (read_task task_in).layout.index run (length buffer - length task_in) c (length longer_file))

      -- the buffer afterwards
      unfoldable pub added_buffer : List ℕ
      added_buffer = buffer_after add_verdict longer_file buffer
