-- The starred cases of the double-click task, *1 to *13, as one table: what is asked of the checker or of the writer, and the answer, with the
-- whole buffer afterwards. Tasks, plans and programs are built from named pieces, so that each case is seen to be one change of the good one. The double-click
-- task stands here as a value too, with these bytes.
use Rattle.std.specs.Prelude.{ℕ, ◌≡◌, List, [], ◌∷◌, ◌++◌, map, length, replicate}
use Rattle.records.specs.Record.{record_bytes, closing}
use Rattle.task.specs.Task.{Task}
use Rattle.task.specs.TaskAt.{task_of}
use Rattle.task.specs.Verdict.{Verdict, Accepted, Refused}
use Rattle.task_file.specs.Bytes.{task_bytes}
use Rattle.checker.specs.Answer.{Answer}
use Rattle.checker.specs.Check.{check}
use Rattle.checker.specs.Write.{write}

-- a set of facts below 8, as 8 bytes. Fact 0 is open and fact 1 is bib, so {} is 0, {open} is 1 and {bib} is 2
abbrev pub facts : ℕ → List ℕ
facts set = set ∷ replicate 7 0

-- a pair of sets
abbrev pub pair : ℕ → ℕ → List ℕ
pair positive negative = facts positive ++ facts negative

-- an effect without a condition: what it raises and what it lowers
abbrev pub effect : ℕ → ℕ → List ℕ
effect raised lowered = pair 0 0 ++ pair raised lowered

-- a case: its start, and the goal, bib and not open
abbrev pub case_from : ℕ → List ℕ
case_from start = record_bytes 4 (facts start ++ pair 2 1)

-- F 2, b 1, n 2, m 1 and the step bound; action 0, which needs open, with its effects; the cases
abbrev pub task_with : ℕ → List ℕ → List ℕ
task_with steps effects =
    record_bytes 1 (2 ∷ 1 ∷ 2 ∷ 1 ∷ steps ∷ 0 ∷ []) ++ record_bytes 2 (pair 1 0 ++ effects) ++ case_from 1 ++ case_from 2 ++ closing

-- the double-click task: S 5, and one effect, which raises bib and lowers open
abbrev pub double_click : List ℕ
double_click = task_with 5 (effect 2 1)

-- the same, as a task
abbrev pub double_click_task : Task
double_click_task =
    record {
      bounds = record { facts = 2; procedures = 1; last = 2; stack = 1; steps = 5 };
      actions =
          record {
            precondition = record { positive = 1; negative = 0 };
            effects = record { condition = record { positive = 0; negative = 0 }; raised = 2; lowered = 1 } ∷ [];
          }
          ∷ [];
      presets = [];
      cases =
          record { start = 1; goal = record { positive = 2; negative = 1 } }
          ∷ record { start = 2; goal = record { positive = 2; negative = 1 } }
          ∷ [];
    }

-- its bytes are these, and `task_of` gives it back
abbrev pub DoubleClick : Type 0
DoubleClick = (task_bytes double_click_task ≡ double_click) × (task_of double_click ≡ double_click_task)

-- the instructions
abbrev pub empty : List ℕ
empty = 0 ∷ 0 ∷ 0 ∷ []

abbrev pub act : ℕ → List ℕ
act action = 1 ∷ action ∷ 0 ∷ []

abbrev pub goto : ℕ → ℕ → List ℕ
goto target fact = 2 ∷ target ∷ fact ∷ []

abbrev pub call : ℕ → List ℕ
call procedure = 3 ∷ procedure ∷ 0 ∷ []

abbrev pub end : List ℕ
end = 4 ∷ 0 ∷ 0 ∷ []

-- the good program
abbrev pub good_program : List ℕ
good_program = goto 2 0 ++ act 0 ++ end

-- a step on a line of procedure 0
abbrev pub step : ℕ → ℕ → List ℕ → List ℕ
step kind line instruction = record_bytes kind (0 ∷ line ∷ instruction)

-- the good plan: its five steps, and the closing record
abbrev pub first : List ℕ
first = step 16 0 (goto 2 0)

abbrev pub second : List ℕ
second = step 16 1 (act 0)

abbrev pub third : List ℕ
third = step 16 2 end

abbrev pub fourth : List ℕ
fourth = step 17 0 (goto 2 0)

abbrev pub fifth : List ℕ
fifth = step 17 2 end

abbrev pub good_plan : List ℕ
good_plan = first ++ second ++ third ++ fourth ++ fifth ++ closing

-- this plan's bytes as docs/FORMATS.md prints them
abbrev pub printed : List ℕ
printed =
    0x05 ∷ 0x00 ∷ 0x10 ∷ 0x00 ∷ 0x00 ∷ 0x00 ∷ 0x02 ∷ 0x02 ∷ 0x00
    ∷ 0x05 ∷ 0x00 ∷ 0x10 ∷ 0x00 ∷ 0x00 ∷ 0x01 ∷ 0x01 ∷ 0x00 ∷ 0x00
    ∷ 0x05 ∷ 0x00 ∷ 0x10 ∷ 0x00 ∷ 0x00 ∷ 0x02 ∷ 0x04 ∷ 0x00 ∷ 0x00
    ∷ 0x05 ∷ 0x00 ∷ 0x11 ∷ 0x00 ∷ 0x00 ∷ 0x00 ∷ 0x02 ∷ 0x02 ∷ 0x00
    ∷ 0x05 ∷ 0x00 ∷ 0x11 ∷ 0x00 ∷ 0x00 ∷ 0x02 ∷ 0x04 ∷ 0x00 ∷ 0x00
    ∷ 0x00 ∷ 0x00 ∷ 0x05 ∷ 0x00
    ∷ []

-- the pieces give the bytes of docs/FORMATS.md: a task of 122, and this plan
abbrev pub AsPrinted : Type 0
AsPrinted = (length double_click ≡ 122) × (good_plan ≡ printed)

-- what is asked: of the checker a task, a plan and a buffer, of the writer a task, a program and a buffer
pub data Request : Type 0 where
  checks : List ℕ → List ℕ → List ℕ → Request
  writes : List ℕ → List ℕ → List ℕ → Request

-- what the definitions answer
unfoldable pub answer_to : Request → Answer
answer_to (checks task plan buffer) = check task plan buffer
answer_to (writes task program buffer) = write task program buffer

-- a buffer of so many bytes, each of them 170: 10 are lent for the 9 of a program, 50 for the 49 of the plan
abbrev pub lent : ℕ → List ℕ
lent size = replicate size 170

-- the table: a request, the verdict, and the buffer afterwards
unfoldable pub table : List (Request × Verdict × List ℕ)
table =
    (checks double_click good_plan (lent 10), Accepted 5, good_program ++ lent 1)  -- *1
    ∷ (writes double_click good_program (lent 50), Accepted 5, good_plan ++ lent 1)  -- *1
    ∷ (checks (task_with 4 (effect 2 1)) good_plan (lent 10), Refused 14 36, lent 10)  -- *2
    ∷ (writes (task_with 4 (effect 2 1)) good_program (lent 50), Refused 14 4, lent 50)  -- *2
    ∷ (checks double_click (first ++ second ++ third ++ step 16 0 (goto 2 0) ++ fifth ++ closing) (lent 10), Refused 18 27, lent 10)  -- *3
    ∷ (checks double_click (first ++ second ++ third ++ fourth ++ closing) (lent 10), Refused 23 36, lent 10)  -- *4
    ∷ (checks double_click (first ++ third ++ fourth ++ fifth ++ closing) (lent 10), Refused 17 9, lent 10)  -- *5
    ∷ (checks double_click (good_plan ++ (0 ∷ [])) (lent 10), Refused 24 49, lent 10)  -- *6
    ∷ (checks double_click (step 16 0 end ++ second ++ third ++ fourth ++ fifth ++ closing) (lent 10), Refused 15 0, lent 10)  -- *7
    ∷ (checks double_click (step 16 0 (call 0) ++ second ++ third ++ fourth ++ fifth ++ closing) (lent 10), Refused 21 0, lent 10)  -- *8
    ∷ (checks double_click [] (lent 10), Refused 11 0, lent 10)  -- *9
    ∷ (writes double_click (goto 2 0 ++ empty ++ end) (lent 50), Refused 28 1, lent 50)  -- *10
    ∷ (writes double_click (act 0 ++ end ++ empty) (lent 50), Refused 19 2, lent 50)  -- *11
    ∷ (writes double_click (goto 2 0 ++ goto 2 1 ++ end) (lent 50), Refused 22 2, lent 50)  -- *12
    ∷ (checks (task_with 5 (effect 2 1 ++ effect 1 0)) good_plan (lent 10), Refused 22 18, lent 10)  -- *13
    ∷ []

-- the definitions' answers to the requests are the table's
abbrev pub Starred : Type 0
Starred = map (λ r. answer_to r.0) table ≡ map (λ r. record { verdict = r.1; buffer = r.2 }) table
