-- A task and a plan in two files, what is printed on them, and how long that is. Question 30 comes first, then those of the checker.
use Rattle.std.specs.Prelude.{ℕ, ◌≤◌, List, cond, ◌&&◌, length, replicate, leb}
use Rattle.task.specs.Reading.{read_task}
use Rattle.task.specs.Verdict.{Refused}
use Rattle.checker.specs.Answer.{Answer}
use Rattle.checker.specs.Check.{check}
use Rattle.listing.specs.Listing.{report_text}

-- whether each file is at most 65536 bytes long
abbrev pub FILE-LENGTH : ℕ
FILE-LENGTH = 30

-- the most bytes that a file may have
abbrev pub LONGEST : ℕ
LONGEST = 65536

-- question 30, then the checker: a verdict, and the buffer afterwards
unfoldable pub check_files : List ℕ → List ℕ → List ℕ → Answer
check_files task plan buffer =
    cond (leb (length task) LONGEST && leb (length plan) LONGEST)
    (check task plan buffer)
    (record { verdict = Refused FILE-LENGTH LONGEST; buffer = buffer })

-- what is printed: the report on the plan, with the program in a buffer that has room for the largest
unfoldable pub printed : List ℕ → List ℕ → List ℕ
printed task plan =
    let checked = check_files task plan (replicate 768 0) in
    report_text checked.verdict (read_task task).layout.index checked.buffer

-- whatever the files are, the program's text has room for what is printed
abbrev pub PrintedFits : Type 0
PrintedFits = (task plan : List ℕ) → length (printed task plan) ≤ 4096
