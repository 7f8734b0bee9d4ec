-- A late case. After an accepted call the buffer begins with the file of the same task with the case added last. A run that steps from the start led to
-- stands where the same steps on the longer task lead; and a program that solves the longer task's cases takes it on there, through the new case to the
-- finish.
use Rattle.std.specs.Prelude.{ℕ, ◌+◌, ◌-◌, ◌≤◌, ◌<◌, ◌≡◌, true, List, ◌++◌, length, take, drop, replicate}
use Rattle.records.specs.Numbers.{AreBytes}
use Rattle.records.specs.Record.{closing}
use Rattle.task.specs.Facts.{case_consistent}
use Rattle.task.specs.Reading.{read_task}
use Rattle.task.specs.Task.{with_case}
use Rattle.task.specs.TaskAt.{task_of}
use Rattle.task.specs.declared.index.Case.{Case}
use Rattle.task.specs.declared.index.Index.{Index}
use Rattle.task.specs.Verdict.{Verdict, Accepted, Refused}
use Rattle.task_file.specs.Bytes.{case_record}
use Rattle.task_file.specs.TaskFile.{Means}
use Rattle.step.specs.Position.{origin}
use Rattle.step.specs.Possible.{possible}
use Rattle.step.specs.Run.{Visit, EndsCase}
use Rattle.step.specs.Single.{single_step}
use Rattle.step.specs.declared.position.Position.{Position}
use Rattle.late_case.specs.Late.{task_in, add_verdict, added_buffer}
use Rattle.demands.specs.Demand3.{SolvesCases}
use Rattle.demands.specs.SingleSteps.{record_after, AllMade, steps_on}

-- two files: each passes questions 1 to 9, and the second means the first's task with a case added last
pub record Longer (old new : List ℕ) (c : Case) : Type 0 where
  pub before : Means old (task_of old)
  pub after : Means new (with_case (task_of old) c)

-- each of k single steps from the first case's start is made, and they lead to this record
pub record LeadTo (bytes program : List ℕ) (k : ℕ) (s : Position) : Type 0 where
  pub made : AllMade bytes program k
  pub to : record_after bytes program k ≡ s

-- one call
module _ (buffer : List ℕ) (given : ℕ) (c : Case) (run : Position) where
  -- the task's bytes, and what was read of them
  abbrev pub old : List ℕ
  old = task_in buffer given

  abbrev pub index : Index
  index = (read_task old).layout.index

  -- the answer, and the buffer afterwards
  abbrev pub answer : Verdict
  answer = add_verdict buffer given c run

  abbrev pub after : List ℕ
  after = added_buffer buffer given c run

  -- what an accepted call leaves
  pub record CaseAdded (value : ℕ) : Type 0 where
    -- the run is possible, and not finished
    pub possible : possible index run ≡ true
    pub unfinished : 0 < run.depth
    -- the value is the task's length and 28, and the buffer has as many bytes
    pub size : value ≡ length old + 28
    pub fits : value ≤ length buffer
    -- the buffer's first `value` bytes are the longer file: the case's record went in before the closing one
    pub longer : Longer old (take value after) c
    pub records : List ℕ
    pub closed : old ≡ records ++ closing
    pub put : take value after ≡ records ++ (case_record c ++ closing)
    -- the bytes beyond keep their value
    pub beyond : drop value after ≡ drop value buffer
    -- if steps on the task led to the run, the same steps on the longer file do
    pub same-steps : (program : List ℕ) (k : ℕ) → LeadTo old program k run → LeadTo (take value after) program k run

  -- a case may be added under a run that steps led to: the run is not finished, there are fewer than 32 cases and 28 bytes to spare, and the new sets pass
  -- question 6; nothing else is asked
  pub record MayBeAdded (program : List ℕ) (k : ℕ) : Type 0 where
    pub passes : (read_task old).verdict ≡ Accepted 0
    pub reached : LeadTo old program k run
    pub unfinished : 0 < run.depth
    pub few : index.cases < 32
    pub room : length old + 28 ≤ length buffer
    pub sets : case_consistent index.bounds.facts c.start c.goal ≡ true

  -- an accepted call adds the case; one that may be added is accepted; a refusal leaves the buffer as it was
  pub record LateCase : Type 0 where
    pub adds : (value : ℕ) → answer ≡ Accepted value → CaseAdded value
    pub accepts : (program : List ℕ) (k : ℕ) → MayBeAdded program k → answer ≡ Accepted (length old + 28)
    pub keeps : (question place : ℕ) → answer ≡ Refused question place → after ≡ buffer

-- for every buffer of bytes, length, case and run
abbrev pub LateCases : Type 0
LateCases = (buffer : List ℕ) (given : ℕ) (c : Case) (run : Position) → AreBytes buffer → LateCase buffer given c run

-- the start of the case behind so many others, after k steps
unfoldable pub begun : Case → ℕ → ℕ → Position
begun c cases k = record { facts = c.start; steps = k; case = cases; depth = 1; frames = replicate 16 origin }

-- from a record, so many single steps are made, and reach the finish: all cases, no frame
pub record FinishesIn (bytes program : List ℕ) (left : ℕ) (s : Position) : Type 0 where
  pub made : (j : ℕ) → j < left → (single_step bytes program (steps_on bytes program j s)).verdict ≡ Accepted 1
  pub case : (steps_on bytes program left s).case ≡ (read_task bytes).layout.index.cases
  pub depth : (steps_on bytes program left s).depth ≡ 0
  pub steps : (steps_on bytes program left s).steps ≡ s.steps + left

-- a program on a task and on the same task with a case added last; the finish is the record without a frame
pub record LongerRun (old new : List ℕ) (c : Case) (program : List ℕ) : Type 0 where
  -- from every record, a single step that is made on the old task and does not lead to its finish is the same on the longer one
  pub same_step : (s : Position) → (single_step old program s).verdict ≡ Accepted 1 → 0 < (single_step old program s).position.depth
      → single_step new program s ≡ single_step old program s
  -- so any number of steps from the first case's start that are all made on the old task and do not reach its finish are made on the longer one, and lead to
  -- the same record
  pub same-steps : (k : ℕ) (s : Position) → LeadTo old program k s → 0 < s.depth → LeadTo new program k s
  -- those that do reach it begin the new case
  pub new-case-begins : (k : ℕ) (s : Position) → LeadTo old program k s → s.depth ≡ 0
      → LeadTo new program k (begun c (read_task old).layout.index.cases k)
  -- a program that solves the old task's cases in k steps and ends the new case in its goal solves the longer task's, if the steps are at most S together
  pub solves-longer : (k : ℕ) (trace : List Visit) → SolvesCases old (read_task old).layout program k
      → EndsCase new (read_task new).layout.index (read_task new).layout.offsets program (read_task old).layout.index.cases trace
      → k + length trace ≤ (read_task old).layout.index.bounds.steps
      → SolvesCases new (read_task new).layout program (k + length trace)
  -- if it solves the longer task's cases in n steps, a run that k steps on the old task led to, and that is not at its finish, is finished by n - k more
  -- single steps on the longer one
  pub run-goes-on : (k n : ℕ) (s : Position) → LeadTo old program k s → 0 < s.depth → SolvesCases new (read_task new).layout program n
      → (k < n) × FinishesIn new program (n - k) s

abbrev pub LongerRuns : Type 0
LongerRuns = (old new : List ℕ) (c : Case) (program : List ℕ) → Longer old new c → LongerRun old new c program
