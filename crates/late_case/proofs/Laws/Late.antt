-- The call's answer, question by question; and the buffer: what is put before the closing record makes the file of the same task with the case added last.
-- And what the verdict can be.
-- Assumes nothing.
use Prim.Native.Nat.{ℕ, ◌+◌, ◌-◌, ◌≤◌, ◌<◌, min}
use mathlib.Core.Path.{◌≡◌, refl, sym, ap, ◌∙◌}
use mathlib.Core.Bool.{Bool, true, false}
use mathlib.Core.List.{List, ◌++◌}
use mathlib.Core.Logic.{◌⊎◌, inl, inr}
use native.Mathlib.Decide.{dec_lt}
use native.Mathlib.Omega.{arith}
use Rattle.std.proofs.lemmas.List.{length-take, take_min}
use lib.ListN.{length, take, drop, length-append, get_or-eq_default}
use lib.Seq.{sets, sets-eq, take-take, take-append_seam, get_or-take}
use lib.Dec.{leb, ltb}
use borrow.Author.Tests.{leb-true, ltb-true, lt-ltb, le-leb}
use Rattle.records.specs.Numbers.{AreBytes, number_bytes}
use Rattle.records.specs.Record.{record_bytes, closing}
use Rattle.records.proofs.Laws.Tests.{cond_either}
use Rattle.task.specs.Facts.{case_consistent}
use Rattle.task.specs.Questions.{SETS}
use Rattle.task.specs.Reading.{read_task, Reading}
use Rattle.task.specs.TaskAt.{task_of}
use Rattle.task.specs.declared.index.Case.{Case}
use Rattle.task.specs.declared.index.Index.{Index}
use Rattle.task.specs.Verdict.{Verdict, Accepted, Refused}
use Rattle.task.proofs.Laws.Verdict.{refused-accepted}
use Rattle.task_file.specs.Bytes.{pair_bytes, case_record}
use Rattle.task_file.proofs.TaskFile.{accepted-file}
use Rattle.task_file.proofs.Laws.Read.{case-added}
use Rattle.step.specs.Possible.{possible}
use Rattle.step.specs.Questions.{POSSIBLE}
use Rattle.step.specs.declared.position.Position.{Position}
use Rattle.late_case.specs.Late.{asked, after_task, late_verdict, buffer_after, task_in, longer_file, add_verdict, added_buffer}
use Rattle.late_case.specs.Questions.{UNFINISHED, CASES, ROOM}

-- the length that is given, capped by the buffer's
pub record Capped (buffer : List ℕ) (given size : ℕ) : Type 0 where
  pub part : take size buffer ≡ task_in buffer given
  pub count : length (task_in buffer given) ≡ size
  pub most : size ≤ length buffer

-- the smaller of the two lengths
pub smaller : (buffer : List ℕ) (given size : ℕ) → size ≡ min given (length buffer) → Capped buffer given size
smaller buffer given size e =
    record {
      part = ap (λ (n : ℕ). take n buffer) e ∙ take_min given buffer;
      count = length-take given buffer ∙ sym e;
      most = omega arith;
    }

-- the length that the task has
pub own-capped : (buffer : List ℕ) (given : ℕ) → Capped buffer given (length (task_in buffer given))
own-capped buffer given = smaller buffer given _ (length-take given buffer)

-- the first part of a list of bytes
pub part_bytes : (bytes : List ℕ) → AreBytes bytes → (n : ℕ) → AreBytes (take n bytes)
part_bytes bytes are n at =
    elim (dec_lt at n) [
      | yes h ↦ rw (get_or-take n bytes at 0 h) (are at)
      | no m ↦ rw (get_or-eq_default (take n bytes) 0 {n = at} (omega (arith, m, length-take n bytes))) (omega arith)
    ]

-- a question that does not refuse said yes
asked-yes : (answer : Bool) (question : ℕ) (rest : Verdict) (n : ℕ) → Accepted n ≡ asked answer question rest → (answer ≡ true) × (Accepted n ≡ rest)
unfolding asked
asked-yes true question rest n e = (refl, e)
asked-yes false question rest n e = absurd (refused-accepted (sym e))

-- questions 31 to 34 and 6, one after the other
module _ (i : Index) (run : Position) (spare : ℕ) (new : Case) (size : ℕ) where
  abbrev Answers : Verdict → Type 0
  Answers v = v ≡ late_verdict i run spare new size

  pub late-good : possible i run ≡ true → 0 < run.depth → i.cases < 32 → 28 ≤ spare → case_consistent i.bounds.facts new.start new.goal ≡ true → Answers (Accepted size)
  unfolding late_verdict asked
  late-good y above few room g = rw (y, lt-ltb 0 run.depth above, lt-ltb i.cases 32 few, le-leb 28 spare room, g) refl

  -- all of them said yes
  pub record Yes (n : ℕ) : Type 0 where
    pub possible : possible i run ≡ true
    pub above : 0 < run.depth
    pub few : i.cases < 32
    pub room : 28 ≤ spare
    pub sets : case_consistent i.bounds.facts new.start new.goal ≡ true
    pub value : n ≡ size

  pub late-yes : (n : ℕ) → Answers (Accepted n) → Yes n
  unfolding late_verdict
  late-yes n e =
      let a = asked-yes (possible i run) POSSIBLE _ n e in
      let b = asked-yes (ltb 0 run.depth) UNFINISHED _ n a.1 in
      let c = asked-yes (ltb i.cases 32) CASES _ n b.1 in
      let d = asked-yes (leb 28 spare) ROOM _ n c.1 in
      let f = asked-yes (case_consistent i.bounds.facts new.start new.goal) SETS _ n d.1 in
      record {
        possible = a.0;
        above = ltb-true 0 run.depth b.0;
        few = ltb-true i.cases 32 c.0;
        room = leb-true 28 spare d.0;
        sets = f.0;
        value = let z = f.1 in cc;
      }

-- a task that passes, in a buffer of bytes
module _ (buffer : List ℕ) (given : ℕ) (new : Case) (size : ℕ) (capped : Capped buffer given size) (are : AreBytes buffer)
    (value : ℕ) (passes : (read_task (task_in buffer given)).verdict ≡ Accepted value) where
  abbrev pub added : List ℕ
  added = case_record new ++ closing

  -- the file of the task: its records, and the closing one
  pub record Parted : Type 0 where
    pub records : List ℕ
    pub form : task_in buffer given ≡ records ++ closing
    pub longer : longer_file buffer given new ≡ records ++ added

  pub parted : Parted
  unfolding longer_file
  parted =
      let t = task_of (task_in buffer given) in
      let x = case-added t new in
      let file = accepted-file (task_in buffer given) value passes (part_bytes buffer are given) in
      record { records = x.0; form = file.form ∙ x.1; longer = x.2 }

  added-length : length added ≡ 32
  unfolding case_record pair_bytes closing record_bytes number_bytes
  added-length = refl

  -- the closing record is the last four bytes
  records-length : length parted.records + 4 ≡ size
  unfolding closing record_bytes number_bytes
  records-length = sym (length-append parted.records closing) ∙ ap length (sym parted.form) ∙ capped.count

  pub closing-there : 4 ≤ size
  closing-there = omega (arith, records-length)

  pub longer-length : length (longer_file buffer given new) ≡ size + 28
  longer-length =
      ap length parted.longer ∙ length-append parted.records added ∙ omega (arith, added-length, records-length)

  -- what is put in place of the closing record
  pub longer-put : size + 28 ≤ length buffer
      → sets buffer (size - 4) added ≡ longer_file buffer given new ++ drop (length (longer_file buffer given new)) buffer
  longer-put room =
      let at : size - 4 ≡ length parted.records = omega (arith, records-length) in
      let front : take (size - 4) buffer ≡ parted.records =
      sym (take-take (size - 4) size buffer (omega arith))
      ∙ ap (take (size - 4)) (capped.part ∙ parted.form)
      ∙ ap (λ (n : ℕ). take n (parted.records ++ closing)) at
      ∙ take-append_seam parted.records closing in
      let end : size - 4 + length added ≡ length (longer_file buffer given new) = omega (arith, added-length, longer-length, records-length) in
      sets-eq added buffer (size - 4) (omega (arith, room, added-length, records-length))
      ∙ ap (λ (l : List ℕ). l ++ added ++ drop (size - 4 + length added) buffer) front
      ∙ ap (λ (l : List ℕ). l ++ drop (size - 4 + length added) buffer) (sym parted.longer)
      ∙ ap (λ (n : ℕ). longer_file buffer given new ++ drop n buffer) end

  -- the same of the buffer's parts
  pub longer-made : size + 28 ≤ length buffer
      → take (size - 4) buffer ++ added ++ drop (size - 4 + 32) buffer
      ≡ longer_file buffer given new ++ drop (length (longer_file buffer given new)) buffer
  longer-made room =
      ap (λ (n : ℕ). take (size - 4) buffer ++ added ++ drop (size - 4 + n) buffer) (sym added-length)
      ∙ sym (sets-eq added buffer (size - 4) (omega (arith, room, added-length, records-length)))
      ∙ longer-put room

-- the call's answer and the buffer
module _ (buffer : List ℕ) (given : ℕ) (new : Case) (run : Position) (size : ℕ) (capped : Capped buffer given size) (r : Reading)
    (read : r ≡ read_task (take size buffer)) where
  abbrev Done : Verdict → List ℕ → Type 0
  Done v after = (v ≡ add_verdict buffer given new run) × (after ≡ added_buffer buffer given new run)

  same-reading : r ≡ read_task (task_in buffer given)
  same-reading = read ∙ ap read_task capped.part

  -- the task is refused
  pub task-refused : (question place : ℕ) → r.verdict ≡ Refused question place → Done r.verdict buffer
  unfolding add_verdict added_buffer after_task buffer_after
  task-refused question place h = rw (← same-reading, h) (refl, refl)

  -- it passes, and the questions about the run and the case decide
  module _ (are : AreBytes buffer) (value : ℕ) (h : r.verdict ≡ Accepted value) (v : Verdict)
      (e : v ≡ late_verdict r.layout.index run (length buffer - size) new (size + 28)) where
    passes : (read_task (task_in buffer given)).verdict ≡ Accepted value
    passes = ap (λ (x : Reading). x.verdict) (sym same-reading) ∙ h

    answer : v ≡ add_verdict buffer given new run
    unfolding add_verdict after_task
    answer = rw (← same-reading, h, capped.count, longer-length buffer given new size capped are value passes) e

    pub late-refused : (question place : ℕ) → v ≡ Refused question place → Done v buffer
    unfolding added_buffer buffer_after
    late-refused question place z = (answer, rw (← answer, z) refl)

    -- there is room for the case
    pub late-room : (n : ℕ) → v ≡ Accepted n → (4 ≤ size) × (size + 28 ≤ length buffer)
    late-room n z =
        let y = late-yes r.layout.index run (length buffer - size) new (size + 28) n (sym z ∙ e) in
        (closing-there buffer given new size capped are value passes, omega (arith, y.room, capped.most))

    pub late-added : (n : ℕ) → v ≡ Accepted n → Done v (take (size - 4) buffer ++ (case_record new ++ closing) ++ drop (size - 4 + 32) buffer)
    unfolding added_buffer buffer_after
    late-added n z = (answer, rw (← answer, z) (longer-made buffer given new size capped are value passes (late-room n z).1))

-- an accepted call: the task passes, and the questions about the run and the case say yes
module _ (buffer : List ℕ) (given : ℕ) (new : Case) (run : Position) where
  abbrev i : Index
  i = (read_task (task_in buffer given)).layout.index

  pub record Accepts (n : ℕ) : Type 0 where
    pub value : ℕ
    pub passes : (read_task (task_in buffer given)).verdict ≡ Accepted value
    pub yes : Yes i run (length buffer - length (task_in buffer given)) new (length (longer_file buffer given new)) n
    pub after : added_buffer buffer given new run ≡ longer_file buffer given new ++ drop (length (longer_file buffer given new)) buffer

  pub accepted-yes : (n : ℕ) → add_verdict buffer given new run ≡ Accepted n → Accepts n
  unfolding add_verdict added_buffer after_task buffer_after
  accepted-yes n e = by (read_task (task_in buffer given)).verdict refl e
    where
      by : (v : Verdict) → (read_task (task_in buffer given)).verdict ≡ v
          → after_task v (late_verdict i run (length buffer - length (task_in buffer given)) new (length (longer_file buffer given new))) ≡ Accepted n → Accepts n
      by (Accepted value) h f = record { value = value; passes = h; yes = late-yes i run _ new _ n (sym f); after = rw e refl }
      by (Refused question place) h f = absurd (refused-accepted f)

-- a property of the task's verdict, of the call's own refusals and of an acceptance with the longer file's length is one of the verdict
module _ (Q : Verdict → Type 0) (buffer : List ℕ) (given : ℕ) (new : Case) (run : Position)
    (refuses : (question : ℕ) → (question ≡ SETS) ⊎ (POSSIBLE ≤ question) → Q (Refused question 0)) where
  asked-has : (answer : Bool) (question : ℕ) (rest : Verdict) → (question ≡ SETS) ⊎ (POSSIBLE ≤ question) → Q rest → Q (asked answer question rest)
  unfolding asked
  asked-has answer question rest n h = cond_either Q answer rest _ (λ e. h) (λ e. refuses question n)

  pub add-has : Q (read_task (task_in buffer given)).verdict
      → ((value : ℕ) → (read_task (task_in buffer given)).verdict ≡ Accepted value → Q (Accepted (length (longer_file buffer given new))))
      → Q (add_verdict buffer given new run)
  unfolding add_verdict late_verdict after_task
  add-has task accepts = after (read_task (task_in buffer given)).verdict refl task
    where
      after : (v : Verdict) → (read_task (task_in buffer given)).verdict ≡ v → Q v
          → Q (after_task v (late_verdict (read_task (task_in buffer given)).layout.index run (length buffer - length (task_in buffer given)) new (length (longer_file buffer given new))))
      after (Accepted value) e h =
          asked-has _ _ _ (inr (omega arith))
          (asked-has _ _ _ (inr (omega arith))
          (asked-has _ _ _ (inr (omega arith))
          (asked-has _ _ _ (inr (omega arith))
          (asked-has _ _ _ (inl refl) (accepts value e)))))
      after (Refused question place) e h = h
