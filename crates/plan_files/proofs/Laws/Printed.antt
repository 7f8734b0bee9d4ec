-- What is printed of any two files has at most 4,096 bytes. A verdict's numbers are short, because question 30 bounds the task's file and the task its
-- steps; and only the program of a task that passes is listed, so its bounds are in range.
-- Assumes nothing.
use Prim.Native.Nat.{ℕ, ◌≤◌, ◌<◌, min}
use mathlib.Core.Path.{◌≡◌}
use mathlib.Core.Bool.{true, ◌&&◌}
use mathlib.Core.List.{List}
use native.Mathlib.Omega.{arith}
use lib.ListN.{length, replicate}
use lib.Dec.{leb}
use borrow.Author.Tests.{leb-true}
use Rattle.records.proofs.Laws.Tests.{both_true, cond_either}
use Rattle.task.proofs.Laws.Bounds.{ranges}
use Rattle.task.proofs.Laws.Numbers.{task-said}
use Rattle.task.proofs.Laws.Passed.{Passed, passed}
use Rattle.task.specs.Bounds.{in_range}
use Rattle.task.specs.Reading.{read_task}
use Rattle.task.specs.Verdict.{number_of, value_of, Verdict, Accepted, Refused}
use Rattle.task.specs.declared.index.Index.{Index}
use Rattle.checker.specs.Answer.{Answer}
use Rattle.checker.specs.Check.{check}
use Rattle.checker.proofs.Laws.Verdict.{Covers, check-has}
use Rattle.listing.proofs.Laws.Length.{report-most}
use Rattle.listing.specs.Listing.{report_text}
use Rattle.plan_files.specs.Files.{LONGEST, check_files, printed, PrintedFits}

-- a verdict of short numbers, which accepts for an index only if its bounds are in range and its actions as many as question 4 admits
record Fine (i : Index) (v : Verdict) : Type 0 where
  number : number_of v < 100
  value : value_of v < 100000
  sound : (steps : ℕ) → v ≡ Accepted steps → (in_range i.bounds ≡ true) × (i.actions ≤ 64)

refused-fine : (i : Index) (question place : ℕ) → question < 100 → place ≤ LONGEST → Fine i (Refused question place)
refused-fine i question place q p =
    record { number = q; value = omega arith; sound = λ steps e. let z : ◌≡◌ {A = ℕ} 0 1 = cc in absurd (omega arith) }

module _ (task plan : List ℕ) (t : length task ≤ LONGEST) (buffer : List ℕ) where
  abbrev i : Index
  i = (read_task task).layout.index

  task-fine : Fine i (read_task task).verdict
  task-fine =
      record {
        number = omega (arith, (task-said task).0);
        value = omega (arith, (task-said task).1, t);
        sound = λ value e. let r = passed task value e in (r.bounded, r.actions);
      }

  covers : Passed task (read_task task).layout → Covers (Fine i) i.bounds.steps
  covers r =
      let most = (ranges i.bounds r.bounded).steps.1 in
      record {
        refusal = λ question place n l. refused-fine i question place n.1 (omega (arith, l, most));
        acceptance = λ steps l. record { number = omega arith; value = omega (arith, l, most); sound = λ _ _. (r.bounded, r.actions) };
      }

  check-fine : Fine i (check task plan buffer).verdict
  check-fine = check-has (Fine i) task buffer task-fine covers plan

printed-most : (task plan : List ℕ) → length (printed task plan) ≤ 3695
unfolding printed check_files
printed-most task plan =
    let i = (read_task task).layout.index in
    let short : (a : Answer) → Fine i a.verdict → length (report_text a.verdict i a.buffer) ≤ 3695
    = λ a f. report-most a.verdict i a.buffer f.number f.value f.sound in
    cond_either (λ (a : Answer). length (report_text a.verdict i a.buffer) ≤ 3695) (leb (length task) LONGEST && leb (length plan) LONGEST) _ _
    (λ e.
    let h = both_true (leb (length task) LONGEST) (leb (length plan) LONGEST) e in
    short _ (check-fine task plan (leb-true _ _ h.0) (replicate 768 0)))
    (λ e. short _ (refused-fine i _ _ (omega arith) (omega arith)))

pub printed-fits : PrintedFits
printed-fits task plan = omega (arith, printed-most task plan)

-- as many bytes as fit 4,096 or more are all
pub all_printed : (task plan : List ℕ) (size room : ℕ) → size ≡ min (length (printed task plan)) room → 4096 ≤ room → size ≡ length (printed task plan)
all_printed task plan size room e h = omega (arith, printed-fits task plan)
