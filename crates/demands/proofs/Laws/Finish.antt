-- The writer's answer. If task and program pass, the result is that of the run; if the run is accepted and the buffer is long enough, the answer is the plan of
-- the steps, whose records are 9 bytes each, and what was in the buffer behind it; and an answer that accepts comes from such a run.
-- Assumes nothing.
use Prim.Native.Nat.{ℕ, ◌≤◌}
use mathlib.Core.Path.{◌≡◌, refl, sym, ap, ◌∙◌}
use mathlib.Core.Bool.{Bool, true, false, cond}
use mathlib.Core.List.{List, [], ◌∷◌, ◌++◌}
use native.Mathlib.Omega.{arith}
use lib.Dec.{leb}
use lib.ListN.{length, take, drop, length-append}
use lib.Seq.{take-length, take-append_seam}
use borrow.Author.Tests.{le-leb}
use Rattle.task.specs.Program.{program_verdict}
use Rattle.task.specs.Reading.{read_task}
use Rattle.task.specs.Verdict.{Verdict, Accepted, Refused}
use Rattle.task.proofs.Laws.Verdict.{refused-accepted}
use Rattle.checker.specs.Answer.{Answer, Outcome, refused, accepted, passing, filled, answer}
use Rattle.checker.specs.Plan.{PlanStep, record_of, plan_of, plan_size}
use Rattle.checker.specs.Questions.{PLAN-BUFFER}
use Rattle.checker.specs.Write.{run, program_result, on_finish, write}
use Rattle.checker.proofs.Laws.Write.{record-length, closing-length}

-- a plan has 9 bytes for each step, and 4
pub plan-length : (steps : List PlanStep) → length (plan_of steps) ≡ plan_size (length steps)
unfolding plan_of plan_size
plan-length [] = closing-length
plan-length (a ∷ rest) = omega (arith, length-append (record_of a) (plan_of rest), record-length a, plan-length rest)

-- an accepted run is answered by its plan, in a buffer that has room for it
module _ (bytes program : List ℕ) (k : ℕ) (steps : List PlanStep) (count : length steps ≡ k) (e : program_result bytes program ≡ accepted k (plan_of steps))
    (buffer : List ℕ) (room : plan_size k ≤ length buffer) where
  size : plan_size k ≡ length (plan_of steps)
  size = rw (← count) (sym (plan-length steps))

  pub steps-answer : write bytes program buffer ≡ record { verdict = Accepted k; buffer = plan_of steps ++ drop (plan_size k) buffer }
  unfolding write on_finish answer filled
  steps-answer =
      rw (e, le-leb (plan_size k) (length buffer) room)
      (ap (λ (l : List ℕ). record { verdict = Accepted k; buffer = l ++ drop (plan_size k) buffer })
      (ap (λ (n : ℕ). take n (plan_of steps)) size ∙ take-length (plan_of steps)))

  -- the bytes that the writer filled
  pub filled-bytes : take (plan_size k) (write bytes program buffer).buffer ≡ plan_of steps
  filled-bytes =
      ap (λ (a : Answer). take (plan_size k) a.buffer) steps-answer
      ∙ ap (λ (n : ℕ). take n (plan_of steps ++ drop (plan_size k) buffer)) size
      ∙ take-append_seam (plan_of steps) (drop (plan_size k) buffer)

-- a program's run is what it comes to, if task and program pass
pub run-result : (bytes program : List ℕ) (v : ℕ) → (read_task bytes).verdict ≡ Accepted v
    → program_verdict (read_task bytes).layout.index (read_task bytes).layout.presets program ≡ Accepted 0
    → program_result bytes program ≡ run bytes (read_task bytes).layout program
unfolding program_result passing
run-result bytes program v e f = rw (e, f) refl

-- a result that is accepted has come through the verdict before it
passing-accepted : (verdict : Verdict) (rest : Outcome) (k : ℕ) (plan : List ℕ) → passing verdict rest ≡ accepted k plan
    → ((v : ℕ) × (verdict ≡ Accepted v)) × (rest ≡ accepted k plan)
unfolding passing
passing-accepted (Accepted v) rest k plan e = ((v, refl), e)
passing-accepted (Refused question place) rest k plan e = cc

-- an answer that accepts comes from a task and a program that pass, and a run that is accepted
pub record Accepting (bytes program : List ℕ) (k : ℕ) : Type 0 where
  pub task : ℕ
  pub task-passes : (read_task bytes).verdict ≡ Accepted task
  pub value : ℕ
  pub passes : program_verdict (read_task bytes).layout.index (read_task bytes).layout.presets program ≡ Accepted value
  pub plan : List ℕ
  pub runs : run bytes (read_task bytes).layout program ≡ accepted k plan

module _ (bytes program buffer : List ℕ) (k : ℕ) where
  -- question 29 does not change the number of steps
  steps-same : (n : ℕ) (plan : List ℕ) (fits : Bool)
      → (answer (plan_size n) buffer (cond fits (accepted n plan) (refused PLAN-BUFFER (plan_size n)))).verdict ≡ Accepted k → n ≡ k
  unfolding answer
  steps-same n plan true h = cc
  steps-same n plan false h = absurd (refused-accepted h)

  on-result : (result : Outcome) → program_result bytes program ≡ result → (on_finish buffer result).verdict ≡ Accepted k → Accepting bytes program k
  unfolding program_result on_finish
  on-result (refused question place) e h = absurd (refused-accepted h)
  on-result (accepted n plan) e h =
      let task = passing-accepted (read_task bytes).verdict _ n plan e in
      let own = passing-accepted (program_verdict (read_task bytes).layout.index (read_task bytes).layout.presets program) _ n plan task.1 in
      record {
        task = task.0.0;
        task-passes = task.0.1;
        value = own.0.0;
        passes = own.0.1;
        plan = plan;
        runs = own.1 ∙ ap (λ (j : ℕ). accepted j plan) (steps-same n plan (leb (plan_size n) (length buffer)) h);
      }

  pub accepts-accepting : (write bytes program buffer).verdict ≡ Accepted k → Accepting bytes program k
  unfolding write
  accepts-accepting h = on-result (program_result bytes program) refl h
