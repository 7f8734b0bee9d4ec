-- What the verdict of the checker and of the writer can be: the task's; a program's own; or what a plan or a run comes to, which is within the step bound.
-- Question 10 has place 0, and 29 the bytes of at most S steps, so they are too.
-- Assumes nothing.
use Prim.Native.Nat.{ℕ, ◌+◌, ◌*◌, ◌≤◌}
use mathlib.Core.Path.{◌≡◌, refl}
use mathlib.Core.Bool.{cond}
use mathlib.Core.List.{List}
use native.Mathlib.Omega.{arith}
use lib.Dec.{leb}
use lib.ListN.{length}
use Rattle.records.proofs.Laws.Tests.{cond_either}
use Rattle.task.specs.Bounds.{program_size}
use Rattle.task.specs.Program.{program_verdict}
use Rattle.task.specs.Reading.{read_task}
use Rattle.task.specs.declared.index.Layout.{Layout}
use Rattle.task.specs.Verdict.{Verdict, Accepted, Refused}
use Rattle.task.proofs.Laws.Passed.{Passed, passed}
use Rattle.step.proofs.Laws.Perform.{RefusalNumber}
use Rattle.checker.specs.Answer.{Outcome, refused, accepted, passing, answer}
use Rattle.checker.specs.Check.{follow, check}
use Rattle.checker.specs.Plan.{plan_size}
use Rattle.checker.specs.Questions.{BUFFER, PLAN-BUFFER}
use Rattle.checker.specs.Write.{run, on_finish, program_result, write}
use Rattle.checker.proofs.Laws.Turns.{Within, follow-within}
use Rattle.checker.proofs.Laws.Write.{run-within}

module _ (Q : Verdict → Type 0) where
  -- a property of every verdict within a step bound
  pub record Covers (steps : ℕ) : Type 0 where
    pub refusal : (question place : ℕ) → RefusalNumber question → place ≤ 9 * steps + 4 → Q (Refused question place)
    pub acceptance : (value : ℕ) → value ≤ steps → Q (Accepted value)

  module _ (bytes buffer : List ℕ) where
    abbrev t : Layout
    t = (read_task bytes).layout

    abbrev most : ℕ
    most = t.index.bounds.steps

    answer-has : (size : ℕ) (r : Outcome) → Covers most → Within t.index r → Q (answer size buffer r).verdict
    unfolding answer
    answer-has size (refused question place) c h = c.refusal question place h.0 h.1
    answer-has size (accepted steps bytes) c h = c.acceptance steps h

    finish-has : (r : Outcome) → Covers most → Within t.index r → Q (on_finish buffer r).verdict
    unfolding on_finish plan_size
    finish-has (refused question place) c h = c.refusal question place h.0 h.1
    finish-has (accepted steps plan) c h =
        answer-has (plan_size steps) _ c
        (cond_either (Within t.index) (leb (plan_size steps) (length buffer)) (accepted steps plan) (refused PLAN-BUFFER (plan_size steps)) (λ e. h)
        (λ e. omega (arith, h)))

    -- what follows the task's verdict: question 10, and the plan
    abbrev on_plan : List ℕ → Outcome
    on_plan plan = cond (leb (program_size t.index.bounds) (length buffer)) (follow bytes t plan) (refused BUFFER 0)

    -- a property of the task's verdict, of the program's and of every one within the bound is one of the verdict
    module _ (task : Q (read_task bytes).verdict) (covers : Passed bytes (read_task bytes).layout → Covers most) where
      pub check-has : (plan : List ℕ) → Q (check bytes plan buffer).verdict
      unfolding check passing answer
      check-has plan = by (read_task bytes).verdict refl task
        where
          by : (v : Verdict) → (read_task bytes).verdict ≡ v → Q v → Q (answer (program_size t.index.bounds) buffer (passing v (on_plan plan))).verdict
          by (Refused question place) e h = h
          by (Accepted value) e h =
              answer-has (program_size t.index.bounds) (on_plan plan) (covers (passed bytes value e))
              (cond_either (Within t.index) (leb (program_size t.index.bounds) (length buffer)) (follow bytes t plan) (refused BUFFER 0)
              (λ f. follow-within bytes t plan) (λ f. omega arith))

      pub write-has : (program : List ℕ)
          → (Passed bytes (read_task bytes).layout → Q (program_verdict (read_task bytes).layout.index (read_task bytes).layout.presets program))
          → Q (write bytes program buffer).verdict
      unfolding write program_result passing on_finish answer
      write-has program own = by (read_task bytes).verdict refl task
        where
          by-program : Passed bytes t → (v : Verdict) → Q v → Q (on_finish buffer (passing v (run bytes t program))).verdict
          by-program p (Refused question place) h = h
          by-program p (Accepted value) h = finish-has (run bytes t program) (covers p) (run-within bytes t.index t.offsets program t.presets)

          by : (v : Verdict) → (read_task bytes).verdict ≡ v → Q v
              → Q (on_finish buffer (passing v (passing (program_verdict t.index t.presets program) (run bytes t program)))).verdict
          by (Refused question place) e h = h
          by (Accepted value) e h = by-program (passed bytes value e) (program_verdict t.index t.presets program) (own (passed bytes value e))
