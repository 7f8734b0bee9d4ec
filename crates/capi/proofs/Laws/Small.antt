-- Every answer's value is a number of 32 bits: a task's is, a program's own is the offset of a line, a plan and a run have at most 4096 steps, and a task that
-- passes has, with 28 bytes more, fewer than 2 ^ 32.
-- Assumes nothing.
use Prim.Native.Nat.{ℕ, ◌^◌, ◌≤◌, ◌<◌}
use mathlib.Core.List.{List}
use native.Mathlib.Omega.{arith}
use Rattle.records.specs.Numbers.{AreBytes}
use Rattle.task.specs.Program.{program_verdict}
use Rattle.task.specs.Reading.{read_task}
use Rattle.task.specs.Verdict.{value_of, Verdict, Accepted, Refused}
use Rattle.task.specs.declared.index.Case.{Case}
use Rattle.task.proofs.Laws.Bounds.{ranges}
use Rattle.task.proofs.Laws.Passed.{Passed}
use Rattle.task.proofs.Laws.Program.{program-has}
use Rattle.step.specs.Single.{single_step}
use Rattle.step.specs.declared.position.Position.{Position}
use Rattle.step.proofs.Laws.Single.{single-has}
use Rattle.checker.specs.Check.{check}
use Rattle.checker.specs.Write.{write}
use Rattle.checker.proofs.Laws.Answer.{size-most}
use Rattle.checker.proofs.Laws.Verdict.{Covers, check-has, write-has}
use Rattle.steps.specs.Many.{many_steps}
use Rattle.steps.proofs.Laws.Many.{many-has}
use Rattle.late_case.specs.Late.{task_in, add_verdict}
use Rattle.late_case.proofs.Laws.Late.{longer-length, own-capped, add-has}
use Rattle.capi.specs.Packed.{place_of}
use Rattle.capi.proofs.Laws.Place.{place-small, task-small}

abbrev Small : Verdict → Type 0
Small v = value_of v < 2 ^ 32

module _ (bytes : List ℕ) where
  module _ (p : Passed bytes (read_task bytes).layout) where
    most : (read_task bytes).layout.index.bounds.steps ≤ 4096
    most = (ranges (read_task bytes).layout.index.bounds p.bounded).steps.1

    covers : Covers Small (read_task bytes).layout.index.bounds.steps
    covers = record { refusal = λ question place n l. omega (arith, l, most); acceptance = λ value l. omega (arith, l, most) }

    program-small : (program : List ℕ) → Small (program_verdict (read_task bytes).layout.index (read_task bytes).layout.presets program)
    program-small program =
        let t = (read_task bytes).layout in
        program-has Small t.index t.presets program (λ question k n l. omega (arith, l, size-most t.index.bounds p.bounded)) (omega arith)

  pub plan-small : (plan buffer : List ℕ) → value_of (check bytes plan buffer).verdict < 2 ^ 32
  plan-small plan buffer = check-has Small bytes buffer (place-small bytes) covers plan

  pub write-small : (program buffer : List ℕ) → value_of (write bytes program buffer).verdict < 2 ^ 32
  write-small program buffer = write-has Small bytes buffer (place-small bytes) covers program (λ p. program-small p program)

  pub step_small : (program : List ℕ) (s : Position) → value_of (single_step bytes program s).verdict < 2 ^ 32
  step_small program s =
      single-has bytes program s Small (place-small bytes) (λ p. program-small p program) (λ value l. omega arith)
      (λ question place p n l. omega (arith, l, most p))

  -- a number of steps has the steps made beside its place
  pub steps-small : (program : List ℕ) (count : ℕ) (s : Position) → place_of (many_steps bytes program count s).answer.verdict < 2 ^ 32
  steps-small program =
      many-has (λ (v : Verdict). place_of v < 2 ^ 32) bytes program (λ made. omega arith) (λ s. near (single_step bytes program s).verdict (step_small program s))
      (near (read_task bytes).verdict (place-small bytes)) (λ p. near (program_verdict _ _ program) (program-small p program)) (omega arith)
    where
      near : (v : Verdict) → Small v → place_of v < 2 ^ 32
      near (Accepted value) h = omega arith
      near (Refused question place) h = h

pub add_small : (buffer : List ℕ) → AreBytes buffer → (given : ℕ) (new : Case) (run : Position) → value_of (add_verdict buffer given new run) < 2 ^ 32
add_small buffer are given new run =
    add-has Small buffer given new run (λ question n. omega arith) (place-small (task_in buffer given)) λ value e.
    omega (arith, longer-length buffer given new _ (own-capped buffer given) are value e, task-small (task_in buffer given) value e)
