-- The checker's answer, by the task's verdict, question 10 and what the plan comes to; and the writer's, by the task's verdict, the program's and
-- what the run comes to.
-- Assumes nothing.
use Prim.Native.Nat.{ℕ, ◌+◌, ◌*◌, ◌≤◌, ◌<◌}
use mathlib.Core.Path.{◌≡◌, refl, sym, ap}
use mathlib.Core.Bool.{true, cond}
use mathlib.Core.List.{List}
use native.Mathlib.Nat.{mul-le-mul}
use native.Mathlib.Omega.{arith}
use lib.ListN.{length, take}
use lib.Dec.{leb}
use borrow.Author.Tests.{le-leb, lt-leb}
use Rattle.task.specs.Bounds.{in_range, line_count, program_size}
use Rattle.task.specs.Program.{program_verdict}
use Rattle.task.specs.Reading.{Reading, read_task, refused as refused_task, accepted as accepted_task, reading}
use Rattle.task.specs.declared.bounds.Bounds.{Bounds}
use Rattle.task.specs.declared.index.Layout.{Layout}
use Rattle.task.specs.Verdict.{Refused, verdict, unit_verdict}
use Rattle.task.specs.declared.refusal.Refusal.{Refusal}
use Rattle.std.specs.Prelude.{Result, Ok, Err}
use Rattle.std.proofs.lemmas.List.{length-take-le, take_all}
use Rattle.task.proofs.Laws.Bounds.{ranges}
use Rattle.checker.specs.Answer.{Answer, refused, passing, filled, answer}
use Rattle.checker.specs.Check.{follow, check}
use Rattle.checker.specs.Outcome.{followed_by}
use Rattle.checker.specs.Questions.{BUFFER}
use Rattle.checker.specs.Trace.{with_bytes}
use Rattle.checker.specs.Write.{run, program_result, on_finish, write}
use Rattle.checker.proofs.Laws.Turns.{read-passed}

-- a program has at most 768 bytes
pub size-most : (b : Bounds) → in_range b ≡ true → program_size b ≤ 768
unfolding line_count
size-most b h =
    let r = ranges b h in
    omega (arith, mul-le-mul {n₁ = b.procedures} {m₁ = b.last + 1} {n₂ = 8} {m₂ = 32} (omega arith) (omega arith))

-- the first bytes of a program, put at a buffer's start, fill it
pub put-fills : (size : ℕ) (program buffer : List ℕ) → size ≤ length program
    → with_bytes buffer 0 (length (take size program)) (take size program) ≡ filled size program buffer
unfolding filled with_bytes
put-fills size program buffer h =
    let same : 0 + size ≡ size = omega arith in
    rw (length-take-le size program h, same, take_all size (take size program) (omega (arith, length-take-le size program h))) refl

-- a task that is turned down
pub task-refused : (bytes plan buffer : List ℕ) (r : Refusal) → reading (Err r) ≡ read_task bytes
    → ◌≡◌ {A = Answer} (record { verdict = verdict (Err r); buffer = buffer }) (check bytes plan buffer)
unfolding check passing answer reading refused_task
task-refused bytes plan buffer r e = rw (← e) refl

-- a plan, and a task that passes; `lines` is how many lines a program has
module _ (bytes : List ℕ) (t : Layout) (a : reading (Ok t) ≡ read_task bytes) (lines : ℕ) (es : lines ≡ line_count t.index.bounds) where
  size : program_size t.index.bounds ≡ 3 * lines
  size = ap (λ (n : ℕ). 3 * n) (sym es)

  -- they are among the 768 bytes
  pub lines-there : (n : ℕ) → n ≡ 768 → 3 * lines ≤ n
  lines-there n h = omega (arith, h, es, size-most _ (read-passed bytes t a).bounded)

  module _ (plan buffer : List ℕ) where
    on-passed : answer (3 * lines) buffer (cond (leb (3 * lines) (length buffer)) (follow bytes t plan) (refused BUFFER 0)) ≡ check bytes plan buffer
    unfolding check passing reading accepted_task
    on-passed = rw (← a, size) refl

    pub buffer-short : length buffer < 3 * lines → ◌≡◌ {A = Answer} (record { verdict = Refused BUFFER 0; buffer = buffer }) (check bytes plan buffer)
    unfolding answer
    buffer-short l = rw (lt-leb (3 * lines) (length buffer) l) at on-passed

    -- `f` and `program` are what the plan came to
    module _ (room : 3 * lines ≤ length buffer) (program : List ℕ) where
      answered : (f : Result ℕ Refusal) → followed_by f program ≡ follow bytes t plan → answer (3 * lines) buffer (followed_by f program) ≡ check bytes plan buffer
      answered f e = rw e (rw (le-leb (3 * lines) (length buffer) room) at on-passed)

      pub plan-refused : (r : Refusal) → followed_by (Err r) program ≡ follow bytes t plan
          → ◌≡◌ {A = Answer} (record { verdict = verdict (Err r); buffer = buffer }) (check bytes plan buffer)
      unfolding answer followed_by
      plan-refused r e = answered (Err r) e

      pub plan-accepted : (steps : ℕ) → followed_by (Ok steps) program ≡ follow bytes t plan → (after : List ℕ) → after ≡ filled (3 * lines) program buffer
          → ◌≡◌ {A = Answer} (record { verdict = verdict (Ok steps); buffer = after }) (check bytes plan buffer)
      unfolding answer followed_by
      plan-accepted steps e after g = rw g (answered (Ok steps) e)

-- a program, and a task that is turned down
module _ (bytes program buffer : List ℕ) (r : Reading) (e : r ≡ read_task bytes) where
  on-task : on_finish buffer (passing r.verdict (passing (program_verdict r.layout.index r.layout.presets program) (run bytes r.layout program)))
      ≡ write bytes program buffer
  unfolding write program_result
  on-task = rw e refl

  pub task-turned-down : (question place : ℕ) → r.verdict ≡ Refused question place
      → ◌≡◌ {A = Answer} (record { verdict = r.verdict; buffer = buffer }) (write bytes program buffer)
  unfolding passing on_finish answer
  task-turned-down question place h = rw h (rw h at on-task)

-- the same of the code's answer
pub task-no : (bytes program buffer : List ℕ) (r : Refusal) → reading (Err r) ≡ read_task bytes
    → ◌≡◌ {A = Answer} (record { verdict = verdict (Err r); buffer = buffer }) (write bytes program buffer)
unfolding reading refused_task
task-no bytes program buffer r e = task-turned-down bytes program buffer (reading (Err r)) e _ _ refl

-- a task that passes
module _ (bytes program buffer : List ℕ) (t : Layout) (e : reading (Ok t) ≡ read_task bytes) where
  on-program : (v : Result Unit Refusal) → unit_verdict v ≡ program_verdict t.index t.presets program
      → on_finish buffer (passing (unit_verdict v) (run bytes t program)) ≡ write bytes program buffer
  unfolding write program_result passing reading accepted_task
  on-program v k = rw (k, ← e) refl

  pub program-refused : (r : Refusal) → unit_verdict (Err r) ≡ program_verdict t.index t.presets program
      → ◌≡◌ {A = Answer} (record { verdict = verdict (Err r); buffer = buffer }) (write bytes program buffer)
  unfolding passing on_finish
  program-refused r k = on-program (Err r) k

  -- the program passes: the answer is the run's
  pub run-answers : unit_verdict (Ok tt) ≡ program_verdict t.index t.presets program → on_finish buffer (run bytes t program) ≡ write bytes program buffer
  unfolding passing
  run-answers k = on-program (Ok tt) k
