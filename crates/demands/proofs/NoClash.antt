-- No answer is 20: a task's number is at most 9, a program's own is from 25 on, a late case's own is 6 or from 31 on, and any other is one that a run
-- can refuse with.
-- Assumes nothing.
use Prim.Native.Nat.{ℕ, ◌≤◌}
use mathlib.Core.Path.{◌≡◌}
use mathlib.Core.List.{List}
use mathlib.Core.Logic.{◌⊎◌, inl, inr}
use native.Mathlib.Omega.{arith}
use Rattle.task.specs.Program.{program_verdict}
use Rattle.task.specs.Questions.{SETS}
use Rattle.task.specs.Reading.{read_task}
use Rattle.task.specs.declared.index.Index.{Index}
use Rattle.task.proofs.Laws.Numbers.{task-said}
use Rattle.task.proofs.Laws.Passed.{Passed}
use Rattle.task.proofs.Laws.Program.{program-has}
use Rattle.step.specs.Questions.{CLASH, POSSIBLE}
use Rattle.step.specs.Single.{single_step}
use Rattle.step.specs.declared.position.Position.{Position}
use Rattle.step.proofs.Laws.Effects.{fact-after}
use Rattle.step.proofs.Laws.Single.{single-has}
use Rattle.checker.proofs.Laws.Verdict.{Covers, check-has, write-has}
use Rattle.steps.proofs.Laws.Many.{many-has}
use Rattle.late_case.specs.Late.{task_in}
use Rattle.late_case.proofs.Laws.Late.{add-has}
use Rattle.demands.specs.NoClash.{RaisedBeatsLowered, Not20, NoClash}

pub raised-beats-lowered : RaisedBeatsLowered
raised-beats-lowered = fact-after

task-not : (bytes : List ℕ) → Not20 (read_task bytes).verdict
task-not bytes e = omega (arith, (task-said bytes).0, e)

program-not : (i : Index) (presets program : List ℕ) → Not20 (program_verdict i presets program)
program-not i presets program = program-has Not20 i presets program (λ question k n l. omega (arith, n)) (omega arith)

module _ (bytes : List ℕ) where
  covers : Passed bytes (read_task bytes).layout → Covers Not20 (read_task bytes).layout.index.bounds.steps
  covers p = record { refusal = λ question place n l. n.2; acceptance = λ value l. omega arith }

  single-not : (program : List ℕ) (run : Position) → Not20 (single_step bytes program run).verdict
  single-not program run =
      single-has bytes program run Not20 (task-not bytes) (λ p. program-not _ _ program) (λ value l. omega arith) (λ question place p n l. n.2)

  pub no-clash : NoClash bytes
  no-clash =
      record {
        task = task-not bytes;
        program = program-not;
        checker = λ plan buffer. check-has Not20 bytes buffer (task-not bytes) covers plan;
        writer = λ program buffer. write-has Not20 bytes buffer (task-not bytes) covers program (λ p. program-not _ _ program);
        single-step = single-not;
        many-steps = λ program. many-has Not20 bytes program (λ made. omega arith) (single-not program) (task-not bytes) (λ p. program-not _ _ program) (omega arith);
        late-case = λ given c run. add-has Not20 bytes given c run own-not (task-not (task_in bytes given)) (λ value e. omega arith);
      }
    where
      own-not : (question : ℕ) → (question ≡ SETS) ⊎ (POSSIBLE ≤ question) → question ≡ CLASH → ⊥
      own-not question (inl h) e = omega (arith, h, e)
      own-not question (inr h) e = omega (arith, h, e)
