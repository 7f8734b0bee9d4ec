-- Demand 2: the checker accepts a plan exactly when the plan has the file form and its steps solve the compiled task, and the program that it
-- gives is the one that the final state holds.
use Rattle.std.specs.Prelude.{ℕ, zero, suc, ◌+◌, ◌≤◌, ◌/◌, ◌%◌, ◌≡◌, List, [], ◌∷◌, ◌++◌, ◌↔◌, length, drop}
use Rattle.task.specs.Bounds.{line_count, program_size}
use Rattle.task.specs.Instruction.{encode}
use Rattle.task.specs.Reading.{read_task}
use Rattle.task.specs.declared.bounds.Bounds.{Bounds}
use Rattle.task.specs.declared.index.Layout.{Layout}
use Rattle.task.specs.declared.instruction.Instruction.{Instruction}
use Rattle.task.specs.Verdict.{Accepted, Refused}
use Rattle.step.specs.declared.position.Frame.{Frame}
use Rattle.checker.specs.Check.{check}
use Rattle.checker.specs.Plan.{PlanStep, plan_of}
use Rattle.demands.specs.Compiled.{State, Solves}

-- the line with number k, counted through all procedures: line k % (n + 1) of procedure k / (n + 1)
unfoldable pub line_of : Bounds → ℕ → Frame
line_of b k = record { procedure = record { 0 = k / (b.last + 1) }; line = record { 0 = k % (b.last + 1) } }

-- the bytes of so many lines, from line number k on
unfoldable pub bytes_from : Bounds → (Frame → Instruction) → ℕ → ℕ → List ℕ
bytes_from b lines k zero = []
bytes_from b lines k (suc left) =
    let w = encode (lines (line_of b k)) in
    w.op ∷ w.p ∷ w.q ∷ bytes_from b lines (suc k) left

-- the program that a state holds, as bytes
unfoldable pub program_of : Bounds → (Frame → Instruction) → List ℕ
program_of b lines = bytes_from b lines 0 (line_count b)

-- a plan that is to be accepted: the task passes, the buffer is long enough, and the plan's bytes are k steps, at most S, that solve the compiled
-- task; the buffer then begins with the final state's program, and its other bytes keep their value
pub record Solution (bytes plan buffer : List ℕ) (t : Layout) (k : ℕ) (filled : List ℕ) : Type 0 where
  pub value : ℕ
  pub passes : (read_task bytes).verdict ≡ Accepted value
  pub room : program_size t.index.bounds ≤ length buffer
  pub steps : List PlanStep
  pub final : State
  pub form : plan ≡ plan_of steps
  pub count : length steps ≡ k
  pub bound : k ≤ t.index.bounds.steps
  pub solves : Solves bytes t steps final
  pub program : filled ≡ program_of t.index.bounds final.lines ++ drop (program_size t.index.bounds) buffer

-- for all bytes as task and plan and every buffer: the checker accepts exactly such plans
abbrev pub Demand2 : Type 0
Demand2 =
    (bytes plan buffer : List ℕ) (k : ℕ) (filled : List ℕ)
    → (check bytes plan buffer ≡ record { verdict = Accepted k; buffer = filled }) ↔ Solution bytes plan buffer (read_task bytes).layout k filled

-- and a refusal leaves the buffer as it was
abbrev pub CheckerRefusalKeeps : Type 0
CheckerRefusalKeeps =
    (bytes plan buffer after : List ℕ) (question place : ℕ)
    → check bytes plan buffer ≡ record { verdict = Refused question place; buffer = after } → after ≡ buffer

-- the file form is one to one: a plan's steps are determined by its bytes
abbrev pub OneToOne : Type 0
OneToOne = (σ τ : List PlanStep) → plan_of σ ≡ plan_of τ → σ ≡ τ
