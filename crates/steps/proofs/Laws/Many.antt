-- A call for a number of steps, by what is asked first: the task's verdict, the program's, question 31. And what the call's verdict can be.
-- Assumes nothing.
use Prim.Native.Nat.{ℕ, zero, suc, ◌+◌, ◌≤◌, min}
use mathlib.Core.Path.{◌≡◌, refl, ap, ◌∙◌}
use mathlib.Core.Bool.{Bool, true, false}
use mathlib.Core.List.{List}
use native.Mathlib.Omega.{arith}
use Rattle.std.proofs.lemmas.Grind.{common_steps}
use lib.Dec.{eqb}
use Rattle.records.proofs.Laws.Tests.{cond_either}
use Rattle.task.specs.Program.{program_verdict}
use Rattle.task.specs.Reading.{read_task, Reading}
use Rattle.task.specs.Verdict.{Verdict, Accepted, Refused}
use Rattle.task.proofs.Laws.Passed.{Passed, passed}
use Rattle.step.specs.Possible.{possible}
use Rattle.step.specs.Questions.{POSSIBLE}
use Rattle.step.specs.Single.{single_step}
use Rattle.step.specs.declared.position.Position.{Position}
use Rattle.steps.specs.Many.{StepsTaken, capped, taken_to, onward, steps_from, many_on_reading, many_steps}

-- the number of steps that is asked for
pub least-asked : (count : ℕ) → min count 4096 ≡ capped count
unfolding capped
least-asked count = grind (arith, common_steps)

pub few-asked : (count : ℕ) → count ≤ 4096 → count ≡ capped count
few-asked count l = let all : count ≡ min count 4096 = omega (arith, l) in all ∙ least-asked count

-- a call, given the task's reading
module _ (bytes program : List ℕ) (count : ℕ) (s : Position) (r : Reading) (e : r ≡ read_task bytes) where
  on-reading : many_on_reading bytes program count s r ≡ many_steps bytes program count s
  unfolding many_steps
  on-reading = ap (many_on_reading bytes program count s) e

  pub many-task-refused : (question place : ℕ) → r.verdict ≡ Refused question place → taken_to r.verdict 0 s ≡ many_steps bytes program count s
  unfolding many_on_reading onward
  many-task-refused question place h = rw h (rw h at on-reading)

  pub many-program-refused : (value : ℕ) → r.verdict ≡ Accepted value → (v : Verdict) → v ≡ program_verdict r.layout.index r.layout.presets program
      → (question place : ℕ) → v ≡ Refused question place → taken_to v 0 s ≡ many_steps bytes program count s
  unfolding many_on_reading onward
  many-program-refused value h v g question place k = rw k (rw (h, ← g, k) at on-reading)

-- the task and the program pass: what was read, and the two verdicts
pub record BothPass (bytes program : List ℕ) (r : Reading) (v : Verdict) : Type 0 where
  pub read : r ≡ read_task bytes
  pub value : ℕ
  pub task : r.verdict ≡ Accepted value
  pub asked : v ≡ program_verdict r.layout.index r.layout.presets program
  pub own : ℕ
  pub passes : v ≡ Accepted own

-- and then 31: `p` says whether the position is possible
module _ (bytes program : List ℕ) (r : Reading) (v : Verdict) (b : BothPass bytes program r v) (s : Position) (p : Bool) (f : p ≡ possible r.layout.index s) where
  pub many-impossible : p ≡ false → (count : ℕ) → taken_to (Refused POSSIBLE 0) 0 s ≡ many_steps bytes program count s
  unfolding many_on_reading onward
  many-impossible z count = rw (b.task, ← b.asked, b.passes, ← f, z) at (on-reading bytes program count s r b.read)

  pub many-runs : p ≡ true → (count wanted : ℕ) → wanted ≡ capped count → steps_from bytes program wanted 0 s ≡ many_steps bytes program count s
  unfolding many_on_reading onward
  many-runs y count wanted c = rw c (rw (b.task, ← b.asked, b.passes, ← f, y) at (on-reading bytes program count s r b.read))

-- a property of the task's verdict, of the program's, of 31 at 0, of every single step's and of an acceptance is one of the verdict
module _ (Q : Verdict → Type 0) (bytes program : List ℕ) where
  abbrev Taken : StepsTaken → Type 0
  Taken r = Q r.answer.verdict

  onward-has : (made : ℕ) (s : Position) (v : Verdict) (rest : ℕ → StepsTaken) → Q v → ((value : ℕ) → v ≡ Accepted value → Taken (rest value))
      → Taken (onward made s v rest)
  unfolding onward taken_to
  onward-has made s (Accepted value) rest h k = k value refl
  onward-has made s (Refused question place) rest h k = h

  module _ (accepts : (made : ℕ) → Q (Accepted made)) (single : (s : Position) → Q (single_step bytes program s).verdict) where
    from-has : (n made : ℕ) (s : Position) → Taken (steps_from bytes program n made s)
    unfolding steps_from taken_to
    from-has zero made s = accepts made
    from-has (suc n) made s =
        onward-has made s _ _ (single s) λ value e.
        cond_either Taken (eqb value 0) _ _ (λ z. accepts made) (λ z. from-has n (made + 1) _)

    pub many-has : Q (read_task bytes).verdict
        → (Passed bytes (read_task bytes).layout → Q (program_verdict (read_task bytes).layout.index (read_task bytes).layout.presets program))
        → Q (Refused POSSIBLE 0) → (count : ℕ) (s : Position) → Q (many_steps bytes program count s).answer.verdict
    unfolding many_steps many_on_reading taken_to
    many-has task own impossible count s =
        let t = (read_task bytes).layout in
        onward-has 0 s (read_task bytes).verdict _ task λ value e.
        onward-has 0 s (program_verdict t.index t.presets program) _ (own (passed bytes value e)) λ _ _.
        cond_either Taken (possible t.index s) _ _ (λ y. from-has _ 0 s) (λ n. impossible)
