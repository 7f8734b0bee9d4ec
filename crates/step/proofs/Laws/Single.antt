-- The single step, answer by answer; that a finished run stays as it is, that a refusal changes nothing, and that 0 and 1 say that one step
-- was made, to a possible position; and what its verdict can be.
-- Assumes nothing.
use Prim.Native.Nat.{ℕ, ◌+◌, ◌≤◌, ◌<◌}
use mathlib.Core.Path.{◌≡◌, refl, sym, ap, subst, ◌∙◌}
use mathlib.Core.Bool.{Bool, true, false}
use mathlib.Core.List.{List}
use native.Mathlib.Omega.{arith}
use lib.ListN.{length}
use lib.Dec.{eqb}
use borrow.Author.Tests.{eq-eqb, ne_eqb, eqb-false}
use Rattle.std.specs.Prelude.{Result, Ok, Err}
use Rattle.records.specs.Loop.{Turn, stop, go}
use Rattle.records.proofs.Laws.Tests.{cond_either, cond_yes, cond_no}
use Rattle.task.specs.Program.{program_verdict}
use Rattle.task.specs.Reading.{read_task, Reading}
use Rattle.task.specs.Verdict.{value_of, Verdict, Accepted, Refused, number}
use Rattle.task.specs.declared.index.Index.{Index}
use Rattle.task.specs.declared.index.Layout.{Layout}
use Rattle.task.specs.declared.questions.Question.{Question}
use Rattle.task.specs.declared.refusal.Refusal.{Refusal}
use Rattle.task.proofs.Laws.Passed.{Passed, passed}
use Rattle.task.proofs.Laws.Verdict.{refused-accepted}
use Rattle.step.specs.Moved.{line_as}
use Rattle.step.specs.Perform.{Stepped, run_line, run_step, unchanged, answered}
use Rattle.step.specs.Possible.{possible}
use Rattle.step.specs.Questions.{STEPS, POSSIBLE}
use Rattle.step.specs.Single.{following, step_once, on_reading, single_step}
use Rattle.step.specs.declared.position.Position.{Position}
use Rattle.step.proofs.Laws.Answers.{steps-used, steps-left}
use Rattle.step.proofs.Laws.Kept.{run-possible}
use Rattle.step.proofs.Laws.Perform.{RefusalNumber, step-ran, ran-steps, step-number}
use Rattle.step.proofs.Laws.Possible.{parts}

-- task and program passed: `h` says whether the position is possible
module _ (bytes : List ℕ) (i : Index) (offsets program : List ℕ) (s : Position) (h : Bool) (e : h ≡ possible i s) where
  pub step-impossible : h ≡ false → unchanged s (Refused POSSIBLE 0) ≡ step_once bytes i offsets program s
  unfolding step_once
  step-impossible z = cond_no _ _ _ _ e z

  pub step-finished : h ≡ true → s.depth ≡ 0 → unchanged s (Accepted 0) ≡ step_once bytes i offsets program s
  unfolding step_once
  step-finished y d = cond_yes _ true _ _ (sym (eq-eqb s.depth 0 d)) refl ∙ cond_yes _ _ _ _ e y

  pub step-runs : h ≡ true → (s.depth ≡ 0 → ⊥) → answered s (run_step bytes i offsets program s) ≡ step_once bytes i offsets program s
  unfolding step_once
  step-runs y d = cond_no _ false _ _ (sym (ne_eqb s.depth 0 d)) refl ∙ cond_yes _ _ _ _ e y

  -- question 14, and then the line
  pub step-late : h ≡ true → (s.depth ≡ 0 → ⊥) → i.bounds.steps ≤ s.steps → unchanged s (Refused STEPS s.steps) ≡ step_once bytes i offsets program s
  unfolding answered
  step-late y d l = ap (answered s) (steps-used bytes i offsets program s l) ∙ step-runs y d

  pub step_lines : h ≡ true → (s.depth ≡ 0 → ⊥) → s.steps < i.bounds.steps → (r : Stepped) → r ≡ answered s (run_line bytes i offsets program s)
      → r ≡ step_once bytes i offsets program s
  step_lines y d l r k = k ∙ ap (answered s) (steps-left bytes i offsets program s l) ∙ step-runs y d

  -- the line answers: a no is refused where the step would be made, else it is made
  module _ (y : h ≡ true) (d : s.depth ≡ 0 → ⊥) (l : s.steps < i.bounds.steps) (a : Result Position Question)
      (k : line_as a ≡ run_line bytes i offsets program s) where
    pub step-no : (f : Refusal) → (question : Question) × (a ≡ Err question) × (f ≡ record { question = question; place = s.steps })
        → unchanged s (Refused (number f.question) f.place) ≡ step_once bytes i offsets program s
    unfolding answered line_as
    step-no f x = rw x.2 (step_lines y d l _ (ap (answered s) (rw x.1 at k)))

    pub step-made : (next : Position) → a ≡ Ok next → record { verdict = Accepted 1; position = next } ≡ step_once bytes i offsets program s
    unfolding answered line_as
    step-made next x = step_lines y d l _ (ap (answered s) (rw x at k))

-- the task's reading `r`, its verdict first
module _ (bytes program : List ℕ) (s : Position) (r : Reading) (e : r ≡ read_task bytes) where
  on-reading : on_reading bytes program s r ≡ single_step bytes program s
  unfolding single_step
  on-reading = ap (on_reading bytes program s) e

  pub task-refused : (question place : ℕ) → r.verdict ≡ Refused question place → unchanged s r.verdict ≡ single_step bytes program s
  unfolding on_reading following
  task-refused question place h = rw h (rw h at on-reading)

  module _ (value : ℕ) (h : r.verdict ≡ Accepted value) (v : Verdict) (g : v ≡ program_verdict r.layout.index r.layout.presets program) where
    pub program-refused : (question place : ℕ) → v ≡ Refused question place → unchanged s v ≡ single_step bytes program s
    unfolding on_reading following
    program-refused question place k = rw k (rw (h, ← g, k) at on-reading)

    pub both-passed : (value : ℕ) → v ≡ Accepted value → step_once bytes r.layout.index r.layout.offsets program s ≡ single_step bytes program s
    unfolding on_reading following
    both-passed value k = rw (h, ← g, k) at on-reading

-- a finished run stays as it is
pub finished-stays : (bytes program : List ℕ) (s : Position) (v p : ℕ) → (read_task bytes).verdict ≡ Accepted v
    → program_verdict (read_task bytes).layout.index (read_task bytes).layout.presets program ≡ Accepted p
    → possible (read_task bytes).layout.index s ≡ true → s.depth ≡ 0 → single_step bytes program s ≡ record { verdict = Accepted 0; position = s }
unfolding unchanged
finished-stays bytes program s v p h k l d =
    sym (step-finished bytes _ _ program s true (sym l) refl d ∙ both-passed bytes program s (read_task bytes) refl v h _ refl p k)

-- what the answers of the single step say, of every answer that the definition can give
module _ (bytes program : List ℕ) (s : Position) where
  abbrev t : Layout
  t = (read_task bytes).layout

  -- a step was made, to a position
  pub record Made (u : Position) : Type 0 where
    pub passes : Passed bytes t
    pub possible : possible t.index s ≡ true
    pub unfinished : 0 < s.depth
    pub ran : run_step bytes t.index t.offsets program s ≡ go u

  -- whose refusal it is: the task's; where it passes, the program's, or the run's, with a place of at most S
  pub data RefusedBy (question place : ℕ) : Type 0 where
    of-task : (read_task bytes).verdict ≡ Refused question place → RefusedBy question place
    of-program : Passed bytes t → program_verdict t.index t.presets program ≡ Refused question place → RefusedBy question place
    of-run : Passed bytes t → RefusalNumber question → place ≤ t.index.bounds.steps → RefusedBy question place

  -- its answers: a refusal, or the finish, at the position as it was, or a step that was made
  pub data Answers : Stepped → Type 0 where
    refuses : (question place : ℕ) → RefusedBy question place → Answers (unchanged s (Refused question place))
    stays : Answers (unchanged s (Accepted 0))
    makes : (u : Position) → Made u → Answers (record { verdict = Accepted 1; position = u })

  turn-answers : Passed bytes t → possible t.index s ≡ true → 0 < s.depth → (u : Turn Position ℕ)
      → run_step bytes t.index t.offsets program s ≡ u → Answers (answered s u)
  unfolding answered
  turn-answers h p d (stop question) e =
      refuses question s.steps (of-run h (step-number bytes t.index t.offsets s program question e) (parts t.index s p).steps)
  turn-answers h p d (go next) e = makes next (record { passes = h; possible = p; unfinished = d; ran = e })

  once-answers : Passed bytes t → Answers (step_once bytes t.index t.offsets program s)
  unfolding step_once
  once-answers h =
      cond_either Answers _ _ _
      (λ p. cond_either Answers (eqb s.depth 0) _ _ (λ z. stays) (λ z. turn-answers h p (omega (arith, eqb-false s.depth 0 z)) _ refl))
      (λ z. refuses POSSIBLE 0 (of-run h (omega arith) (omega arith)))

  following-answers : (v : Verdict) (rest : Stepped) → ((question place : ℕ) → v ≡ Refused question place → RefusedBy question place)
      → ((value : ℕ) → v ≡ Accepted value → Answers rest) → Answers (following s v rest)
  unfolding following
  following-answers (Accepted value) rest k h = h value refl
  following-answers (Refused question place) rest k h = refuses question place (k question place refl)

  pub single-answers : Answers (single_step bytes program s)
  unfolding single_step on_reading
  single-answers =
      following-answers _ _ (λ question place. of-task) λ v e.
      following-answers _ _ (λ question place. of-program (passed bytes v e)) λ w f.
      once-answers (passed bytes v e)

  refused-stays : (r : Stepped) → Answers r → (question place : ℕ) → r.verdict ≡ Refused question place → r.position ≡ s
  unfolding unchanged
  refused-stays r (refuses q p y) question place e = refl
  refused-stays r stays question place e = refl
  refused-stays r (makes u m) question place e = absurd (refused-accepted (sym e))

  made-moves : (r : Stepped) → Answers r → r.verdict ≡ Accepted 1 → Made r.position
  unfolding unchanged
  made-moves r (refuses question place y) e = absurd (refused-accepted e)
  made-moves r stays e = absurd (omega (arith, ap value_of e))
  made-moves r (makes u m) e = m

  -- a refusal gives the position back as it was
  pub single-refused : (question place : ℕ) → (single_step bytes program s).verdict ≡ Refused question place → (single_step bytes program s).position ≡ s
  single-refused = refused-stays _ single-answers

  -- 0 and 1 say that one step was made, from a possible position that is not the finish
  pub single-made : (single_step bytes program s).verdict ≡ Accepted 1 → Made (single_step bytes program s).position
  single-made = made-moves _ single-answers

  -- and that it led to a possible position again, of 16 frames, with one step more done
  pub single-possible : length s.frames ≡ 16 → (single_step bytes program s).verdict ≡ Accepted 1
      → (possible t.index (single_step bytes program s).position ≡ true) × (length (single_step bytes program s).position.frames ≡ 16)
      × ((single_step bytes program s).position.steps ≡ s.steps + 1)
  single-possible room h =
      let m = single-made h in
      let kept = run-possible bytes t m.passes s m.possible m.unfinished room program _ m.ran in
      (kept.0, kept.1, ran-steps bytes _ _ s program _ (step-ran bytes _ _ s program _ m.ran).1)

  -- a property of the task's verdict, of the program's, of the acceptances and of the run's refusals is one of the verdict
  pub single-has : (Q : Verdict → Type 0) → Q (read_task bytes).verdict
      → (Passed bytes (read_task bytes).layout → Q (program_verdict (read_task bytes).layout.index (read_task bytes).layout.presets program))
      → ((value : ℕ) → value ≤ 1 → Q (Accepted value))
      → ((question place : ℕ) → Passed bytes (read_task bytes).layout → RefusalNumber question → place ≤ (read_task bytes).layout.index.bounds.steps
      → Q (Refused question place))
      → Q (single_step bytes program s).verdict
  unfolding unchanged
  single-has Q task own acceptance refusal = by _ single-answers
    where
      by : (r : Stepped) → Answers r → Q r.verdict
      by r (refuses question place (of-task e)) = subst Q e task
      by r (refuses question place (of-program h e)) = subst Q e (own h)
      by r (refuses question place (of-run h n l)) = refusal question place h n l
      by r stays = acceptance 0 (omega arith)
      by r (makes u m) = acceptance 1 (omega arith)
