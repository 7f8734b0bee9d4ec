-- Calls join, and a call is as many single steps. A single step refuses, stays at the finish, or moves; a call goes by these, one after the other, so
-- what is left after some of them is what a call from there makes, and where it stops more single steps would leave the record alone. A step keeps a
-- position possible, so that the second call is let in where the first was.
-- Assumes nothing.
use Prim.Native.Nat.{ℕ, zero, suc, ◌+◌, ◌≤◌}
use mathlib.Core.Path.{◌≡◌, refl, sym, ap, ◌∙◌}
use mathlib.Core.Bool.{Bool, true, false}
use mathlib.Core.List.{List}
use native.Mathlib.Omega.{arith}
use lib.ListN.{length}
use Rattle.task.specs.Program.{program_verdict}
use Rattle.task.specs.Reading.{read_task, Reading}
use Rattle.task.specs.declared.index.Index.{Index}
use Rattle.task.specs.Verdict.{Verdict, Accepted, Refused}
use Rattle.step.specs.Perform.{Stepped, unchanged}
use Rattle.step.specs.Possible.{possible}
use Rattle.step.specs.Questions.{POSSIBLE}
use Rattle.step.specs.Single.{single_step}
use Rattle.step.specs.declared.position.Position.{Position}
use Rattle.step.proofs.Laws.Single.{step-impossible, task-refused, program-refused, both-passed, Answers, refuses, stays, makes, single-answers, single-possible}
use Rattle.steps.specs.Many.{StepsTaken, capped, taken_to, steps_from, many_steps}
use Rattle.steps.proofs.Laws.Many.{few-asked, many-task-refused, many-program-refused, BothPass, many-impossible, many-runs}
use Rattle.steps.proofs.Laws.Running.{steps-refused, steps-finished, steps-onward}
use Rattle.demands.specs.ManySteps.{counting, later, CallsJoin, made_by, as_call, CallsAreSteps}
use Rattle.demands.specs.SingleSteps.{repeated}

module _ (bytes program : List ℕ) where
  -- a single step that leaves the record alone ends a call, with this verdict by the steps made before
  record Stops (s : Position) : Type 0 where
    verdict : ℕ → Verdict
    counts : (c made : ℕ) → counting c (verdict made) ≡ verdict (c + made)
    ends : (n made : ℕ) → taken_to (verdict made) made s ≡ steps_from bytes program (suc n) made s
    single : taken_to (verdict 0) 0 s ≡ as_call (single_step bytes program s)

  -- a single step that is made
  abbrev Makes : Position → Position → Type 0
  Makes s u = ◌≡◌ {A = Stepped} (record { verdict = Accepted 1; position = u }) (single_step bytes program s)

  -- a single step does one or the other
  data Next (s : Position) : Type 0 where
    stops : Stops s → Next s
    goes : (u : Position) → Makes s u → Next s

  next_of : (s : Position) (r : Stepped) → Answers bytes program s r → r ≡ single_step bytes program s → Next s
  unfolding unchanged as_call made_by counting
  next_of s r (refuses question place y) e =
      stops (record {
        verdict = λ made. Refused question place;
        counts = λ c made. refl;
        ends = λ n made. steps-refused bytes program n made s question place e;
        single = ap as_call e;
      })
  next_of s r stays e =
      stops (record { verdict = Accepted; counts = λ c made. refl; ends = λ n made. steps-finished bytes program n made s e; single = ap as_call e })
  next_of s r (makes u m) e = goes u e

  next : (s : Position) → Next s
  next s = next_of s _ (single-answers bytes program s) refl

  -- what holds of so many steps from a position, after so many that are made, is shown by what the first of them does
  module _ (P : ℕ → ℕ → Position → Type 0) (none : (made : ℕ) (s : Position) → P 0 made s)
      (stopped : (n made : ℕ) (s : Position) → Stops s → P (suc n) made s)
      (goes_on : (n made : ℕ) (s u : Position) → Makes s u → P n (made + 1) u → P (suc n) made s) where
    by_next : (n made : ℕ) (s : Position) → ((u : Position) → P n (made + 1) u) → Next s → P (suc n) made s
    by_next n made s ih (stops x) = stopped n made s x
    by_next n made s ih (goes u e) = goes_on n made s u e (ih u)

    by-steps : (n made : ℕ) (s : Position) → P n made s
    by-steps zero made s = none made s
    by-steps (suc n) made s = by_next n made s (λ u. by-steps n (made + 1) u) (next s)

  abbrev i : Index
  i = (read_task bytes).layout.index

  -- how the questions up to 31 let a call in: they turn it away as they do a single step, whatever the count, or every possible position comes to the
  -- steps themselves
  data Entry (s : Position) : Type 0 where
    turned-away : (question place : ℕ) → unchanged s (Refused question place) ≡ single_step bytes program s
        → ((n : ℕ) → taken_to (Refused question place) 0 s ≡ many_steps bytes program n s) → Entry s
    let-in : possible i s ≡ true
        → ((u : Position) → possible i u ≡ true → (n : ℕ) → steps_from bytes program (capped n) 0 u ≡ many_steps bytes program n u) → Entry s

  module _ (s : Position) where
    abbrev r : Reading
    r = read_task bytes

    possible-entry : (v : Verdict) (b : BothPass bytes program r v) (p : Bool) → p ≡ possible i s → Entry s
    possible-entry v b false z =
        turned-away POSSIBLE 0
        (step-impossible bytes i _ program s false z refl ∙ both-passed bytes program s r refl b.value b.task v b.asked b.own b.passes)
        (many-impossible bytes program r v b s false z refl)
    possible-entry v b true y = let-in (sym y) (λ u w n. many-runs bytes program r v b u true (sym w) refl n _ refl)

    program-entry : (value : ℕ) → r.verdict ≡ Accepted value → (v : Verdict) → program_verdict i r.layout.presets program ≡ v → Entry s
    program-entry value h (Accepted own) g =
        possible-entry _ (record { read = refl; value = value; task = h; asked = refl; own = own; passes = g }) _ refl
    program-entry value h (Refused question place) g =
        turned-away question place (rw (← g) (program-refused bytes program s r refl value h _ refl question place g))
        (λ n. rw (← g) (many-program-refused bytes program n s r refl value h _ refl question place g))

    task-entry : (w : Verdict) → r.verdict ≡ w → Entry s
    task-entry (Accepted value) h = program-entry value h _ refl
    task-entry (Refused question place) h =
        turned-away question place (rw (← h) (task-refused bytes program s r refl question place h))
        (λ n. rw (← h) (many-task-refused bytes program n s r refl question place h))

    entry : Entry s
    entry = task-entry _ refl

  -- one step of a call is a single step
  one-step : (s : Position) → Next s → steps_from bytes program 1 0 s ≡ as_call (single_step bytes program s)
  unfolding steps_from as_call made_by
  one-step s (stops x) = sym (x.ends 0 0) ∙ x.single
  one-step s (goes u e) = sym (steps-onward bytes program 0 0 s u e) ∙ ap as_call e

  one-call : (s : Position) → Entry s → many_steps bytes program 1 s ≡ as_call (single_step bytes program s)
  unfolding unchanged as_call made_by capped
  one-call s (turned-away question place step e) = sym (e 1) ∙ ap as_call step
  one-call s (let-in y e) = sym (e s y 1) ∙ one-step s (next s)

  -- the record after k single steps
  abbrev after : ℕ → Position → Position
  after = repeated (λ r. (single_step bytes program r).position)

  all-calls : (k : ℕ) (s : Position) → repeated (λ r. (many_steps bytes program 1 r).position) k s ≡ after k s
  unfolding repeated as_call taken_to
  all-calls zero s = refl
  all-calls (suc k) s = all-calls k _ ∙ ap (λ (a : StepsTaken). after k a.position) (one-call s (entry s))

  -- a single step that leaves the record alone does so every time
  left_alone : (k : ℕ) (s : Position) → s ≡ (single_step bytes program s).position → s ≡ after k s
  unfolding repeated
  left_alone zero s e = refl
  left_alone (suc k) s e = left_alone k s e ∙ ap (after k) e

  steps-after : (k made : ℕ) (s : Position) → (steps_from bytes program k made s).position ≡ after k s
  unfolding steps_from repeated as_call taken_to
  steps-after =
      by-steps (λ k made s. (steps_from bytes program k made s).position ≡ after k s) (λ made s. refl)
      (λ k made s x. rw (← x.ends k made) (left_alone (suc k) s (ap (λ (a : StepsTaken). a.position) x.single)))
      (λ k made s u e ih. rw (← steps-onward bytes program k made s u e) (ih ∙ ap (λ (r : Stepped). after k r.position) e))

  together : (k : ℕ) (s : Position) → Entry s → (many_steps bytes program k s).position ≡ after (capped k) s
  unfolding taken_to unchanged
  together k s (turned-away question place step e) = rw (← e k) (left_alone (capped k) s (ap (λ (r : Stepped). r.position) step))
  together k s (let-in y e) = rw (← e s y k) (steps-after (capped k) 0 s)

  -- c steps made before only add to those that are made
  shifts : (c k made : ℕ) (s : Position) → steps_from bytes program k (c + made) s ≡ later c (steps_from bytes program k made s)
  unfolding steps_from later counting taken_to
  shifts c =
      by-steps (λ k made s. steps_from bytes program k (c + made) s ≡ later c (steps_from bytes program k made s)) (λ made s. refl)
      (λ k made s x.
      sym (x.ends k (c + made)) ∙ ap (λ (v : Verdict). taken_to v (c + made) s) (sym (x.counts c made)) ∙ ap (later c) (x.ends k made))
      (λ k made s u e ih.
      let same : c + made + 1 ≡ c + (made + 1) = omega arith in
      sym (steps-onward bytes program k (c + made) s u e)
      ∙ ap (λ (n : ℕ). steps_from bytes program k n u) same
      ∙ ih
      ∙ ap (later c) (steps-onward bytes program k made s u e))

  -- j steps are all made, and the rest goes on from where they led to
  record GoesOn (j made : ℕ) (s : Position) : Type 0 where
    rest : (k : ℕ) → steps_from bytes program (j + k) made s ≡ steps_from bytes program k (made + j) (steps_from bytes program j made s).position
    possible : possible i s ≡ true → possible i (steps_from bytes program j made s).position ≡ true

  next-goes-on : (j made : ℕ) (s u : Position) → length s.frames ≡ 16 → Makes s u
      → (length u.frames ≡ 16 → (steps_from bytes program j (made + 1) u).answer.made ≡ made + 1 + j → GoesOn j (made + 1) u)
      → (steps_from bytes program (suc j) made s).answer.made ≡ made + suc j → GoesOn (suc j) made s
  next-goes-on j made s u size e ih f =
      let there : (single_step bytes program s).position ≡ u = sym (ap (λ (x : Stepped). x.position) e) in
      let kept = single-possible bytes program s size (sym (ap (λ (x : Stepped). x.verdict) e)) in
      let on = steps-onward bytes program j made s u e in
      let next = ih (rw there at kept.1) (ap (λ (x : StepsTaken). x.answer.made) on ∙ f ∙ omega arith) in
      let same : made + 1 + j ≡ made + suc j = omega arith in
      record {
        rest = λ k.
            ap (λ (n : ℕ). steps_from bytes program n made s) (omega arith)
            ∙ sym (steps-onward bytes program (j + k) made s u e)
            ∙ next.rest k
            ∙ ap (λ (n : ℕ). steps_from bytes program k n (steps_from bytes program j (made + 1) u).position) same
            ∙ ap (λ (x : StepsTaken). steps_from bytes program k (made + suc j) x.position) on;
        possible = λ h. rw (← on) (next.possible (rw there at kept.0));
      }

  all-go-on : (j made : ℕ) (s : Position) → length s.frames ≡ 16 → (steps_from bytes program j made s).answer.made ≡ made + j → GoesOn j made s
  unfolding steps_from taken_to
  all-go-on =
      by-steps (λ j made s. length s.frames ≡ 16 → (steps_from bytes program j made s).answer.made ≡ made + j → GoesOn j made s)
      (λ made s size f.
      let same : made + 0 ≡ made = omega arith in
      record { rest = λ k. let all : 0 + k ≡ k = omega arith in rw (same, all) refl; possible = λ h. h })
      -- a call that stops with so many steps made has not made more
      (λ j made s x size f. let same : made ≡ made + suc j = ap (λ (a : StepsTaken). a.answer.made) (x.ends j made) ∙ f in absurd (omega (arith, same)))
      (λ j made s u e ih size f. next-goes-on j made s u size e ih f)

  module _ (j k : ℕ) (s : Position) (size : length s.frames ≡ 16) (l : j + k ≤ 4096) (f : (many_steps bytes program j s).answer.made ≡ j) where
    -- the second call, from where the first led to
    abbrev second : StepsTaken → StepsTaken
    second first = later j (many_steps bytes program k first.position)

    joined : Entry s → many_steps bytes program (j + k) s ≡ second (many_steps bytes program j s)
    unfolding later counting taken_to
    joined (turned-away question place step e) =
        let none : 0 ≡ j = rw (← e j) at f in
        let same : 0 ≡ j + 0 = omega (arith, none) in
        sym (e (j + k)) ∙ ap (λ (n : ℕ). taken_to (Refused question place) n s) same ∙ ap (later j) (e k) ∙ ap second (e j)
    joined (let-in y e) =
        let all : (u : Position) → possible i u ≡ true → (n : ℕ) → n ≤ 4096 → steps_from bytes program n 0 u ≡ many_steps bytes program n u =
        λ u w n m. ap (λ (c : ℕ). steps_from bytes program c 0 u) (few-asked n m) ∙ e u w n in
        let first = all s y j (omega (arith, l)) in
        let to = all-go-on j 0 s size (ap (λ (x : StepsTaken). x.answer.made) first ∙ f ∙ omega arith) in
        let u = (steps_from bytes program j 0 s).position in
        let same : 0 + j ≡ j + 0 = omega arith in
        sym (all s y (j + k) l)
        ∙ to.rest k
        ∙ ap (λ (n : ℕ). steps_from bytes program k n u) same
        ∙ shifts j k 0 u
        ∙ ap (later j) (all u (to.possible y) k (omega (arith, l)))
        ∙ ap second first

pub calls-are-steps : (bytes program : List ℕ) → CallsAreSteps bytes program
calls-are-steps bytes program =
    record {
      one = λ s. one-call bytes program s (entry bytes program s);
      all = all-calls bytes program;
      together = λ k s. together bytes program k s (entry bytes program s);
    }

pub calls-join : CallsJoin
calls-join bytes program j k s size l f = joined bytes program j k s size (omega (arith, l)) f (entry bytes program s)
