-- A question in a turn, by its answer; a turn does not both stop and go on. The law of a loop whose measure falls: it is one turn, and then the loop again. Any two
-- numbers of turns above the measure give the same answer, so what is left after a turn is still enough. And the law of a loop whose
-- turns keep a property of the states: what every answer from such a state has, the loop's answer has.
-- Assumes nothing.
use Prim.Native.Nat.{ℕ, zero, suc, ◌<◌}
use mathlib.Core.Path.{◌≡◌, refl}
use mathlib.Core.Bool.{Bool, true, false}
use native.Mathlib.Nat.{not-suc-le-zero, le_refl}
use native.Mathlib.Omega.{arith}
use Rattle.records.specs.Loop.{Turn, stop, go, ask, after, turns, loop}

module _ {S A : Type 0} (answer : Bool) (refusal : A) (rest : Turn S A) where
  pub ask-yes : answer ≡ true → rest ≡ ask answer refusal rest
  unfolding ask
  ask-yes h = rw h

  pub ask-no : answer ≡ false → stop refusal ≡ ask answer refusal rest
  unfolding ask
  ask-no h = rw h

pub stop-go : {S A : Type 0} {a : A} {s : S} → stop a ≡ go s → ⊥
stop-go h = let z : ◌≡◌ {A = ℕ} 0 1 = cc in omega arith

after_same : {S A : Type 0} (u : Turn S A) (f g : S → A) → ((t : S) → u ≡ go t → f t ≡ g t) → after u f ≡ after u g
unfolding after
after_same (stop a) f g same = refl
after_same (go t) f g same = same t refl

module _ {S A : Type 0} (turn : S → Turn S A) (measure : S → ℕ) (short : A)
    (falls : (s t : S) → turn s ≡ go t → measure t < measure s) where
  enough : (m n : ℕ) (s : S) → measure s < m → measure s < n → turns turn short m s ≡ turns turn short n s
  unfolding turns
  enough zero n s h k = absurd (not-suc-le-zero h)
  enough (suc m) zero s h k = absurd (not-suc-le-zero k)
  enough (suc m) (suc n) s h k =
      after_same (turn s) _ _ (λ t e. enough m n t (omega (arith, falls s t e)) (omega (arith, falls s t e)))

  pub unroll : (s : S) → loop turn measure short s ≡ after (turn s) (loop turn measure short)
  unfolding loop turns
  unroll s = after_same (turn s) _ _ (λ t e. enough (measure s) (suc (measure t)) t (falls s t e) (le_refl _))

-- a turn's answer has `Q`, or its state has `P`
abbrev pub Keeps : {S A : Type 0} → (S → Type 0) → (A → Type 0) → Turn S A → Type 0
Keeps P Q (stop a) = Q a
Keeps P Q (go s) = P s

pub ask-keeps : {S A : Type 0} (P : S → Type 0) (Q : A → Type 0) (answer : Bool) (refusal : A) (rest : Turn S A)
    → Q refusal → (answer ≡ true → Keeps P Q rest) → Keeps P Q (ask answer refusal rest)
unfolding ask
ask-keeps P Q true refusal rest h k = k refl
ask-keeps P Q false refusal rest h k = h

after-keeps : {S A : Type 0} (P : S → Type 0) (Q : A → Type 0) (u : Turn S A) (f : S → A) → Keeps P Q u → ((t : S) → P t → Q (f t)) → Q (after u f)
unfolding after
after-keeps P Q (stop a) f k h = k
after-keeps P Q (go t) f k h = h t k

module _ {S A : Type 0} (P : S → Type 0) (Q : A → Type 0) (turn : S → Turn S A) (measure : S → ℕ) (short : A)
    (keeps : (s : S) → P s → Keeps P Q (turn s)) (q : Q short) where
  turns-keep : (n : ℕ) (s : S) → P s → Q (turns turn short n s)
  unfolding turns
  turns-keep zero s p = q
  turns-keep (suc n) s p = after-keeps P Q (turn s) _ (keeps s p) (λ t k. turns-keep n t k)

  pub loop-keeps : (s : S) → P s → Q (loop turn measure short s)
  unfolding loop
  loop-keeps s p = turns-keep (suc (measure s)) s p
