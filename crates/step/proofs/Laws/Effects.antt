-- The walk over an action's effects: the facts that it has found so far, and those that the effects still to come have, are all that the
-- fired effects have. And what the fired effects make of a state, in words: from sets of facts below a number, such a set.
-- Assumes nothing.
use Prim.Native.Nat.{ℕ, zero, suc, ◌+◌, ◌-◌, ◌^◌, ◌≤◌, ◌<◌}
use mathlib.Core.Path.{◌≡◌, refl, sym, ap, ◌∙◌}
use mathlib.Core.Bool.{Bool, true, false, cond, not, ◌&&◌, ◌||◌, or_assoc, or-false}
use mathlib.Core.List.{List, ◌∷◌}
use native.Mathlib.Numerals.{add-one}
use native.Mathlib.Omega.{arith}
use lib.Bits.{bit_and, bit_or, or_lt}
use Rattle.task.specs.Index.{row_from, action_at, effect_at, effects_of}
use Rattle.task.specs.declared.index.Effect.{Effect}
use Rattle.step.specs.Facts.{has, set_of, holds}
use Rattle.step.specs.Effects.{fired, some_has, changes_of, true_after, changed}
use Rattle.step.specs.declared.effects.Changes.{Changes}
use Rattle.step.proofs.Laws.Facts.{has-or, has-without, has_above, has-set, without, without-lt, without-word, word_set, set_below}

-- a part of each effect: the facts that it raises, or those that it lowers
module _ (bytes : List ℕ) (at state count : ℕ) (part : Effect → ℕ) where
  -- a word has what the fired effects below number e have: with what those from e on have, that is all
  pub record Walked (e w : ℕ) : Type 0 where
    pub below : e ≤ count
    pub small : w < 2 ^ 64
    pub found : (f : ℕ)
        → (has w f || some_has part (fired state (row_from (effect_at bytes at) e (count - e))) f) ≡ some_has part (fired state (row_from (effect_at bytes at) 0 count)) f

  pub walk_begins : Walked 0 0
  walk_begins =
      let e : count - 0 ≡ count = omega arith in
      record { below = omega arith; small = omega arith; found = λ f. rw (e, has_above 0 0 f (omega arith) (omega arith)) }

  -- one effect more: its part is added where it fires
  with-one : (b : Bool) (w f : ℕ) (x : Effect) (rest : List Effect)
      → (has (cond b (bit_or w (part x)) w) f || some_has part rest f) ≡ (has w f || some_has part (cond b (x ∷ rest) rest) f)
  unfolding some_has
  with-one true w f x rest = ap (λ (b : Bool). b || some_has part rest f) (has-or w (part x) f) ∙ or_assoc (has w f) (has (part x) f) (some_has part rest f)
  with-one false w f x rest = refl

  -- `b` says whether it fires
  pub walk-on : (e w : ℕ) → Walked e w → e < count → (x : Effect) → x ≡ effect_at bytes at e → (b : Bool) → b ≡ holds state x.condition
      → cond b (bit_or w (part x)) w < 2 ^ 64 → Walked (e + 1) (cond b (bit_or w (part x)) w)
  unfolding row_from fired
  walk-on e w h l x i b j m =
      let n : count - e ≡ suc (count - suc e) = omega arith in
      record {
        below = omega arith;
        small = m;
        found =
            λ f. rw add-one (with-one b w f x (fired state (row_from (effect_at bytes at) (suc e) (count - suc e))) ∙ rw (j, i) (rw n at (h.found f)));
      }

  pub walk_ends : (e w : ℕ) → Walked e w → count ≤ e → w ≡ set_of 64 (some_has part (fired state (row_from (effect_at bytes at) 0 count)))
  unfolding row_from fired some_has
  walk_ends e w h l =
      let k : count - e ≡ 0 = omega arith in
      word_set w _ h.small (λ f. sym (or-false (has w f)) ∙ (rw k at (h.found f)))

-- the state afterwards, as a word
pub changed-word : (state : ℕ) (c : Changes) → state < 2 ^ 64 → c.raised < 2 ^ 64 → bit_or c.raised (without state c.lowered) ≡ changed state c
unfolding changed true_after
changed-word state c h k =
    word_set _ _ (or_lt 64 _ _ k (without-lt 64 state c.lowered h))
    (λ f. has-or c.raised _ f ∙ ap (λ (b : Bool). has c.raised f || b) (has-without state c.lowered f))

-- as the code says it
pub changed-masked : (state : ℕ) (c : Changes) → state < 2 ^ 64 → c.raised < 2 ^ 64 → c.lowered < 2 ^ 64
    → bit_or c.raised (bit_and state (2 ^ 64 - 1 - c.lowered)) ≡ changed state c
changed-masked state c h k l = rw (without-word state c.lowered h l) (changed-word state c h k)

-- the state afterwards, fact by fact: what an effect that fires raises is true, whatever the others lower
pub fact-after : (state : ℕ) (effects : List Effect) (f : ℕ) → f < 64
    → has (changed state (changes_of state effects)) f
    ≡ (some_has (λ e. e.raised) (fired state effects) f || (has state f && not (some_has (λ e. e.lowered) (fired state effects) f)))
unfolding changed true_after changes_of
fact-after state effects f l =
    has-set _ 64 f l
    ∙ λ i. has-set (some_has (λ e. e.raised) (fired state effects)) 64 f l i || (has state f && not (has-set (some_has (λ e. e.lowered) (fired state effects)) 64 f l i))

-- what is made of sets of facts below a number is such a set
module _ (k state : ℕ) where
  changed-below : (c : Changes) → state < 2 ^ k → c.raised < 2 ^ k → changed state c < 2 ^ k
  unfolding changed true_after
  changed-below c h r = set_below k 64 _ (λ f l. simp (has_above k c.raised f r l, has_above k state f h l))

  module _ (part : Effect → ℕ) where
    one_below : (b : Bool) (x : Effect) (rest : List Effect) (f : ℕ) → part x < 2 ^ k → k ≤ f → some_has part rest f ≡ false
        → some_has part (cond b (x ∷ rest) rest) f ≡ false
    unfolding some_has
    one_below true x rest f h l e = simp (has_above k (part x) f h l, e)
    one_below false x rest f h l e = e

    fired-below : (bytes : List ℕ) (at e left : ℕ) → ((n : ℕ) → n < e + left → part (effect_at bytes at n) < 2 ^ k) → (f : ℕ) → k ≤ f
        → some_has part (fired state (row_from (effect_at bytes at) e left)) f ≡ false
    unfolding row_from fired some_has
    fired-below bytes at e zero h f l = refl
    fired-below bytes at e (suc left) h f l =
        one_below (holds state (effect_at bytes at e).condition) (effect_at bytes at e) (fired state (row_from (effect_at bytes at) (suc e) left)) f
        (h e (omega arith)) l (fired-below bytes at (suc e) left (λ n m. h n (omega arith)) f l)

  pub effects-below : (bytes : List ℕ) (at : ℕ) → state < 2 ^ k
      → ((e : ℕ) → e < (action_at bytes at).effects → (effect_at bytes at e).raised < 2 ^ k)
      → changed state (changes_of state (effects_of bytes at)) < 2 ^ k
  unfolding changes_of effects_of
  effects-below bytes at h r =
      changed-below _ h (set_below k 64 _ (fired-below (λ e. e.raised) bytes at 0 _ (λ n m. r n (omega arith))))
