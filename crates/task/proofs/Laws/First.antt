-- The search for the first no, place by place: the test at a place says whether the search goes on or ends there. `Searching` is the
-- invariant of a loop that makes such a search. A search finds none exactly if each place passed, and two tests that agree find the same.
-- Assumes nothing.
use Prim.Native.Nat.{ℕ, zero, suc, ◌+◌, ◌-◌, ◌≤◌, ◌<◌}
use mathlib.Core.Path.{◌≡◌, refl, sym, ap, ◌∙◌}
use mathlib.Core.Bool.{Bool, true, false, cond}
use native.Mathlib.Numerals.{add-one}
use native.Mathlib.Omega.{arith}
use lib.Dec.{ltb}
use borrow.Author.Tests.{ltb-true, ltb-false}
use Rattle.records.proofs.Laws.Tests.{cond_either}
use Rattle.task.specs.First.{first_no_from, first_no}

-- every place below `k` was passed: what the search finds from `k` on is what it finds
pub record Searching (test : ℕ → Bool) (count k : ℕ) : Type 0 where
  pub below : k ≤ count
  pub found : first_no_from test k (count - k) ≡ first_no test count

module _ (test : ℕ → Bool) (count : ℕ) where
  pub searching : Searching test count 0
  unfolding first_no
  searching =
      let e : count - 0 ≡ count = omega arith in
      record { below = omega arith; found = rw e }

  module _ (k : ℕ) (s : Searching test count k) where
    pub found-yes : k < count → test k ≡ true → Searching test count (k + 1)
    unfolding first_no_from
    found-yes h t =
        let e : count - k ≡ suc (count - suc k) = omega arith in
        record { below = omega arith; found = rw add-one (sym (rw e (simp t)) ∙ s.found) }

    pub found-no : k < count → test k ≡ false → k ≡ first_no test count
    unfolding first_no_from
    found-no h t =
        let e : count - k ≡ suc (count - (k + 1)) = omega arith in
        sym (rw e (simp t)) ∙ s.found

    pub found_none : count ≤ k → k ≡ first_no test count
    unfolding first_no_from
    found_none h =
        let e : count - k ≡ 0 = omega arith in
        sym (rw e) ∙ s.found

    -- a loop that comes to its end has passed every place
    pub all_passed : count ≤ k → count ≡ first_no test count
    all_passed h = let e : count ≡ k = omega (arith, s.below) in e ∙ found_none h

-- the place before which the test says yes, and at which it says no, is what the search finds; and so is the number of places, where it never says no
pub found-at : (test : ℕ → Bool) (count r : ℕ) → r ≤ count → ((k : ℕ) → k < r → test k ≡ true) → (r < count → test r ≡ false) → r ≡ first_no test count
found-at test count r within before found = by (ltb r count) refl
  where
    goes_on : (k : ℕ) → k ≤ r → Searching test count k
    goes_on zero h = searching test count
    goes_on (suc k) h = rw add-one at (found-yes test count k (goes_on k (omega arith)) (omega arith) (before k (omega arith)))

    by : (b : Bool) → ltb r count ≡ b → r ≡ first_no test count
    by true e = let l = ltb-true r count e in found-no test count r (goes_on r (omega arith)) l (found l)
    by false e = found_none test count r (goes_on r (omega arith)) (ltb-false r count e)

-- the search ends within the places
pub found-most : (test : ℕ → Bool) (count : ℕ) → first_no test count ≤ count
unfolding first_no first_no_from
found-most test count = omega (arith, from 0 count)
  where
    from : (k left : ℕ) → first_no_from test k left ≤ k + left
    from k zero = omega arith
    from k (suc left) =
        cond_either (λ (n : ℕ). n ≤ k + suc left) (test k) (first_no_from test (suc k) left) k (λ e. omega (arith, from (suc k) left)) (λ e. omega arith)

-- two tests that agree at each place find the same
module _ (test other : ℕ → Bool) where
  same_from : (k left : ℕ) → ((j : ℕ) → k ≤ j → j < k + left → test j ≡ other j) → first_no_from test k left ≡ first_no_from other k left
  unfolding first_no_from
  same_from k zero h = refl
  same_from k (suc left) h =
      rw (h k (omega arith) (omega arith))
      (ap (λ (n : ℕ). cond (other k) n k) (same_from (suc k) left (λ j l m. h j (omega arith) (omega arith))))

  pub found-same : (count : ℕ) → ((k : ℕ) → k < count → test k ≡ other k) → first_no test count ≡ first_no other count
  unfolding first_no
  found-same count h = same_from 0 count (λ j l m. h j (omega arith))

-- a search at whose places the test says yes
module _ (test : ℕ → Bool) (count : ℕ) (all : (k : ℕ) → k < count → test k ≡ true) where
  goes_on : (k : ℕ) → k ≤ count → Searching test count k
  goes_on zero h = searching test count
  goes_on (suc k) h = rw add-one at (found-yes test count k (goes_on k (omega arith)) (omega arith) (all k (omega arith)))

  pub all_found : first_no test count ≡ count
  all_found = sym (found_none test count count (goes_on count (omega arith)) (omega arith))

-- a search that finds no place
module _ (test : ℕ → Bool) (count : ℕ) (none : first_no test count ≡ count) where
  passed : (k : ℕ) → k < count → Searching test count k → (t : Bool) → test k ≡ t → test k ≡ true
  passed k h s true e = e
  passed k h s false e = absurd (omega (arith, found-no test count k s h e))

  comes : (k : ℕ) → k ≤ count → Searching test count k
  comes zero h = searching test count
  comes (suc k) h =
      let s = comes k (omega arith) in
      rw add-one at (found-yes test count k s (omega arith) (passed k (omega arith) s (test k) refl))

  pub found_all : (k : ℕ) → k < count → test k ≡ true
  found_all k h = passed k h (comes k (omega arith)) (test k) refl
