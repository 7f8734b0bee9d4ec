-- Facts in words: a set's bits are its facts, so a word is the set of a test that agrees with its bits, and a test that says no to each
-- of its bits says yes at every fact exactly when the word is 0. Each bit operation acts on every fact by itself.
-- Assumes nothing.
use Prim.Native.Nat.{ℕ, zero, suc, ◌+◌, ◌-◌, ◌*◌, ◌/◌, ◌%◌, ◌^◌, ◌≤◌, ◌<◌}
use mathlib.Core.Path.{◌≡◌, refl, sym, ap, ◌∙◌}
use mathlib.Core.Bool.{Bool, true, false, cond, not, ◌&&◌, ◌||◌, and-true, and-false}
use mathlib.Core.List.{List, [], ◌∷◌}
use native.Mathlib.Nat.{mod-lt, mod-one, mod-eq_of_lt, div-eq_of_lt, add-div_right, add-mul-mod_self_right, lt_of_lt_of_le, lt_of_le_of_lt, pow-suc, add_comm, add_assoc, add-zero}
use native.Mathlib.Numerals.{add-one, one-add}
use native.Mathlib.Decide.{ℕ_discrete, dec_le, le_ind}
use native.Mathlib.Omega.{arith}
use lib.Bits.{bit_and, bit_or, bit_xor, and_shr, and_mod, or_shr, or_mod, xor_shr, xor_mod, and_le_l, or_lt, xor_lt}
use Rattle.std.proofs.lemmas.Nat.{and_comm, and_assoc, and-not}
use Rattle.std.specs.Int.Bits.{and_self, xor_add_and}
use Rattle.std.specs.List.{list_all, enumerate_from}
use lib.Dec.{eqb}
use lib.ListN.{length, get_or}
use lib.Pow.{pow_pos, pow_mono, pow-add, mod-pow-add, field}
use borrow.Author.Tests.{ne_eqb}
use Rattle.records.proofs.Laws.Tests.{both_true}
use Rattle.task.specs.declared.facts.Literals.{Literals}
use Rattle.step.specs.Facts.{has, set_of, every, agrees, holds}

-- what holds of 0 and of 1 holds of a number's lowest digit
digit : (P : ℕ → Type 0) → P 0 → P 1 → (n : ℕ) → P (n % 2)
digit P h k n = at (n % 2) (mod-lt n {m = 2} (omega arith))
  where
    at : (d : ℕ) → d < 2 → P d
    at zero l = h
    at (suc zero) l = k
    at (suc (suc d)) l = absurd (omega arith)

-- an operation on words that acts on each digit by itself acts on each fact by itself, as its table for two digits says
module _ (op : ℕ → ℕ → ℕ) (on : Bool → Bool → Bool)
    (shr : (a b k : ℕ) → op a b / 2 ^ k ≡ op (a / 2 ^ k) (b / 2 ^ k)) (low : (a b k : ℕ) → op a b % 2 ^ k ≡ op (a % 2 ^ k) (b % 2 ^ k))
    (e₁ : eqb (op 0 0) 1 ≡ on false false) (e₂ : eqb (op 0 1) 1 ≡ on false true)
    (e₃ : eqb (op 1 0) 1 ≡ on true false) (e₄ : eqb (op 1 1) 1 ≡ on true true) where
  has-op : (a b f : ℕ) → has (op a b) f ≡ on (has a f) (has b f)
  unfolding has
  has-op a b f =
      ap (λ (n : ℕ). eqb (n % 2) 1) (shr a b f) ∙ ap (λ (n : ℕ). eqb n 1) (low (a / 2 ^ f) (b / 2 ^ f) 1)
      ∙ digit (λ (x : ℕ). eqb (op x (b / 2 ^ f % 2)) 1 ≡ on (eqb x 1) (eqb (b / 2 ^ f % 2) 1))
      (digit (λ (y : ℕ). eqb (op 0 y) 1 ≡ on false (eqb y 1)) e₁ e₂ (b / 2 ^ f))
      (digit (λ (y : ℕ). eqb (op 1 y) 1 ≡ on true (eqb y 1)) e₃ e₄ (b / 2 ^ f)) (a / 2 ^ f)

has-and : (a b f : ℕ) → has (bit_and a b) f ≡ (has a f && has b f)
has-and = has-op bit_and ◌&&◌ and_shr and_mod refl refl refl refl

pub has-or : (a b f : ℕ) → has (bit_or a b) f ≡ (has a f || has b f)
has-or = has-op bit_or ◌||◌ or_shr or_mod refl refl refl refl

differ : Bool → Bool → Bool
differ true b = not b
differ false b = b

has-xor : (a b f : ℕ) → has (bit_xor a b) f ≡ differ (has a f) (has b f)
unfolding differ
has-xor = has-op bit_xor differ xor_shr xor_mod refl refl refl refl

-- a set without the facts of another
abbrev pub without : ℕ → ℕ → ℕ
without a b = bit_xor a (bit_and a b)

pub has-without : (a b f : ℕ) → has (without a b) f ≡ (has a f && not (has b f))
unfolding differ
has-without a b f = has-xor a (bit_and a b) f ∙ ap (differ (has a f)) (has-and a b f) ∙ table (has a f) (has b f)
  where
    table : (p q : Bool) → differ p (p && q) ≡ (p && not q)
    table true q = refl
    table false q = refl

pub without-lt : (k a b : ℕ) → a < 2 ^ k → without a b < 2 ^ k
without-lt k a b h = xor_lt k a (bit_and a b) h (lt_of_le_of_lt (and_le_l a b) h)

-- as the code says it
pub without-word : (a b : ℕ) → a < 2 ^ 64 → b < 2 ^ 64 → bit_and a (2 ^ 64 - 1 - b) ≡ without a b
without-word a b h k =
    let twice : bit_and a (bit_and a b) ≡ bit_and a b = sym (and_assoc b a a) ∙ ap (λ (n : ℕ). bit_and n b) (and_self a) in
    omega (arith, and-not 64 b a k h, and_comm a (2 ^ 64 - 1 - b), and_comm a b, xor_add_and a (bit_and a b), twice)

-- a set of facts below a number has no fact from that number on
pub has_above : (k s f : ℕ) → s < 2 ^ k → k ≤ f → has s f ≡ false
unfolding has
has_above k s f h l = rw (div-eq_of_lt (lt_of_lt_of_le h (pow_mono l))) refl

-- the set of a test's facts
set-bits : (s n : ℕ) → set_of n (has s) ≡ s % 2 ^ n
unfolding set_of has
set-bits s zero = sym (mod-one s)
set-bits s (suc n) =
    ap (λ (x : ℕ). x + cond (eqb (s / 2 ^ n % 2) 1) (2 ^ n) 0) (set-bits s n)
    ∙ ap (λ (x : ℕ). s % 2 ^ n + x) (digit (λ (d : ℕ). cond (eqb d 1) (2 ^ n) 0 ≡ d * 2 ^ n) (omega arith) (omega arith) (s / 2 ^ n))
    ∙ add_comm (s % 2 ^ n) (s / 2 ^ n % 2 * 2 ^ n)
    ∙ sym (mod-pow-add s 1 n)
    ∙ ap (λ (x : ℕ). s % 2 ^ x) (add_comm 1 n ∙ add-one n)

-- a word is the set of a test that agrees with its bits
pub word_set : (w : ℕ) (test : ℕ → Bool) → w < 2 ^ 64 → ((f : ℕ) → has w f ≡ test f) → w ≡ set_of 64 test
word_set w test h k = sym (set-bits w 64 ∙ mod-eq_of_lt h) ∙ (λ i. set_of 64 (λ f. k f i))

set-lt : (n : ℕ) (test : ℕ → Bool) → set_of n test < 2 ^ n
unfolding set_of
set-lt zero test = omega arith
set-lt (suc n) test = more (test n) (set-lt n test)
  where
    more : (b : Bool) → set_of n test < 2 ^ n → set_of n test + cond b (2 ^ n) 0 < 2 ^ suc n
    more true h = omega (arith, pow-suc 2 n)
    more false h = omega (arith, pow-suc 2 n)

-- of the facts below n, the set of those at which a test says yes has exactly these
module _ (test : ℕ → Bool) where
  set-low : (m n : ℕ) → m ≤ n → set_of n test % 2 ^ m ≡ set_of m test
  unfolding set_of
  set-low m = le_ind (λ (n : ℕ). set_of n test % 2 ^ m ≡ set_of m test) (mod-eq_of_lt (set-lt m test)) (λ n l e. above n l (test n) ∙ e)
    where
      above : (n : ℕ) → m ≤ n → (b : Bool) → (set_of n test + cond b (2 ^ n) 0) % 2 ^ m ≡ set_of n test % 2 ^ m
      above n l true =
          let e : n ≡ n - m + m = omega arith in
          ap (λ (k : ℕ). (set_of n test + k) % 2 ^ m) (ap (λ (k : ℕ). 2 ^ k) e ∙ pow-add 2 (n - m) m)
          ∙ add-mul-mod_self_right (set_of n test) (2 ^ (n - m)) (2 ^ m)
      above n l false = ap (λ (k : ℕ). k % 2 ^ m) (add-zero (set_of n test))

  pub has-set : (n f : ℕ) → f < n → has (set_of n test) f ≡ test f
  unfolding has set_of
  has-set n f l =
      ap (λ (k : ℕ). eqb k 1)
      (sym (field (set_of n test) 1 f) ∙ ap (λ (k : ℕ). k / 2 ^ f) (ap (λ (k : ℕ). set_of n test % 2 ^ k) (one-add f) ∙ set-low (suc f) n l))
      ∙ top (test f)
    where
      top : (b : Bool) → eqb ((set_of f test + cond b (2 ^ f) 0) / 2 ^ f) 1 ≡ b
      top true = ap (λ (k : ℕ). eqb k 1) (add-div_right (set_of f test) (pow_pos f) ∙ ap (λ (k : ℕ). k + 1) (div-eq_of_lt (set-lt f test)))
      top false = ap (λ (k : ℕ). eqb k 1) (ap (λ (k : ℕ). k / 2 ^ f) (add-zero (set_of f test)) ∙ div-eq_of_lt (set-lt f test))

-- a test that says yes below a number alone has a set of facts below it
pub set_below : (k n : ℕ) (test : ℕ → Bool) → ((f : ℕ) → k ≤ f → test f ≡ false) → set_of n test < 2 ^ k
unfolding set_of
set_below k zero test h = pow_pos k
set_below k (suc n) test h =
    elim (dec_le k n) [
      | yes l ↦ rw (h n l) (omega (arith, set_below k n test h))
      | no l ↦ lt_of_lt_of_le (set-lt (suc n) test) (pow_mono (omega arith))
    ]

-- a test that says yes at each of the first places
module _ (test : ℕ → Bool) where
  pub every-at : (n : ℕ) → every n test ≡ true → (k : ℕ) → k < n → test k ≡ true
  unfolding every
  every-at zero h k l = absurd (omega arith)
  every-at (suc n) h k l =
      let both = both_true (every n test) (test n) h in
      elim (ℕ_discrete k n) [ yes e ↦ (rw e both.1) | no e ↦ every-at n both.0 k (omega arith) ]

  pub every-all : (n : ℕ) → ((k : ℕ) → k < n → test k ≡ true) → every n test ≡ true
  unfolding every
  every-all zero h = refl
  every-all (suc n) h = simp (every-all n (λ k l. h k (omega arith)), h n (omega arith))

-- yes at the first place and at each that follows it
every-first : (n : ℕ) (test : ℕ → Bool) → (test 0 && every n (λ k. test (1 + k))) ≡ every (suc n) test
unfolding every
every-first zero test = and-true (test 0)
every-first (suc n) test = joined (test 0) _ _ ∙ (λ i. every-first n test i && test (one-add n i))
  where
    joined : (b p q : Bool) → (b && (p && q)) ≡ ((b && p) && q)
    joined true p q = refl
    joined false p q = refl

-- a test of each element of a list with its place says yes everywhere exactly when it does so at each of the list's places
pub every-listed : {A : Type 0} (test : ℕ × A → Bool) (d : A) (n : ℕ) (xs : List A)
    → list_all test (enumerate_from n xs) ≡ every (length xs) (λ k. test (n + k, get_or xs k d))
unfolding every
every-listed test d n [] = refl
every-listed test d n (x ∷ xs) =
    let here : ℕ → Bool = λ k. test (n + k, get_or (x ∷ xs) k d) in
    let later : (k : ℕ) → test (n + 1 + k, get_or xs k d) ≡ here (1 + k) = λ k. rw (add_assoc n 1 k, one-add k) refl in
    let first : test (n, x) ≡ here 0 = rw (add-zero n) refl in
    (λ i. first i && every-listed test d (n + 1) xs i) ∙ (λ i. here 0 && every (length xs) (λ k. later k i)) ∙ every-first (length xs) here

every-none : (n : ℕ) (test : ℕ → Bool) → every n (λ f. not (test f)) ≡ eqb (set_of n test) 0
unfolding every set_of
every-none zero test = refl
every-none (suc n) test = ap (λ (b : Bool). b && not (test n)) (every-none n test) ∙ more (test n)
  where
    more : (b : Bool) → (eqb (set_of n test) 0 && not b) ≡ eqb (set_of n test + cond b (2 ^ n) 0) 0
    more true = and-false (eqb (set_of n test) 0) ∙ sym (ne_eqb (set_of n test + 2 ^ n) 0 (omega (arith, pow_pos n)))
    more false = and-true (eqb (set_of n test) 0) ∙ ap (λ (x : ℕ). eqb x 0) (sym (add-zero (set_of n test)))

-- a test that says no at exactly the bits of a word says yes at every fact exactly when the word is 0
word_none : (w : ℕ) (test : ℕ → Bool) → w < 2 ^ 64 → ((f : ℕ) → test f ≡ not (has w f)) → every 64 test ≡ eqb w 0
word_none w test h k = (λ i. every 64 (λ f. k f i)) ∙ every-none 64 (has w) ∙ ap (λ (x : ℕ). eqb x 0) (set-bits w 64 ∙ mod-eq_of_lt h)

-- a condition holds when no fact that must be true is missing and none that must be false is there
pub holds-word : (state : ℕ) (l : Literals) → l.positive < 2 ^ 64 → l.negative < 2 ^ 64
    → eqb (bit_or (without l.positive state) (bit_and l.negative state)) 0 ≡ holds state l
unfolding holds agrees
holds-word state l h k =
    sym
    (word_none _ (agrees state l)
    (or_lt 64 _ _ (without-lt 64 _ state h) (lt_of_le_of_lt (and_le_l l.negative state) k))
    (λ f.
    let bits = has-or _ _ f ∙ (λ i. has-without l.positive state f i || has-and l.negative state f i) in
    sym (ap not bits ∙ table (has l.positive f) (has l.negative f) (has state f))))
  where
    table : (p q s : Bool) → not ((p && not s) || (q && s)) ≡ ((not p || s) && (not q || not s))
    table true true true = refl
    table true false true = refl
    table true q false = refl
    table false true true = refl
    table false false true = refl
    table false true false = refl
    table false false false = refl

-- as the code says it
pub holds-masked : (state : ℕ) (l : Literals) → state < 2 ^ 64 → l.positive < 2 ^ 64 → l.negative < 2 ^ 64
    → eqb (bit_or (bit_and l.positive (2 ^ 64 - 1 - state)) (bit_and l.negative state)) 0 ≡ holds state l
holds-masked state l j h k = rw (without-word l.positive state h j) (holds-word state l h k)
