-- Sets below a number of facts by the greatest of them, two of them by their union; question 6 at one pair, at each pair of a row that passes it, and over a
-- part of a file.
-- Assumes nothing.
use Prim.Native.Nat.{ℕ, ◌+◌, ◌-◌, ◌*◌, ◌/◌, ◌%◌, ◌^◌, ◌≤◌, ◌<◌}
use mathlib.Core.Path.{◌≡◌, sym, ap, ◌∙◌}
use mathlib.Core.Bool.{Bool, true, false, ◌&&◌, and-true, and-false}
use mathlib.Core.List.{List}
use native.Mathlib.Nat.{lt_of_lt_of_le, lt_of_not-le}
use native.Mathlib.Decide.{dec_le}
use native.Mathlib.Omega.{arith}
use lib.ListN.{length, take, drop}
use lib.Bits.{bit_and, bit_or, and_le_l, and_le_r, or_add_and, or_lt}
use lib.Dec.{leb}
use lib.Pow.{pow_pos, pow_mono, ones_split, ones_lt, high}
use borrow.Author.Tests.{lt-ltb, le-ltb, le-leb, lt-leb, eq-eqb, ne_eqb}
use Rattle.records.specs.Numbers.{eight_at}
use Rattle.records.proofs.Laws.Bytes.{part_length, u64-part}
use Rattle.records.proofs.Laws.Numbers.{u64-there}
use Rattle.task.proofs.Laws.First.{found_all, found-same}
use Rattle.task.specs.Facts.{literals_at, within, Greatest, consistent, pair_consistent, pairs_before_fault_at, pairs_before_fault}
use Rattle.task.specs.declared.facts.Literals.{Literals}

-- the two sets of a pair, given its 16 bytes
pub literals-there : (bytes : List ℕ) (at positive negative : ℕ) → at + 16 ≤ length bytes → positive ≡ eight_at bytes at → negative ≡ eight_at bytes (at + 8)
    → record { positive = positive; negative = negative } ≡ literals_at bytes at
unfolding literals_at
literals-there bytes at positive negative h =
    let first : at + 8 ≤ length bytes = omega arith in
    let second : at + 8 + 8 ≤ length bytes = omega arith in
    λ e f i. record { positive = u64-there bytes at positive e first i; negative = u64-there bytes (at + 8) negative f second i }

-- a set has facts below `facts` alone exactly when it is no greater than the greatest such set
most-below : (facts set : ℕ) → leb set (2 ^ facts - 1) ≡ within facts set
unfolding within
most-below facts set =
    let p = pow_pos facts in
    elim (dec_le (2 ^ facts) set) [
      | yes k ↦ lt-leb set (2 ^ facts - 1) (omega arith) ∙ sym (le-ltb _ _ k)
      | no k ↦ le-leb set (2 ^ facts - 1) (omega arith) ∙ sym (lt-ltb _ _ (lt_of_not-le k))
    ]

-- the greatest such set is the `facts` lowest of 63 bits
pub most-shifted : (facts : ℕ) → facts < 64 → Greatest facts ((2 ^ 63 - 1) / 2 ^ (63 - facts))
most-shifted facts h set k =
    let rest = 63 - facts in
    let all : facts + rest ≡ 63 = omega arith in
    let ones : (2 ^ 63 - 1) / 2 ^ rest ≡ 2 ^ facts - 1 =
    ap (λ (w : ℕ). (2 ^ w - 1) / 2 ^ rest) (sym all) ∙ ap (λ (v : ℕ). v / 2 ^ rest) (ones_split facts rest)
    ∙ high (2 ^ facts - 1) rest (ones_lt rest) in
    ap (leb set) ones ∙ most-below facts set

-- and with 64 facts or more every set of 8 bytes has such facts alone
pub most-all : (facts : ℕ) → 64 ≤ facts → Greatest facts (2 ^ 64 - 1)
unfolding within
most-all facts h set k = le-leb set (2 ^ 64 - 1) (omega arith) ∙ sym (lt-ltb _ _ (lt_of_lt_of_le k (pow_mono h)))

-- a union is no less than each of its sets
within_both : (facts a b : ℕ) → within facts (bit_or a b) ≡ (within facts a && within facts b)
unfolding within
within_both facts a b =
    let most = 2 ^ facts in
    let sum = or_add_and a b in
    let left = and_le_l a b in
    let right = and_le_r a b in
    elim (dec_le most a) [
      | yes h ↦ le-ltb (bit_or a b) most (omega arith) ∙ sym (simp (le-ltb a most h))
      | no h ↦
          elim (dec_le most b) [
            | yes k ↦ le-ltb (bit_or a b) most (omega arith) ∙ sym (simp (lt-ltb a most (lt_of_not-le h), le-ltb b most k))
            | no k ↦
                lt-ltb (bit_or a b) most (or_lt facts a b (lt_of_not-le h) (lt_of_not-le k))
                ∙ sym (simp (lt-ltb a most (lt_of_not-le h), lt-ltb b most (lt_of_not-le k)))
          ]
    ]

-- question 6 on one pair: it fails with a fact in both sets, and without one it goes by their union
module _ (facts : ℕ) (l : Literals) where
  pub named-twice : (bit_and l.positive l.negative ≡ 0 → ⊥) → false ≡ consistent facts l
  unfolding consistent
  named-twice n = simp (ne_eqb (bit_and l.positive l.negative) 0 n, and-false)

  pub pair-below : bit_and l.positive l.negative ≡ 0 → l.positive < 2 ^ 64 → l.negative < 2 ^ 64 → (most : ℕ) → Greatest facts most
      → leb (bit_or l.positive l.negative) most ≡ consistent facts l
  unfolding consistent
  pair-below apart p n most m =
      simp (eq-eqb (bit_and l.positive l.negative) 0 apart, and-true)
      (m _ (or_lt 64 _ _ p n) ∙ within_both facts l.positive l.negative)

-- question 6 on the pair at an offset of a body, by its number and by the offset
pub pair-test : (facts : ℕ) (body : List ℕ) (k : ℕ) (l : Literals) (r t : Bool) → l ≡ literals_at body (16 * k) → r ≡ consistent facts l → r ≡ t
    → pair_consistent facts body 0 k ≡ t
unfolding pair_consistent
pair-test facts body k l r t e f g =
    let n : 0 + 16 * k ≡ 16 * k = omega arith in
    rw (n, ← e) (sym f ∙ g)

pub pair-test_at : (facts : ℕ) (body : List ℕ) (at : ℕ) (l : Literals) (r t : Bool) → at % 16 ≡ 0 → l ≡ literals_at body at → r ≡ consistent facts l
    → r ≡ t → pair_consistent facts body 0 (at / 16) ≡ t
pair-test_at facts body at l r t z e f g =
    let n : at ≡ 16 * (at / 16) = omega (arith, z) in
    pair-test facts body (at / 16) l r t (e ∙ ap (literals_at body) n) f g

-- the pairs of a part of a file are those that stand there in the file
module _ (facts : ℕ) (bytes : List ℕ) (start size : ℕ) (h : start + size ≤ length bytes) where
  abbrev part : List ℕ
  part = take size (drop start bytes)

  literals-part : (at : ℕ) → at + 16 ≤ size → literals_at part at ≡ literals_at bytes (start + at)
  unfolding literals_at
  literals-part at l =
      let e : start + (at + 8) ≡ start + at + 8 = omega arith in
      let first = u64-part bytes start size h at (omega arith) in
      let second = rw e at (u64-part bytes start size h (at + 8) (omega arith)) in
      λ i. record { positive = first i; negative = second i }

  pair-part : (k : ℕ) → k < size / 16 → pair_consistent facts part 0 k ≡ pair_consistent facts bytes start k
  unfolding pair_consistent
  pair-part k l =
      let z : 0 + 16 * k ≡ 16 * k = omega arith in
      rw z (ap (consistent facts) (literals-part (16 * k) (omega arith)))

  pub pairs-part : pairs_before_fault facts part ≡ pairs_before_fault_at facts bytes start (size / 16)
  unfolding pairs_before_fault pairs_before_fault_at
  pairs-part =
      rw (part_length bytes start size h) (found-same (pair_consistent facts part 0) (pair_consistent facts bytes start) (size / 16) pair-part)

pub pairs-consistent : (facts : ℕ) (bytes : List ℕ) (at count : ℕ) → pairs_before_fault_at facts bytes at count ≡ count → (k : ℕ) → k < count
    → (offset : ℕ) → offset ≡ at + 16 * k → consistent facts (literals_at bytes offset) ≡ true
unfolding pairs_before_fault_at pair_consistent
pairs-consistent facts bytes at count h k l offset e = rw e (found_all (pair_consistent facts bytes at) count h k l)
