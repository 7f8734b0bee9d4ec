-- The bytes that are put for a case: those of its record and of the closing one, part by part, and these in the buffer; by parts of a slice, as the code
-- does, and number by number.
-- Assumes nothing.
use Prim.Native.Nat.{ℕ, suc, ◌+◌, ◌-◌, ◌/◌, ◌%◌, ◌≤◌, ◌<◌}
use mathlib.Core.Path.{◌≡◌, refl, sym, ap, ◌∙◌}
use mathlib.Core.List.{List, [], ◌∷◌, ◌++◌, append-nil, append_assoc}
use native.Mathlib.Omega.{arith}
use Rattle.std.proofs.Math.Nat.{div-div-eq-div-mul}
use Rattle.std.specs.Int.{w64, to_le_bytes}
use lib.ListN.{length, take, drop, set, length-drop}
use lib.Seq.{drop-drop, drop-length, sets}
use borrow.Rule.Slice.PartMut.{put_mid}
use Rattle.records.specs.Numbers.{number_bytes}
use Rattle.records.specs.Record.{record_bytes, closing}
use Rattle.task.specs.declared.index.Case.{Case}
use Rattle.task_file.specs.Bytes.{pair_bytes, case_record}

-- the little-endian bytes of a number are its bytes
pub number-le : (n : ℕ) → to_le_bytes w64 n ≡ number_bytes 8 n
unfolding number_bytes
number-le n = simp div-div-eq-div-mul

-- of a number's bytes, those that are left from the k-th on
module _ (bytes : List ℕ) (at width rest k : ℕ) where
  pub put_next : k < width
      → sets (set bytes (at + k) (rest % 256)) (at + (k + 1)) (number_bytes (width - (k + 1)) (rest / 256)) ≡ sets bytes (at + k) (number_bytes (width - k) rest)
  unfolding number_bytes
  put_next h =
      let e : width - k ≡ suc (width - (k + 1)) = omega (arith, h) in
      let f : at + (k + 1) ≡ suc (at + k) = omega arith in
      rw (e, f) refl

  pub put_all : width ≤ k → bytes ≡ sets bytes (at + k) (number_bytes (width - k) rest)
  unfolding number_bytes
  put_all h = let e : width - k ≡ 0 = omega (arith, h) in rw e refl

-- what is put at the end of a list leaves nothing behind it
end-put : (k : ℕ) (l part : List ℕ) → put_mid k (length l - k) l part ≡ take k l ++ part
end-put k l part =
    let none : drop (length l - k) (drop k l) ≡ [] = ap (λ (n : ℕ). drop n (drop k l)) (sym (length-drop k l)) ∙ drop-length (drop k l) in
    ap (λ (rest : List ℕ). take k l ++ (part ++ rest)) none ∙ ap (λ (end : List ℕ). take k l ++ end) (append-nil part)

-- the parts of a case's record and of the closing one, put over a list's first bytes
module _ (c : Case) (head start positive negative end l : List ℕ) (e₀ : head ≡ 24 ∷ 0 ∷ 4 ∷ 0 ∷ []) (e₁ : start ≡ to_le_bytes w64 c.start)
    (e₂ : positive ≡ to_le_bytes w64 c.goal.positive) (e₃ : negative ≡ to_le_bytes w64 c.goal.negative) (e₄ : end ≡ 0 ∷ 0 ∷ 5 ∷ 0 ∷ []) where
  abbrev record_put : List ℕ
  record_put = put_mid 20 8 (put_mid 12 8 (put_mid 4 8 (head ++ l) start) positive) negative

  parts-put : take 28 record_put ++ end ≡ case_record c ++ closing
  unfolding case_record pair_bytes closing record_bytes number_bytes
  parts-put = rw (e₀, e₁ ∙ number-le _, e₂ ∙ number-le _, e₃ ∙ number-le _, e₄) refl

  pub case-put : (bytes : List ℕ) (at : ℕ)
      → put_mid at (at + 32 - at) bytes (put_mid 28 (length record_put - 28) record_put end)
      ≡ take at bytes ++ (case_record c ++ closing) ++ drop (at + 32) bytes
  case-put bytes at =
      let there : at + (at + 32 - at) ≡ at + 32 = omega arith in
      ap (λ (part : List ℕ). put_mid at (at + 32 - at) bytes part) (end-put 28 record_put end ∙ parts-put)
      ∙ ap (λ (rest : List ℕ). take at bytes ++ (case_record c ++ closing ++ rest)) (drop-drop (at + 32 - at) at bytes ∙ ap (λ (n : ℕ). drop n bytes) there)
      ∙ sym (append_assoc (take at bytes) _ _)

-- one part behind another
sets-join : (xs ys l : List ℕ) (at next : ℕ) → next ≡ at + length xs → sets (sets l at xs) next ys ≡ sets l at (xs ++ ys)
sets-join [] ys l at next e = ap (λ (k : ℕ). sets l k ys) (omega (arith, e))
sets-join (x ∷ xs) ys l at next e = sets-join xs ys (set l at x) (suc at) next (omega (arith, e))

-- the parts of a case's record, each a number's bytes, and the closing one
module _ (l : List ℕ) (at : ℕ) where
  join : (xs ys m o : List ℕ) (next : ℕ) → next ≡ at + length xs → m ≡ sets l at xs → o ≡ sets m next ys → o ≡ sets l at (xs ++ ys)
  join xs ys m o next n e f = f ∙ ap (λ (k : List ℕ). sets k next ys) e ∙ sets-join xs ys l at next n

  pub records-put : (c : Case) (l₁ l₂ l₃ l₄ l₅ : List ℕ) → l₁ ≡ sets l at (number_bytes 4 0x40018) → l₂ ≡ sets l₁ (at + 4) (number_bytes 8 c.start)
      → l₃ ≡ sets l₂ (at + 12) (number_bytes 8 c.goal.positive) → l₄ ≡ sets l₃ (at + 20) (number_bytes 8 c.goal.negative)
      → l₅ ≡ sets l₄ (at + 28) (number_bytes 4 0x50000) → l₅ ≡ sets l at (case_record c ++ closing)
  unfolding case_record pair_bytes closing record_bytes number_bytes
  records-put c l₁ l₂ l₃ l₄ l₅ e₁ e₂ e₃ e₄ e₅ =
      let head = number_bytes 4 0x40018 in
      let start = number_bytes 8 c.start in
      let true = number_bytes 8 c.goal.positive in
      let false = number_bytes 8 c.goal.negative in
      let f₂ = join head start l₁ l₂ (at + 4) (omega arith) e₁ e₂ in
      let f₃ = join (head ++ start) true l₂ l₃ (at + 12) (omega arith) f₂ e₃ in
      let f₄ = join (head ++ start ++ true) false l₃ l₄ (at + 20) (omega arith) f₃ e₄ in
      join (head ++ start ++ true ++ false) (number_bytes 4 0x50000) l₄ l₅ (at + 28) (omega arith) f₄ e₅
