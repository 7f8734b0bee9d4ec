-- The bytes of a number and of a record, and what is read where they stand in a file, both ways. A number is read from its bytes because it fits in so
-- many of them, and the bytes are those of the number that is read because each is below 256: one law for every width. And what is read in a part of a file.
-- Assumes nothing.
use Prim.Native.Nat.{ℕ, zero, suc, ◌+◌, ◌*◌, ◌/◌, ◌%◌, ◌^◌, ◌≤◌, ◌<◌}
use mathlib.Core.Path.{◌≡◌, refl, sym, ap, ◌∙◌}
use mathlib.Core.List.{List, [], ◌++◌, append-nil}
use native.Mathlib.Nat.{add-zero, add_assoc}
use native.Mathlib.Numerals.{add-one}
use native.Mathlib.Omega.{arith}
use lib.ListN.{length, take, drop, length-append, length-drop, take-append-drop}
use lib.Seq.{drop-append_seam, drop-cons, drop-drop, drop-length, get_or-drop, get_or-take, length-take-le}
use Rattle.records.specs.Numbers.{byte_at, eight_at, u16_at, u64_at, number_bytes, u16_bytes, u64_bytes}
use Rattle.records.specs.Record.{record_at, record_bytes, closing}
use Rattle.records.proofs.Laws.Numbers.{u16-there, u64-there}
use Rattle.records.proofs.Laws.Record.{found_record, record-there, record-ends}

-- what is left of a number above so many bytes
abbrev above : ℕ → ℕ → ℕ
above zero n = n
above (suc width) n = above width (n / 256)

pub length-number : (width n : ℕ) → length (number_bytes width n) ≡ width
unfolding number_bytes
length-number zero n = refl
length-number (suc width) n = ap suc (length-number width (n / 256))

module _ (bytes : List ℕ) where
  pub byte-behind : (at k : ℕ) → byte_at bytes (at + k) ≡ byte_at (drop at bytes) k
  byte-behind at k = sym (get_or-drop at bytes k 0)

  -- what stands behind bytes that stand at an offset
  pub behind : (at : ℕ) (l rest : List ℕ) → drop at bytes ≡ l ++ rest → drop (at + length l) bytes ≡ rest
  behind at l rest h = sym (drop-drop (length l) at bytes) ∙ ap (drop (length l)) h ∙ drop-append_seam l rest

  -- the number of so many bytes at an offset
  abbrev value_at : ℕ → ℕ → ℕ
  value_at zero at = 0
  value_at (suc width) at = byte_at bytes at + 256 * value_at width (at + 1)

  eight-value : (at : ℕ) → value_at 8 at ≡ eight_at bytes at
  eight-value at = simp add_assoc (omega arith)

  value_read : (width at n : ℕ) (rest : List ℕ) → drop at bytes ≡ number_bytes width n ++ rest → above width n ≡ 0 → value_at width at ≡ n
  unfolding number_bytes
  value_read zero at n rest h l = sym l
  value_read (suc width) at n rest h l =
      let first : byte_at bytes at ≡ byte_at (drop at bytes) 0 = cc (byte-behind at 0, add-zero at) in
      let low = first ∙ ap (λ (l : List ℕ). byte_at l 0) h in
      let high = value_read width (at + 1) (n / 256) rest (sym (drop-drop 1 at bytes) ∙ ap (drop 1) h) l in
      omega (arith, low, high)

  -- so many bytes from an offset on are below 256
  abbrev Small : ℕ → ℕ → Type 0
  Small at width = (k : ℕ) → k < width → byte_at bytes (at + k) < 256

  value_written : (width at : ℕ) → at + width ≤ length bytes → Small at width
      → drop at bytes ≡ number_bytes width (value_at width at) ++ drop (at + width) bytes
  unfolding number_bytes
  value_written zero at h small = cc (add-zero at)
  value_written (suc width) at h small =
      let first : byte_at bytes at < 256 = rw add-zero at (small 0 (omega arith)) in
      let rest : drop (at + 1) bytes ≡ number_bytes width (value_at width (at + 1)) ++ drop (at + 1 + width) bytes =
      value_written width (at + 1) (omega arith) (λ k l. let e : at + 1 + k ≡ at + suc k = omega arith in rw e (small (suc k) (omega arith))) in
      let value = byte_at bytes at + 256 * value_at width (at + 1) in
      let low : value % 256 ≡ byte_at bytes at = omega arith in
      let high : value / 256 ≡ value_at width (at + 1) = omega arith in
      let end : at + suc width ≡ at + 1 + width = omega arith in
      rw (low, high, end) (cc (drop-cons bytes at 0 (omega arith), add-one at, rest))

  -- bytes that stand at an offset are in the file
  number-there : (width at n : ℕ) (rest : List ℕ) → 0 < width → drop at bytes ≡ number_bytes width n ++ rest → at + width ≤ length bytes
  number-there width at n rest some h =
      omega (arith, length-drop at bytes, ap length h, length-append (number_bytes width n) rest, length-number width n)

  pub u16-read : (at n : ℕ) (rest : List ℕ) → n < 2 ^ 16 → drop at bytes ≡ u16_bytes n ++ rest → u16_at bytes at ≡ n
  u16-read at n rest l h =
      sym (u16-there bytes at n (omega (arith, value_read 2 at n rest h (omega arith))) (number-there 2 at n rest (omega arith) h))

  pub u64-read : (at n : ℕ) (rest : List ℕ) → n < 2 ^ 64 → drop at bytes ≡ u64_bytes n ++ rest → u64_at bytes at ≡ n
  u64-read at n rest l h =
      sym (u64-there bytes at n (sym (value_read 8 at n rest h (omega arith)) ∙ eight-value at) (number-there 8 at n rest (omega arith) h))

  pub u16-written : (at : ℕ) → at + 2 ≤ length bytes → Small at 2 → drop at bytes ≡ u16_bytes (u16_at bytes at) ++ drop (at + 2) bytes
  u16-written at h small =
      let e = u16-there bytes at (value_at 2 at) (omega arith) h in
      rw (← e) (value_written 2 at h small)

  pub u64-written : (at : ℕ) → at + 8 ≤ length bytes → Small at 8 → drop at bytes ≡ u64_bytes (u64_at bytes at) ++ drop (at + 8) bytes
  u64-written at h small =
      let e = u64-there bytes at (value_at 8 at) (eight-value at) h in
      rw (← e) (value_written 8 at h small)

  module _ (at kind : ℕ) where
    -- the bytes of a record are at the offset, and others behind them
    module _ (body rest : List ℕ) (h : drop at bytes ≡ record_bytes kind body ++ rest) where
      pub body-read : drop (at + 4) bytes ≡ body ++ rest
      unfolding record_bytes number_bytes
      body-read = sym (drop-drop 4 at bytes) ∙ ap (drop 4) h

      pub record-read : kind < 2 ^ 16 → length body < 2 ^ 16 → record_at bytes at ≡ found_record kind (at + 4) (length body) (at + 4 + length body)
      unfolding record_bytes number_bytes
      record-read k l =
          let size = u16-read at (length body) (u16_bytes kind ++ body ++ rest) l h in
          let there = u16-read (at + 2) kind (body ++ rest) k (sym (drop-drop 2 at bytes) ∙ ap (drop 2) h) in
          let head : at + 2 + 2 ≤ length bytes = number-there 2 (at + 2) kind (body ++ rest) (omega arith) (sym (drop-drop 2 at bytes) ∙ ap (drop 2) h) in
          sym (
          record-there bytes at kind (length body) (sym there) (sym size)
          (omega (arith, length-drop (at + 4) bytes, ap length body-read, length-append body rest))
          )

      pub rest_read : drop (at + 4 + length body) bytes ≡ rest
      rest_read = behind (at + 4) body rest body-read

    -- a record is read at the offset, and its four head bytes are below 256
    pub record-written : (start size next : ℕ) → record_at bytes at ≡ found_record kind start size next → Small at 4
        → drop at bytes ≡ record_bytes kind (take size (drop start bytes)) ++ drop next bytes
    unfolding record_bytes number_bytes
    record-written start size next h small =
        let e = record-ends bytes at kind start size next h in
        let from : at + 2 + 2 ≡ start = omega arith in
        let first = u16-written at (omega arith) (λ k l. small k (omega arith)) in
        let second = u16-written (at + 2) (omega arith) (λ k l. let f : at + 2 + k ≡ at + (2 + k) = omega arith in rw f (small (2 + k) (omega arith))) in
        cc (
          first,
          second,
          e.3,
          e.4,
          from,
          take-append-drop size (drop start bytes),
          drop-drop size start bytes,
          length-take-le size (drop start bytes) (omega (arith, length-drop start bytes)),
        )

  -- the closing record stands at the offset, and nothing behind it
  pub closing-read : (at : ℕ) → drop at bytes ≡ closing → (record_at bytes at ≡ found_record 5 (at + 4) 0 (at + 4)) × (at + 4 ≡ length bytes)
  unfolding closing record_bytes number_bytes
  closing-read at h = (
    rw add-zero at (record-read at 5 [] [] (h ∙ sym (append-nil _)) (omega arith) (omega arith)),
    omega (arith, length-drop at bytes, ap length h),
  )

  pub closing-written : (at start next : ℕ) → record_at bytes at ≡ found_record 5 start 0 next → Small at 4 → next ≡ length bytes → drop at bytes ≡ closing
  unfolding closing
  closing-written at start next found small end = record-written at 5 start 0 next found small ∙ rw (end, drop-length bytes) (append-nil _)

-- what is read in a part of a file is what stands there in the file
module _ (bytes : List ℕ) (start size : ℕ) (h : start + size ≤ length bytes) where
  abbrev part : List ℕ
  part = take size (drop start bytes)

  pub part_length : length part ≡ size
  part_length = length-take-le size (drop start bytes) (omega (arith, length-drop start bytes))

  value-part : (width at : ℕ) → at + width ≤ size → value_at part width at ≡ value_at bytes width (start + at)
  value-part zero at l = refl
  value-part (suc width) at l =
      let within : at < size = omega arith in
      let first : byte_at part at ≡ byte_at bytes (start + at) = rw (get_or-take, get_or-drop) in
      let rest = value-part width (at + 1) (omega arith) in
      let e : start + (at + 1) ≡ start + at + 1 = omega arith in
      omega (arith, first, rw e at rest)

  pub u64-part : (at : ℕ) → at + 8 ≤ size → u64_at part at ≡ u64_at bytes (start + at)
  u64-part at l =
      let same = sym (eight-value part at) ∙ value-part 8 at l ∙ eight-value bytes (start + at) in
      sym (u64-there part at _ refl (omega (arith, part_length))) ∙ u64-there bytes (start + at) _ same (omega arith)
