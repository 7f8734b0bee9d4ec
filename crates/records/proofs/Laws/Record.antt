-- What the record at an offset is, by which of its bytes are there; and that a whole record ends in the file, after its head.
-- Assumes nothing.
use Prim.Native.Nat.{ℕ, ◌+◌, ◌≤◌, ◌<◌}
use mathlib.Core.Path.{◌≡◌, refl, ap}
use mathlib.Core.Bool.{Bool, true, false, cond}
use mathlib.Core.List.{List}
use lib.ListN.{length}
use lib.Dec.{leb}
use native.Mathlib.Omega.{arith}
use borrow.Author.Tests.{le-leb, lt-leb, leb-true}
use Rattle.records.proofs.Laws.Tests.{both_true}
use Rattle.records.specs.Numbers.{u16_at}
use Rattle.records.specs.Record.{whole, record_at}
use Rattle.records.specs.declared.record.Record.{Record}
use Rattle.std.specs.Prelude.{Option, Some, None}

-- a record that is all there, by its four parts
abbrev pub found_record : ℕ → ℕ → ℕ → ℕ → Option Record
found_record kind body size next = Some (record { kind = kind; body = body; length = size; next = next })

-- a part of a record that is there
abbrev part : (Record → ℕ) → Option Record → ℕ
part f (Some r) = f r
part f None = 0

module _ (bytes : List ℕ) (at : ℕ) where
  pub head-missing : length bytes < at + 4 → None ≡ record_at bytes at
  unfolding record_at whole
  head-missing h = simp (lt-leb _ _ h)

  pub body-missing : at + 4 ≤ length bytes → length bytes < at + 4 + u16_at bytes at → None ≡ record_at bytes at
  unfolding record_at whole
  body-missing h k = simp (le-leb _ _ h, lt-leb _ _ k)

  pub record-there : (kind size : ℕ) → kind ≡ u16_at bytes (at + 2) → size ≡ u16_at bytes at → at + 4 + size ≤ length bytes
      → found_record kind (at + 4) size (at + 4 + size) ≡ record_at bytes at
  unfolding record_at whole
  record-there kind size k s h =
      rw (k, s) (simp (le-leb _ _ fits.0, le-leb _ _ fits.1))
    where
      fits : (at + 4 ≤ length bytes) × (at + 4 + u16_at bytes at ≤ length bytes)
      fits = omega arith

module _ (bytes : List ℕ) (at kind start size next : ℕ) where
  ends : (t : Bool) → whole bytes at ≡ t
      → cond t (found_record (u16_at bytes (at + 2)) (at + 4) (u16_at bytes at) (at + 4 + u16_at bytes at)) None ≡ found_record kind start size next
      → (start ≡ at + 4) × (next ≡ start + size) × (next ≤ length bytes) × (size ≡ u16_at bytes at) × (kind ≡ u16_at bytes (at + 2))
  unfolding whole
  ends true w e =
      let f : at + 4 ≡ start = ap (part (λ r. r.body)) e in
      let g : u16_at bytes at ≡ size = ap (part (λ r. r.length)) e in
      let h : at + 4 + u16_at bytes at ≡ next = ap (part (λ r. r.next)) e in
      let k : u16_at bytes (at + 2) ≡ kind = ap (part (λ r. r.kind)) e in
      omega (arith, leb-true (at + 4 + u16_at bytes at) (length bytes) (both_true (leb (at + 4) (length bytes)) _ w).1)
  ends false w e = let z : ◌≡◌ {A = ℕ} 0 1 = cc in absurd (omega arith)

  -- a whole record starts after its head, which has its length and its kind, and the next one begins where its body ends, within the file
  pub record-ends : record_at bytes at ≡ found_record kind start size next
      → (start ≡ at + 4) × (next ≡ start + size) × (next ≤ length bytes) × (size ≡ u16_at bytes at) × (kind ≡ u16_at bytes (at + 2))
  unfolding record_at
  record-ends e = ends (whole bytes at) refl e
