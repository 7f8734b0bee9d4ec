-- What a byte or a number at an offset is, by whether its bytes are all there: one law for every width.
-- Assumes nothing.
use Prim.Native.Nat.{ℕ, zero, suc, ◌+◌, ◌≤◌}
use mathlib.Core.Path.{◌≡◌, refl, sym, ◌∙◌}
use mathlib.Core.List.{List}
use lib.ListN.{length, replicate, get_or-eq_default}
use borrow.Author.Tests.{le-leb}
use Rattle.records.specs.Numbers.{byte_at, two_at, eight_at, if_there, u16_at, u64_at}

pub byte-missing : (bytes : List ℕ) (at : ℕ) → length bytes ≤ at → 0 ≡ byte_at bytes at
byte-missing bytes at h = sym (get_or-eq_default bytes 0 h)

-- every byte of a list of zeros is 0, there or not
pub zero-at : (n at : ℕ) → byte_at (replicate n 0) at ≡ 0
zero-at zero at = refl
zero-at (suc n) zero = refl
zero-at (suc n) (suc at) = zero-at n at

module _ (width : ℕ) (bytes : List ℕ) (at value : ℕ) where
  pub there : at + width ≤ length bytes → value ≡ if_there width bytes at value
  unfolding if_there
  there h = simp (le-leb _ _ h)

-- a number read where its bytes are all there
pub u16-there : (bytes : List ℕ) (at value : ℕ) → value ≡ two_at bytes at → at + 2 ≤ length bytes → value ≡ u16_at bytes at
unfolding u16_at
u16-there bytes at value e h = e ∙ there 2 bytes at _ h

pub u64-there : (bytes : List ℕ) (at value : ℕ) → value ≡ eight_at bytes at → at + 8 ≤ length bytes → value ≡ u64_at bytes at
unfolding u64_at
u64-there bytes at value e h = e ∙ there 8 bytes at _ h
