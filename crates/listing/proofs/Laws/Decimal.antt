-- A number in decimal is what std prints of it: the same digits, the last one put behind those before it.
-- Assumes nothing.
use Prim.Native.Nat.{ℕ, suc, ◌^◌, ◌<◌}
use mathlib.Core.Path.{◌≡◌}
use borrow.Author.Tests.{lt-ltb, le-ltb}
use native.Mathlib.Nat.{mod-eq_of_lt}
use native.Mathlib.Omega.{arith}
use Rattle.std.proofs.lemmas.Fmt.{AppendsLastDigit, decimal_from_appends, length-decimal-le_succ}
use Rattle.std.specs.Fmt as std
use Rattle.listing.specs.Decimal.{digits, decimal}

appends : AppendsLastDigit digits
unfolding digits
appends = record { one = λ k n h. simp (lt-ltb _ _ h, mod-eq_of_lt h); more = λ k n h. simp (le-ltb _ _ h) }

pub decimal_is_std : (n : ℕ) → n < 2 ^ 64 → decimal n ≡ std.decimal n
unfolding decimal
decimal_is_std n h = decimal_from_appends digits appends (suc n) n h (omega (arith, length-decimal-le_succ n h))
