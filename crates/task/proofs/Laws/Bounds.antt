-- A program's lines, and where they begin, are numbers that a word can hold: the bounds are bytes. And what question 5 says of each bound, and so of a program's length.
-- Assumes nothing.
use Prim.Native.Nat.{ℕ, ◌+◌, ◌*◌, ◌^◌, ◌≤◌, ◌<◌}
use mathlib.Core.Path.{◌≡◌}
use mathlib.Core.Bool.{true, ◌&&◌}
use native.Mathlib.Nat.{mul-le-mul, lt_of_le_of_lt, lt_of_lt_of_le}
use lib.Dec.{lit<, leb}
use lib.Pow.{pow_mono}
use native.Mathlib.Omega.{arith}
use borrow.Author.Tests.{leb-true}
use Rattle.records.proofs.Laws.Tests.{both_true}
use Rattle.task.specs.Bounds.{between, in_range}
use Rattle.task.specs.Program.{line_offset}
use Rattle.task.specs.declared.bounds.Bounds.{Bounds}
use Rattle.task.specs.declared.instruction.Line.{Line}
use Rattle.task.specs.declared.instruction.Proc.{Proc}

module _ (procedure last : ℕ) (h : procedure < 256) (k : last < 256) where
  few : procedure * (last + 1) ≤ 65280
  few = mul-le-mul {n₂ = 255} {m₂ = 256} (omega arith) (omega arith)

  pub lines_fit : (bits : ℕ) → 16 ≤ bits → procedure * (last + 1) < 2 ^ bits
  lines_fit bits wide = lt_of_le_of_lt few (lt_of_lt_of_le (lit< tt) (pow_mono wide))

  pub line-fits : (line : ℕ) → line < 256 → procedure * (last + 1) + line < 2 ^ 64
  line-fits line l = omega (arith, few)

  pub offset-fits : (line : ℕ) → line < 256 → 3 * (procedure * (last + 1) + line) < 2 ^ 64
  offset-fits line l = omega (arith, few)

pub between-true : (low x high : ℕ) → between low x high ≡ true → (low ≤ x) × (x ≤ high)
between-true low x high h =
    let k = both_true (leb low x) (leb x high) h in
    (leb-true low x k.0, leb-true x high k.1)

-- bounds that are in their ranges
pub record Ranges (b : Bounds) : Type 0 where
  pub facts : (1 ≤ b.facts) × (b.facts ≤ 64)
  pub procedures : (1 ≤ b.procedures) × (b.procedures ≤ 8)
  pub last : (1 ≤ b.last) × (b.last ≤ 31)
  pub stack : (1 ≤ b.stack) × (b.stack ≤ 16)
  pub steps : (1 ≤ b.steps) × (b.steps ≤ 4096)

pub ranges : (b : Bounds) → in_range b ≡ true → Ranges b
unfolding in_range
ranges b h =
    let f = between 1 b.facts 64 in
    let p = between 1 b.procedures 8 in
    let l = between 1 b.last 31 in
    let t = between 1 b.stack 16 in
    let h₅ = both_true (f && p && l && t) (between 1 b.steps 4096) h in
    let h₄ = both_true (f && p && l) t h₅.0 in
    let h₃ = both_true (f && p) l h₄.0 in
    let h₂ = both_true f p h₃.0 in
    record {
      facts = between-true 1 b.facts 64 h₂.0;
      procedures = between-true 1 b.procedures 8 h₂.1;
      last = between-true 1 b.last 31 h₃.1;
      stack = between-true 1 b.stack 16 h₄.1;
      steps = between-true 1 b.steps 4096 h₅.1;
    }

-- a line of a procedure is in a program of 768 bytes
pub line-within : (b : Bounds) (procedure : Proc) (line : Line) → in_range b ≡ true → procedure.0 < b.procedures → line.0 ≤ b.last
    → line_offset b procedure line + 3 ≤ 768
unfolding line_offset
line-within b procedure line h k l =
    let r = ranges b h in
    let m : procedure.0 * (b.last + 1) ≤ 224 = mul-le-mul {n₂ = 7} {m₂ = 32} (omega arith) (omega arith) in
    omega arith
