-- A task's bounds: how many facts (F), procedures (b), the last line (n) and the most frames (m) in a byte each, and the most steps (S)
-- in two. Question 5 asks whether each is in its range.
use Rattle.std.specs.Prelude.{ℕ, ◌+◌, ◌*◌, List, Bool, ◌&&◌, leb}
use Rattle.records.specs.Numbers.{byte_at, u16_at}
use Rattle.task.specs.declared.bounds.Bounds.{Bounds}

-- the bounds whose six bytes start at an offset
unfoldable pub bounds_at : List ℕ → ℕ → Bounds
bounds_at bytes at =
    record {
      facts = byte_at bytes at;
      procedures = byte_at bytes (at + 1);
      last = byte_at bytes (at + 2);
      stack = byte_at bytes (at + 3);
      steps = u16_at bytes (at + 4);
    }

-- whether a number is from `low` to `high`
abbrev pub between : ℕ → ℕ → ℕ → Bool
between low x high = leb low x && leb x high

-- question 5
unfoldable pub in_range : Bounds → Bool
in_range b =
    between 1 b.facts 64
    && between 1 b.procedures 8
    && between 1 b.last 31
    && between 1 b.stack 16
    && between 1 b.steps 4096

-- how many lines a program has: lines 0 to n of each procedure
unfoldable pub line_count : Bounds → ℕ
line_count b = b.procedures * (b.last + 1)

-- how many bytes it has: three for each line
abbrev pub program_size : Bounds → ℕ
program_size b = 3 * line_count b
