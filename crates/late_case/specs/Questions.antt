-- The questions that a late case alone asks, by their numbers.
use Rattle.std.specs.Prelude.{ℕ}

-- whether the run is not finished
abbrev pub UNFINISHED : ℕ
UNFINISHED = 32

-- whether the task has fewer than 32 cases
abbrev pub CASES : ℕ
CASES = 33

-- whether the buffer has 28 bytes to spare
abbrev pub ROOM : ℕ
ROOM = 34
