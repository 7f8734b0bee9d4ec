-- The questions that the checker or the writer alone asks, by their numbers.
use Rattle.std.specs.Prelude.{ℕ}

-- whether the buffer has room for the program
abbrev pub BUFFER : ℕ
BUFFER = 10

-- whether the plan's record is all there, its four head bytes and its body
abbrev pub PLAN-RECORD : ℕ
PLAN-RECORD = 11

-- whether its kind is one of a plan's
abbrev pub PLAN-KIND : ℕ
PLAN-KIND = 12

-- whether its body is as long as its kind asks
abbrev pub PLAN-LENGTH : ℕ
PLAN-LENGTH = 13

-- whether the step names a procedure below b and an instruction, not empty, that may stand on its line
abbrev pub ALLOWED : ℕ
ALLOWED = 15

-- whether there is a case left to run
abbrev pub OPEN : ℕ
OPEN = 16

-- whether the step's procedure and line are the top frame's
abbrev pub TOP : ℕ
TOP = 17

-- a write: whether its line is empty; a repeat: whether its line holds the same instruction
abbrev pub LINE : ℕ
LINE = 18

-- whether every case has come to its end
abbrev pub FINISHED : ℕ
FINISHED = 23

-- whether the closing record is the last thing in the plan
abbrev pub PLAN-CLOSED : ℕ
PLAN-CLOSED = 24

-- the writer, after the finish: whether the buffer has room for the plan
abbrev pub PLAN-BUFFER : ℕ
PLAN-BUFFER = 29
