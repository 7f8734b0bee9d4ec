-- The questions about a task file and a program, by their numbers.
use Rattle.std.specs.Prelude.{ℕ}

-- whether the record is all there, its four head bytes and its body
abbrev pub WHOLE : ℕ
WHOLE = 1

-- whether a record of this kind can come here
abbrev pub KIND : ℕ
KIND = 2

-- whether its body is as long as its kind asks
abbrev pub LENGTH : ℕ
LENGTH = 3

-- whether, with this record, the actions are at most 64 and the cases at most 32
abbrev pub COUNT : ℕ
COUNT = 4

-- whether every bound is in its range
abbrev pub BOUNDS : ℕ
BOUNDS = 5

-- whether all facts are below F, and none is on both sides of a pair
abbrev pub SETS : ℕ
SETS = 6

-- whether the preset names a procedure below b and an instruction, not empty, that may stand on its line
abbrev pub PRESET : ℕ
PRESET = 7

-- whether the line is preset for the first time
abbrev pub REPEATED : ℕ
REPEATED = 8

-- whether the closing record is the last thing in the file
abbrev pub CLOSED : ℕ
CLOSED = 9

-- whether the program has as many bytes as its lines take, no more and no fewer
abbrev pub PROGRAM-LENGTH : ℕ
PROGRAM-LENGTH = 25

-- whether each line's instruction may stand there, or is empty
abbrev pub PROGRAM-LINES : ℕ
PROGRAM-LINES = 26

-- whether each preset line holds what was preset
abbrev pub PROGRAM-PRESETS : ℕ
PROGRAM-PRESETS = 27
