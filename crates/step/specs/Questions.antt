-- The questions that a run asks, by their numbers; 20 has its name still, and nothing asks it.
use Rattle.std.specs.Prelude.{ℕ}

-- whether the number of steps made is still below S
abbrev pub STEPS : ℕ
STEPS = 14

-- act: whether its precondition is met
abbrev pub PRECONDITION : ℕ
PRECONDITION = 19

-- never answered: a fact that is both raised and lowered is true
abbrev pub CLASH : ℕ
CLASH = 20

-- call: whether the stack has room below m frames
abbrev pub STACK : ℕ
STACK = 21

-- end with one frame: whether the case's goal is met
abbrev pub GOAL : ℕ
GOAL = 22

-- whether there is something other than empty on the line
abbrev pub EMPTY : ℕ
EMPTY = 28

-- whether this can be a position of the task
abbrev pub POSSIBLE : ℕ
POSSIBLE = 31
