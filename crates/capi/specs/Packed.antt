-- An answer as one number of 64 bits: its number in the upper half, its value in the lower. Laws `place-small`, `plan-small`,
-- `write-small`, `step_small` and `add_small` have the values of a task's, a plan's, a program's, a single step's and a late case's answer below 2 ^ 32.
-- The answer to a number of steps has three parts: its number in the upper 16 bits, the steps made in the next 16, and its place, below 2 ^ 32 by law
-- `steps-small`, in the lower half.
use Rattle.std.specs.Prelude.{ℕ, ◌+◌, ◌*◌, ◌^◌}
use Rattle.task.specs.Verdict.{number_of, value_of, Verdict, Accepted, Refused}
use Rattle.steps.specs.Many.{StepsAnswer}

unfoldable pub packed : Verdict → ℕ
packed v = number_of v * 2 ^ 32 + value_of v

-- a refusal's place; an acceptance has 0
abbrev pub place_of : Verdict → ℕ
place_of (Accepted value) = 0
place_of (Refused question place) = place

unfoldable pub packed_steps : StepsAnswer → ℕ
packed_steps a = number_of a.verdict * 2 ^ 48 + a.made * 2 ^ 32 + place_of a.verdict
