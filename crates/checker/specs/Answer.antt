-- What the checker and the writer answer: a verdict, and the buffer that was lent. One that accepts has filled the buffer's first bytes; a
-- refusal leaves the buffer as it was.
use Rattle.std.specs.Prelude.{ℕ, List, ◌++◌, take, drop}
use Rattle.task.specs.Verdict.{Verdict, Accepted, Refused}

-- a verdict, and the buffer afterwards
pub record Answer : Type 0 where
  pub verdict : Verdict
  pub buffer : List ℕ

-- what a plan or a program comes to, before it is put into the buffer: the question that says no and its place, or the number of steps and the
-- bytes that they lead to
pub data Outcome : Type 0 where
  refused : ℕ → ℕ → Outcome
  accepted : ℕ → List ℕ → Outcome

-- what follows a verdict: the rest if it accepts; a refusal is the outcome
unfoldable pub passing : Verdict → Outcome → Outcome
passing (Accepted value) rest = rest
passing (Refused question place) rest = refused question place

-- the first so many bytes are those given, and the others keep their value
unfoldable pub filled : ℕ → List ℕ → List ℕ → List ℕ
filled size bytes buffer = take size bytes ++ drop size buffer

-- the answer, given how many bytes of the buffer are to be filled
unfoldable pub answer : ℕ → List ℕ → Outcome → Answer
answer size buffer (refused question place) = record { verdict = Refused question place; buffer = buffer }
answer size buffer (accepted steps bytes) = record { verdict = Accepted steps; buffer = filled size bytes buffer }
