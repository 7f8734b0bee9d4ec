-- A case from the three sets that C passes: the facts true at its start, and those that its goal has true and false.
use Rattle.std.specs.Prelude.{ℕ}
use Rattle.task.specs.declared.index.Case.{Case}

abbrev pub given_case : ℕ → ℕ → ℕ → Case
given_case start positive negative = record { start = start; goal = record { positive = positive; negative = negative } }
