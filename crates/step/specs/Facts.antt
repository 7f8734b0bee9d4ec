-- Facts and literals, fact by fact. A fact set is a number of 64 bits in which bit f says whether fact f is in it; a state is the set
-- of the facts that are true.
use Rattle.std.specs.Prelude.{ℕ, zero, suc, ◌+◌, ◌/◌, ◌%◌, ◌^◌, Bool, true, cond, not, ◌&&◌, ◌||◌, eqb}
use Rattle.task.specs.declared.facts.Literals.{Literals}

-- whether a set has a fact
unfoldable pub has : ℕ → ℕ → Bool
has s f = eqb (s / 2 ^ f % 2) 1

-- the set of those of the first so many facts at which a test says yes
unfoldable pub set_of : ℕ → (ℕ → Bool) → ℕ
set_of zero test = 0
set_of (suc n) test = set_of n test + cond (test n) (2 ^ n) 0

-- whether a test says yes at each of the first so many places
unfoldable pub every : ℕ → (ℕ → Bool) → Bool
every zero test = true
every (suc n) test = every n test && test n

-- whether what a pair says of a fact is so in a state: true if it must be true, false if it must be false
unfoldable pub agrees : ℕ → Literals → ℕ → Bool
agrees state l f = (not (has l.positive f) || has state f) && (not (has l.negative f) || not (has state f))

-- a condition holds when this is so of every fact
unfoldable pub holds : ℕ → Literals → Bool
holds state l = every 64 (agrees state l)
