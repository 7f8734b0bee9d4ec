-- Fact sets and literals. A fact set is a number of 8 bytes in which bit f says whether fact f is in it. A pair of them states literals:
-- the first has the facts that are to be true, the second those that are to be false. Question 6 is about the sets and pairs of a task.
use Rattle.std.specs.Prelude.{ℕ, ◌+◌, ◌*◌, ◌/◌, ◌^◌, ◌<◌, ◌≡◌, List, Bool, ◌&&◌, leb, ltb, eqb, length}
use Rattle.std.specs.Int.Bits.{bit_and}
use Rattle.records.specs.Numbers.{u64_at}
use Rattle.task.specs.First.{first_no}
use Rattle.task.specs.declared.facts.Literals.{Literals}

-- the pair whose 16 bytes start at an offset
unfoldable pub literals_at : List ℕ → ℕ → Literals
literals_at bytes at = record { positive = u64_at bytes at; negative = u64_at bytes (at + 8) }

-- whether a set has facts below `facts` alone
unfoldable pub within : ℕ → ℕ → Bool
within facts set = ltb set (2 ^ facts)

-- the greatest set of facts below `facts`: a set has such facts alone exactly if it is no greater
abbrev pub Greatest : ℕ → ℕ → Type 0
Greatest facts most = (set : ℕ) → set < 2 ^ 64 → leb set most ≡ within facts set

-- question 6 on one pair: both sets have facts below `facts` alone, and no fact is in both
unfoldable pub consistent : ℕ → Literals → Bool
consistent facts l = within facts l.positive && within facts l.negative && eqb (bit_and l.positive l.negative) 0

-- question 6 on a case: its start has facts below `facts` alone, and its goal passes as a pair
unfoldable pub case_consistent : ℕ → ℕ → Literals → Bool
case_consistent facts start goal = within facts start && consistent facts goal

-- question 6 on the pair number k of those laid end to end from an offset
unfoldable pub pair_consistent : ℕ → List ℕ → ℕ → ℕ → Bool
pair_consistent facts bytes at k = consistent facts (literals_at bytes (at + 16 * k))

-- of `count` such pairs, how many stand before the first that fails question 6; `count` where none does
unfoldable pub pairs_before_fault_at : ℕ → List ℕ → ℕ → ℕ → ℕ
pairs_before_fault_at facts bytes at count = first_no (pair_consistent facts bytes at) count

-- how many pairs of an action's body, in file order, stand before the first that fails question 6; fewer than 16 bytes at its end are no pair
unfoldable pub pairs_before_fault : ℕ → List ℕ → ℕ
pairs_before_fault facts body = pairs_before_fault_at facts body 0 (length body / 16)
