-- A number in decimal, as the ASCII codes of its digits.
use Rattle.std.specs.Prelude.{ℕ, zero, suc, ◌+◌, ◌/◌, ◌%◌, List, [], ◌∷◌, ◌++◌, cond, ltb}

-- a number's digits, given that there are no more than so many: what stands before the last one, and then the last one
unfoldable pub digits : ℕ → ℕ → List ℕ
digits zero n = []
digits (suc most) n = cond (ltb n 10) [] (digits most (n / 10)) ++ (48 + n % 10) ∷ []

-- a number n in decimal: it has no more than n + 1 digits
unfoldable pub decimal : ℕ → List ℕ
decimal n = digits (suc n) n

-- a word and a number behind it
abbrev pub labelled : List ℕ → ℕ → List ℕ
labelled word n = word ++ decimal n
