-- The first place at which a test says no.
use Rattle.std.specs.Prelude.{ℕ, zero, suc, Bool, cond}

-- of the `left` places from `k` on, the first at which the test says no; `k + left` where none does
unfoldable pub first_no_from : (ℕ → Bool) → ℕ → ℕ → ℕ
first_no_from test k zero = k
first_no_from test k (suc left) = cond (test k) (first_no_from test (suc k) left) k

-- how many of the places 0, 1, ..., `count` - 1 stand before the first at which the test says no; `count` where none does
unfoldable pub first_no : (ℕ → Bool) → ℕ → ℕ
first_no test count = first_no_from test 0 count
