-- Two tests that hold together hold each; a choice by a test, by its answer, and what both its branches have.
-- Assumes nothing.
use mathlib.Core.Path.{◌≡◌, refl}
use mathlib.Core.Bool.{Bool, true, false, false≢true, cond, ◌&&◌}

pub both_true : (a b : Bool) → (a && b) ≡ true → (a ≡ true) × (b ≡ true)
both_true true b h = (refl, h)
both_true false b h = absurd (false≢true h)

-- what both branches of a choice have, the choice has
pub cond_either : {A : Type 0} (P : A → Type 0) (b : Bool) (x y : A) → (b ≡ true → P x) → (b ≡ false → P y) → P (cond b x y)
cond_either P true x y h k = h refl
cond_either P false x y h k = k refl

module _ {A : Type 0} (b t : Bool) (x y : A) (e : t ≡ b) where
  pub cond_yes : t ≡ true → x ≡ cond b x y
  cond_yes h = rw (← e, h)

  pub cond_no : t ≡ false → y ≡ cond b x y
  cond_no h = rw (← e, h)
