-- `task::index::effect_at` meets its contract: condition, raised and lowered are each read where the definition says.
-- Assumes nothing.
use Prim.Native.Nat.{◌+◌, ◌*◌}
use mathlib.Core.Path.{◌≡◌}
use native.Mathlib.Omega.{arith}
use Rattle.task.specs.Facts.{literals_at}
use Rattle.task.specs.Index.{effect_at}
use Rattle.task.proofs.index.effect_at.Goals as goal

pub returns : goal.returns
unfolding effect_at literals_at
returns c =
    let a = c.args in
    let behind : a.at + (36 + 32 * a.number) + 8 ≡ a.at + (44 + 32 * a.number) = omega arith in
    let changes = rw behind at c.literals_at-changes.ensures in
    λ i. record { condition = c.literals_at.ensures i; raised = (changes i).positive; lowered = (changes i).negative }
