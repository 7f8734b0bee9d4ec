-- `task::index::case_at` meets its contract: start and goal are each read where the definition says.
-- Assumes nothing.
use Prim.Native.Nat.{◌+◌, ◌*◌}
use mathlib.Core.Path.{◌≡◌, ap, ◌∙◌}
use native.Mathlib.Omega.{arith}
use Rattle.task.specs.Facts.{literals_at}
use Rattle.task.specs.Index.{case_at}
use Rattle.task.proofs.index.case_at.Goals as goal

pub returns : goal.returns
unfolding case_at
returns c =
    let a = c.args in
    let e : a.first + (4 + 28 * a.number) + 8 ≡ a.first + (12 + 28 * a.number) = omega arith in
    λ i. record { start = c.case_body_at.ensures.0 i; goal = (c.case_body_at.ensures.1 ∙ ap (literals_at a.task.now) e) i }
