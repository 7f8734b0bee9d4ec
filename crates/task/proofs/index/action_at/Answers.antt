-- `task::index::action_at` meets its contract: precondition and length are each read where the definition says.
-- Assumes nothing.
use native.Mathlib.Omega.{arith}
use Prim.Native.Nat.{◌/◌}
use Rattle.records.proofs.Laws.Numbers.{u16-there}
use Rattle.task.specs.Index.{action_at}
use Rattle.task.proofs.index.action_at.Goals as goal

pub returns : goal.returns
unfolding action_at
returns c =
    let a = c.args in
    let size = u16-there a.task.now a.at _ c.two_at.ensures (omega arith) in
    λ i. record { precondition = c.literals_at.ensures i; effects = size i / 32 }
