-- `task::bounds::bounds_at` meets its contract: each byte is the one that the definition names.
-- Assumes nothing.
use Prim.Native.Nat.{◌+◌}
use native.Mathlib.Omega.{arith}
use Rattle.records.proofs.Laws.Numbers.{u16-there}
use Rattle.task.specs.Bounds.{bounds_at}
use Rattle.task.proofs.bounds.bounds_at.Goals as goal

pub returns : goal.returns
unfolding bounds_at
returns c =
    let a = c.args in
    rw (u16-there a.bytes.now (a.at + 4) _ c.two_at.ensures (omega arith))
