-- `capi::pp_add_case` meets its contract: the value of a late case's answer is small.
-- Assumes nothing.
use native.Mathlib.Omega.{arith}
use Rattle.records.specs.Numbers.{AreBytes}
use Rattle.capi.proofs.Laws.Small.{add_small}
use Rattle.capi.proofs.pp_add_case.Goals as goal

pub packed-requires : goal.packed-requires
packed-requires c =
    let bytes : AreBytes c.args.buffer.now = λ at. grind arith in
    rw c.add_case.ensures.0 (add_small _ bytes _ _ _)
