-- `records::record::record_at` meets its contract: the tests say whether head and body are all there.
-- Assumes nothing.
use native.Mathlib.Omega.{arith}
use Prim.Native.Nat.{◌+◌}
use Rattle.records.proofs.Laws.Numbers.{u16-there}
use Rattle.records.proofs.Laws.Record.{head-missing, body-missing, record-there}
use Rattle.records.proofs.record.record_at.Goals as goal

pub returns-then-bytes-lt4 : goal.returns-then-bytes-lt4
returns-then-bytes-lt4 c = head-missing _ _ (omega arith)

pub returns-then-bytes-at : goal.returns-then-bytes-at
returns-then-bytes-at c = head-missing _ _ (omega arith)

pub returns-then-bytes-body : goal.returns-then-bytes-body
returns-then-bytes-body c =
    let a = c.args in
    let size = u16-there a.bytes.now a.at _ c.two_at-length.ensures (omega arith) in
    body-missing _ _ (omega arith) (omega arith)

pub returns : goal.returns
returns c =
    let a = c.args in
    let kind = u16-there a.bytes.now (a.at + 2) _ c.two_at-kind.ensures (omega arith) in
    let size = u16-there a.bytes.now a.at _ c.two_at-length.ensures (omega arith) in
    record-there _ _ _ _ kind size (omega arith)
