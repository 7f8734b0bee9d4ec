-- `task::reading::ask_action` meets its contract: questions 4 and 6 decide, 6 by one pass over the body.
-- Assumes nothing.
use Prim.Native.Nat.{ℕ, ◌+◌, ◌-◌, ◌/◌, ◌≤◌}
use mathlib.Core.Path.{◌≡◌, ◌∙◌}
use mathlib.Core.List.{List}
use native.Mathlib.Omega.{arith}
use lib.ListN.{length, take, drop}
use Rattle.task.specs.Facts.{pairs_before_fault_at, pairs_before_fault}
use Rattle.task.proofs.Laws.Facts.{pairs-part}
use Rattle.task.proofs.Laws.Reading.{action-full, action-no, action-yes}
use Rattle.task.proofs.reading.ask_action.Goals as goal

-- the pass over the body counts the pairs that stand there in the file
counted : (facts : ℕ) (task : List ℕ) (body size : ℕ) → body + size ≤ length task → (r : ℕ)
    → r ≡ pairs_before_fault facts (take (body + size - body) (drop body task)) → r ≡ pairs_before_fault_at facts task body (size / 16)
counted facts task body size h r e =
    let n : body + size - body ≡ size = omega arith in
    rw n at e ∙ pairs-part facts task body size h

pub returns-then-p-ge64 : goal.returns-then-p-ge64
returns-then-p-ge64 c = λ next q. action-full _ _ _ next _ q _ c.if-p-ge64.true

pub returns-then-pairs_before_fault-size : goal.returns-then-pairs_before_fault-size
returns-then-pairs_before_fault-size c = λ next q. action-no _ _ _ next _ q _ _ c.if-p-ge64.false (counted _ _ _ _ c.requires _ c.pairs_before_fault.ensures) c.if-pairs_before_fault-size.true

pub returns : goal.returns
returns c = λ next q. action-yes _ _ _ next _ q _ _ c.if-p-ge64.false (counted _ _ _ _ c.requires _ c.pairs_before_fault.ensures) c.if-pairs_before_fault-size.false
