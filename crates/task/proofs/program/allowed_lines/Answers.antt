-- `task::program::allowed_lines` meets its contract: it is the search for the first line that is not allowed. The line's number in its
-- procedure is counted along.
-- Assumes nothing.
use mathlib.Core.Path.{sym, ◌∙◌}
use native.Mathlib.Nat.{mod-eq_of_lt}
use native.Mathlib.Omega.{arith}
use Rattle.task.proofs.Laws.First.{searching, found-yes, found-no, all_passed}
use Rattle.task.proofs.Laws.Program.{line-next, line-again, line-test}
use Rattle.task.proofs.program.allowed_lines.Goals as goal
use Rattle.task.proofs.program.allowed_lines.Goals.{then-line-index, else-line-index}

pub loop-k-init : goal.loop-k-init
loop-k-init c = (searching _ _, sym (mod-eq_of_lt (omega arith)))

pub loop-k-preserved : goal.loop-k-preserved
loop-k-preserved c = (
  found-yes _ _ _ c.loop-k.invariant.0 c.loop-k-test.true
      (line-test _ _ _ _ _ _ _ c.loop-k.invariant.1 c.triple_at-w.ensures c.decodes.ensures c.if-not-decodes.false),
  elim c.if-line-index.branch [
    | then-line-index w ↦ w.line-is ∙ line-next _ _ _ c.loop-k.invariant.1 w.if-line-index.true
    | else-line-index w ↦ w.line-is ∙ line-again _ _ _ c.loop-k.invariant.1 w.if-line-index.false
  ],
)

pub returns-then-not-decodes : goal.returns-then-not-decodes
returns-then-not-decodes c =
    found-no _ _ _ c.loop-k.invariant.0 c.loop-k-test.true
    (line-test _ _ _ _ _ _ _ c.loop-k.invariant.1 c.triple_at-w.ensures c.decodes.ensures c.if-not-decodes.true)

pub returns : goal.returns
returns c = all_passed _ _ _ c.loop-k.invariant.0 c.loop-k-test.false
