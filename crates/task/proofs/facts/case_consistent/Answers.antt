-- `task::facts::case_consistent` meets its contract: one greatest set serves the start and the goal.
-- Assumes nothing.
use borrow.Author.Rules.{rules}
use Rattle.task.specs.Facts.{case_consistent}
use Rattle.task.proofs.facts.case_consistent.Goals as goal

pub returns : goal.returns
unfolding case_consistent
returns c =
    let greatest = c.most-most.ensures in
    cc (greatest c.args.case.start (search rules), c.consistent_to.ensures _ greatest)
