-- `step::possible::possible` meets its contract: it is the conjunction of its tests.
-- Assumes nothing.
use mathlib.Core.Bool.{◌&&◌}
use lib.Dec.{leb}
use Rattle.step.specs.Possible.{possible}
use Rattle.step.proofs.Laws.Possible.{depth-tests}
use Rattle.step.proofs.possible.possible.Goals as goal

pub returns : goal.returns
unfolding possible
returns c =
    let args = c.args in
    λ i.
    depth-tests args.index args.position
    (leb args.position.case args.index.cases
    && c.within.ensures i
    && leb args.position.steps args.index.bounds.steps) i
    && c.frames_fit.ensures i
