-- `task::bounds::in_range` meets its contract: the tests are the definition's.
-- Assumes nothing.
use mathlib.Core.Path.{refl}
use Rattle.task.specs.Bounds.{in_range}
use Rattle.task.proofs.bounds.in_range.Goals as goal

pub returns : goal.returns
unfolding in_range
returns c = refl
