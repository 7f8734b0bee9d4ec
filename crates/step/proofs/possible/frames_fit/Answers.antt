-- `step::possible::frames_fit` meets its contract: frame after frame is asked, each by its place.
-- Assumes nothing.
use Rattle.std.proofs.Common.{rules, tests, ◌∙◌}
use Rattle.std.proofs.lemmas.Iterator.{YieldsList-from_slice}
use Rattle.std.proofs.lemmas.Iterator.Consumers.{YieldsList-at, YieldsList-from_enumerate}
use Rattle.std.proofs.lemmas.Iterator.Search.{all_from_yields_List}
use Rattle.step.proofs.Laws.Possible.{slot_fits, slots-fit}
use Rattle.step.proofs.possible.frames_fit.Goals as goal

pub returns : goal.returns
returns c =
    let frames = c.args.position.frames in
    all_from_yields_List (slot_fits c.args.bounds c.args.position) _ _ _ c.all.ensures.ran
    (YieldsList-from_enumerate (YieldsList-at c.enumerate.ensures.source (YieldsList-from_slice frames c.iter.ensures.rest)) c.enumerate.ensures.count)
    (λ x b q k. search (rules, tests))
    ∙ slots-fit c.args.bounds c.args.position (search rules)
