-- `task::program::held_presets` meets its contract: it is the search for the first preset line that does not hold its preset.
-- Assumes nothing.
use Rattle.std.proofs.Common.{rules}
use Rattle.task.proofs.Laws.First.{found-at}
use Rattle.task.proofs.program.held_presets.Goals as goal

pub returns : goal.returns
returns c =
    let e = c.first_no.ensures in
    found-at _ _ _ e.within (λ k h. let b = e.before k h in search rules) (λ h. let f = e.found h in search rules)
