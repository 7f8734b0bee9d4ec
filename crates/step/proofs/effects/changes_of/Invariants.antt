-- `step::effects::changes_of` meets its contract: effect by effect the words come to have what the fired effects have.
-- Assumes nothing.
use Rattle.task.specs.declared.index.Effect.{Effect}
use Rattle.step.proofs.Laws.Effects.{Walked}
use Rattle.step.proofs.effects.changes_of.Given as goal

abbrev pub invariant-loop-e : goal.invariant-loop-e
invariant-loop-e l = Walked l.task l.at l.state l.effects (λ (x : Effect). x.raised) l.e l.raised × Walked l.task l.at l.state l.effects (λ (x : Effect). x.lowered) l.e l.lowered
