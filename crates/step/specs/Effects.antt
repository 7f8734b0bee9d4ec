-- What an action does, fact by fact. Every condition is tested in the state before the action, and the effects whose conditions are met
-- there fire, all at once: what one of them raises is true afterwards, even if another lowers it; any other fact that one of them lowers is
-- false; and a fact that none of them names stays as it was.
use Rattle.std.specs.Prelude.{ℕ, List, [], ◌∷◌, Bool, false, cond, not, ◌&&◌, ◌||◌}
use Rattle.task.specs.declared.index.Effect.{Effect}
use Rattle.step.specs.Facts.{has, set_of, holds}
use Rattle.step.specs.declared.effects.Changes.{Changes}

-- the effects that fire: those whose conditions hold in the state
unfoldable pub fired : ℕ → List Effect → List Effect
fired state [] = []
fired state (e ∷ rest) = cond (holds state e.condition) (e ∷ fired state rest) (fired state rest)

-- whether one of some effects has a fact in its raised set, or in its lowered set, as `part` says
unfoldable pub some_has : (Effect → ℕ) → List Effect → ℕ → Bool
some_has part [] f = false
some_has part (e ∷ rest) f = has (part e) f || some_has part rest f

-- the facts that the fired effects raise, and those that they lower
unfoldable pub changes_of : ℕ → List Effect → Changes
changes_of state effects =
    record {
      raised = set_of 64 (some_has (λ e. e.raised) (fired state effects));
      lowered = set_of 64 (some_has (λ e. e.lowered) (fired state effects));
    }

-- whether a fact is true afterwards: it is raised, or it was true and is not lowered
unfoldable pub true_after : ℕ → Changes → ℕ → Bool
true_after state c f = has c.raised f || (has state f && not (has c.lowered f))

-- the state afterwards
unfoldable pub changed : ℕ → Changes → ℕ
changed state c = set_of 64 (true_after state c)
