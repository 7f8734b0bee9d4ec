-- Where the parts of an action and of a case stand in a task's bytes. An action's record has a head of 4 bytes, the precondition pair
-- and then its effects, each a condition pair and an effect pair. A case's record, 28 bytes with its head, has the start set and the
-- goal pair; the cases stand one behind the other. What stands one behind the other is read as a row, by its number.
use Rattle.std.specs.Prelude.{ℕ, zero, suc, ◌+◌, ◌*◌, ◌/◌, List, [], ◌∷◌}
use Rattle.records.specs.Numbers.{u16_at, u64_at}
use Rattle.task.specs.Facts.{literals_at}
use Rattle.task.specs.declared.index.ActionFront.{ActionFront}
use Rattle.task.specs.declared.index.Case.{Case}
use Rattle.task.specs.declared.index.Effect.{Effect}

-- of a row of elements those with the numbers k, k + 1, ..., `left` of them
unfoldable pub row_from : {A : Type 0} → (ℕ → A) → ℕ → ℕ → List A
row_from element k zero = []
row_from element k (suc left) = element k ∷ row_from element (suc k) left

-- what stands before the effects of the action whose record is at an offset: its precondition, and how many effects its length of
-- 16 + 32 * e bytes holds
unfoldable pub action_at : List ℕ → ℕ → ActionFront
action_at bytes at = record { precondition = literals_at bytes (at + 4); effects = u16_at bytes at / 32 }

-- its effect number e: the condition pair, and the sets of facts raised and lowered
unfoldable pub effect_at : List ℕ → ℕ → ℕ → Effect
effect_at bytes at e =
    record {
      condition = literals_at bytes (at + (20 + 32 * e));
      raised = u64_at bytes (at + (36 + 32 * e));
      lowered = u64_at bytes (at + (44 + 32 * e));
    }

-- all its effects
unfoldable pub effects_of : List ℕ → ℕ → List Effect
effects_of bytes at = row_from (effect_at bytes at) 0 (action_at bytes at).effects

-- case number c, given the offset of the first: the facts true at its start, and its goal
unfoldable pub case_at : List ℕ → ℕ → ℕ → Case
case_at bytes first c = record { start = u64_at bytes (first + (4 + 28 * c)); goal = literals_at bytes (first + (12 + 28 * c)) }
