-- A caller's run record beside the writer: from the first case's start, as many single steps as the writer answers are made, one after the other, and reach the
-- finish.
use Rattle.std.specs.Prelude.{ℕ, zero, suc, ◌<◌, ◌≡◌, List}
use Rattle.task.specs.Index.{case_at}
use Rattle.task.specs.Reading.{read_task}
use Rattle.task.specs.Verdict.{Accepted}
use Rattle.step.specs.Position.{starting}
use Rattle.step.specs.Single.{single_step}
use Rattle.step.specs.declared.position.Position.{Position}
use Rattle.checker.specs.Write.{write}

-- the record after k turns
unfoldable pub repeated : (Position → Position) → ℕ → Position → Position
repeated turn zero s = s
repeated turn (suc k) s = repeated turn k (turn s)

module _ (bytes program : List ℕ) where
  -- the record after k single steps from another
  abbrev pub steps_on : ℕ → Position → Position
  steps_on = repeated (λ r. (single_step bytes program r).position)

  -- the record after so many single steps; a fresh one is at the first case's start
  unfoldable pub record_after : ℕ → Position
  record_after zero = starting 0 (case_at bytes (read_task bytes).layout.index.first 0).start
  record_after (suc j) = (single_step bytes program (record_after j)).position

  -- each of k single steps from there is made
  abbrev pub AllMade : ℕ → Type 0
  AllMade k = (j : ℕ) → j < k → (single_step bytes program (record_after j)).verdict ≡ Accepted 1

  -- they reach the finish: all cases, no frame, k steps done
  pub record Reaches (k : ℕ) : Type 0 where
    pub made : AllMade k
    pub case : (record_after k).case ≡ (read_task bytes).layout.index.cases
    pub depth : (record_after k).depth ≡ 0
    pub steps : (record_after k).steps ≡ k

-- if the writer accepts with k, whatever the buffer, k single steps reach the finish
abbrev pub SingleStepsReach : Type 0
SingleStepsReach = (bytes program buffer : List ℕ) (k : ℕ) → (write bytes program buffer).verdict ≡ Accepted k → Reaches bytes program k
