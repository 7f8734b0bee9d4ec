-- `step::held::HeldTask::new` meets its contract: a task that passed has all that a held task has.
-- Assumes nothing.
use Rattle.step.proofs.Laws.Ready.{read-held}
use Rattle.step.proofs.held.HeldTask.new.Goals as goal

pub invariant_of-result : goal.invariant_of-result
invariant_of-result c = record { held = read-held _ _ c.requires }
