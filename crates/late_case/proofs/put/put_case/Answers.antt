-- `late_case::put::put_case` meets its contract: the parts of the two records are put one behind the other.
-- Assumes nothing.
use mathlib.Core.Path.{◌∙◌}
use Rattle.late_case.proofs.Laws.Put.{case-put}
use Rattle.late_case.proofs.put.put_case.Goals as goal

pub returns : goal.returns
returns c =
    case-put c.args.case _ _ _ _ _ _ c.copy_from_slice.ensures.after (c.copy_from_slice-2.ensures.after ∙ c.to_le_bytes.ensures)
    (c.copy_from_slice-3.ensures.after ∙ c.to_le_bytes-2.ensures)
    (c.copy_from_slice-4.ensures.after ∙ c.to_le_bytes-3.ensures) c.copy_from_slice-5.ensures.after c.args.bytes.now c.args.at
