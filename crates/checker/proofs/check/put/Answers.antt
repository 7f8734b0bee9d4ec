-- `checker::check::put` meets its contract: what is copied to a part of the buffer changes no other byte.
-- Assumes nothing.
use Rattle.checker.proofs.Laws.Records.{put_whole}
use Rattle.checker.proofs.check.put.Goals as goal

pub returns : goal.returns
returns c = rw c.copy_from_slice.ensures.after (put_whole _ _ _)
