-- `checker::trace::byte_of` meets its contract: the frame of the byte is the frame.
-- Assumes nothing.
use Rattle.checker.proofs.Laws.Trace.{byte_of, byte-frame}
use Rattle.checker.proofs.trace.byte_of.Goals as goal

pub returns : goal.returns
unfolding byte_of
returns c = byte-frame c.args.frame c.requires.1
