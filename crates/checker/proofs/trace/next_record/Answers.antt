-- `checker::trace::next_record` meets its contract: the line's bytes spell an instruction, and are those of the step's record.
-- Assumes nothing.
use Rattle.checker.proofs.Laws.Records.{line-written, line-repeated}
use Rattle.checker.specs.Plan.{kind_of}
use Rattle.checker.proofs.trace.next_record.Goals as goal

pub returns-then-lines-offset-ne0 : goal.returns-then-lines-offset-ne0
unfolding kind_of
returns-then-lines-offset-ne0 c =
    rw c.step_record.ensures (line-repeated _ _ _ _ c.requires.0 _ c.line_offset-offset.ensures _ c.triple_at-w.ensures c.if-lines-offset-ne0.true)

pub returns : goal.returns
unfolding kind_of
returns c =
    rw c.step_record-2.ensures
    (line-written _ _ _ _ c.requires.0 _ c.line_offset-offset.ensures _ c.triple_at-w.ensures c.if-lines-offset-ne0.false _ c.put_triple.ensures)
