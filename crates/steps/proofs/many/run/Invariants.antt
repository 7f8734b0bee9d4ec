-- `steps::many::run` meets its contract: the head over its frames is the position that as many single steps reach as are made.
-- Assumes nothing.
use Rattle.std.proofs.Common.{◌≡◌, None}
use Rattle.steps.proofs.Laws.Running.{Reached}
use Rattle.steps.proofs.many.run.Given as goal

abbrev pub invariant-loop : goal.invariant-loop
invariant-loop l =
    record {
      reached : Reached l.task.bytes.now l.task.index l.program l.first l.wanted l.counter l.head l.frames;
      none : l.refusal ≡ None;
    }
