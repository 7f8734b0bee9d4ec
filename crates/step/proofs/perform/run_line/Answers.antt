-- `step::perform::run_line` meets its contract: the questions of the line's instruction decide, and then the head moves.
-- Assumes nothing.
use native.Mathlib.Omega.{arith}
use Rattle.std.proofs.lemmas.Result.{err_from_is_err_and}
use Rattle.task.proofs.Laws.Bounds.{ranges}
use Rattle.step.proofs.Laws.Moved.{line-stops, line-few, line-goes}
use Rattle.step.proofs.Laws.Ready.{open-depth, head-case, head-line, head-known, head-fits}
use Rattle.step.proofs.perform.run_line.Goals as goal

pub of-head-requires : goal.of-head-requires
of-head-requires c = open-depth _ c.args.position c.requires.standing

pub line_instruction-w-requires : goal.line_instruction-w-requires
line_instruction-w-requires c = head-line _ c.args.position _ c.requires _ c.of-head.ensures

pub ask-requires : goal.ask-requires
ask-requires c = (
  head-case _ c.args.position _ c.requires _ c.of-head.ensures,
  head-known _ c.args.position _ c.requires _ c.of-head.ensures _ c.line_instruction-w.ensures,
)

pub returns-in_err-facts : goal.returns-in_err-facts
returns-in_err-facts c =
    let p = err_from_is_err_and c.from_residual.result c.from_residual.ensures.1 in
    rw (p.1, p.2) (line-stops _ _ _ _ c.args.position _ c.of-head.ensures _ c.line_instruction-w.ensures _ c.ask.ensures.0 _ c.in_err-facts.was)

pub frame_at-below-requires : goal.frame_at-below-requires
frame_at-below-requires c = omega (arith, open-depth _ c.args.position c.requires.standing)

pub moved-next-requires : goal.moved-next-requires
moved-next-requires c = (head-fits _ c.args.position _ c.requires _ c.of-head.ensures _ c.line_instruction-w.ensures, c.args.task.held.case)

pub stored-requires : goal.stored-requires
stored-requires c =
    let fits = head-fits _ c.args.position _ c.requires _ c.of-head.ensures _ c.line_instruction-w.ensures in (
      line-few _ _ _ _ c.args.position _ c.of-head.ensures _ c.line_instruction-w.ensures _ c.ask.ensures.0 _ c.in_ok-facts.was
          _ _ c.moved-next.ensures (ranges _ c.args.task.held.task.ranges).stack.1 fits.depth,
      fits.depth,
      fits.line,
    )

pub returns : goal.returns
returns c =
    line-goes _ _ _ _ c.args.position _ c.of-head.ensures _ c.line_instruction-w.ensures _ c.ask.ensures.0 _ c.in_ok-facts.was
    _ _ c.moved-next.ensures c.requires.standing.unfinished c.frame_at-below.ensures _ c.stored.ensures
