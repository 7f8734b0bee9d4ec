-- `steps::many::run` meets its contract: the head over its frames is the position that as many single steps reach as are made.
-- Assumes nothing.
use Rattle.std.proofs.Common.{◌<◌, ◌≡◌, ◌-◌, arith, rules}
use Rattle.steps.specs.Many.{taken_to}
use Rattle.steps.specs.Running.{advanced_as}
use Rattle.steps.proofs.Laws.Running.{admitted-lined, first-few, reached-first, reached-few, reached-finish, reached-open, reached-no, reached-next, reached-all}
use Rattle.steps.proofs.many.run.Goals as goal
use Rattle.steps.proofs.many.run.Goals.{else-loop-test, then-loop-test+then-head-eq0, then-loop-test+else-head-eq0+in-Err}

pub of-head-requires : goal.of-head-requires
of-head-requires c = first-few _ _ _ _ _ c.requires

pub loop-init : goal.loop-init
loop-init c = record { reached = reached-first _ _ _ _ _ c.requires _ (search rules) _ c.of-head.ensures; none = search rules }

pub advance-requires : goal.advance-requires
advance-requires c =
    let above : 0 < c.loop.head.depth = omega arith in
    let open-there = reached-open _ _ _ _ _ c.requires _ _ _ _ c.loop.invariant.reached c.loop-test.true above in
    (open-there, admitted-lined _ _ _ _ _ c.requires)

pub loop-preserved : goal.loop-preserved
unfolding advanced_as
loop-preserved c =
    let above : 0 < c.loop.head.depth = omega arith in
    record {
      reached = reached-next _ _ _ _ _ c.requires _ _ _ _ c.loop.invariant.reached c.loop-test.true above _ _ c.in-Ok.ensures.step;
      none = search rules;
    }

pub over-requires : goal.over-requires
over-requires c = reached-few _ _ _ _ _ c.requires _ _ _ _ c.loop.invariant.reached

-- the loop ends after all steps, at the finish, or where a question says no, which leaves the frames as they were
pub returns : goal.returns
unfolding advanced_as taken_to
returns c =
    let x = c.loop in
    let r = x.invariant.reached in
    let made : x.head.steps - c.args.first.steps ≡ x.counter = omega (arith, r.steps) in
    rw (c.over.ensures, made)
    (elim c.loop-test.branch [
      | else-loop-test w ↦
          rw (w.frames-is, w.refusal-is, x.invariant.none) (reached-all _ _ _ _ _ c.requires _ _ _ _ r w.loop-test.false)
      | then-loop-test+then-head-eq0 w ↦
          rw (w.frames-is, w.refusal-is, x.invariant.none)
          (reached-finish _ _ _ _ _ c.requires _ _ _ _ r w.loop-test.true w.if-head-eq0.true)
      | then-loop-test+else-head-eq0+in-Err w ↦
          let above : 0 < x.head.depth = omega (arith, w.if-head-eq0.false) in
          let no = w.in-Err.ensures in
          rw (w.frames-is, no.refused, w.refusal-is, w.at.ensures)
          (reached-no _ _ _ _ _ c.requires _ _ _ _ r w.loop-test.true above _ no.step)
    ])
