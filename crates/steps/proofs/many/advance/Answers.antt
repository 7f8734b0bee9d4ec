-- `steps::many::advance` meets its contract: question 14 decides, then the questions of the line's instruction, and then the head moves.
-- Assumes nothing.
use Rattle.std.proofs.Common.{◌≡◌, ◌<◌, ◌≤◌, ◌+◌, ◌-◌, ◌%◌, ℕ, List, ap, get_or, arith}
use Rattle.std.proofs.lemmas.Result.{err_from_is_err_and}
use Rattle.step.specs.Head.{over}
use Rattle.step.specs.Position.{origin}
use Rattle.step.specs.declared.position.Frame.{Frame}
use Rattle.step.proofs.Laws.Ready.{head-case, head-line, head-known, head-fits}
use Rattle.steps.specs.Running.{advanced_as}
use Rattle.steps.proofs.Laws.Running.{over-few, over-itself, over-late, over-runs, over-refused, over-moves}
use Rattle.steps.proofs.many.advance.Goals as goal

-- the frame below the top one, if there is one, is at the index that the code reads
below_top : (frames : List Frame) (d : Frame) (depth : ℕ) → depth ≤ 16 → 1 < depth
    → get_or frames ((depth + 14) % 16) d ≡ get_or frames (depth - 1 - 1) d
below_top frames d depth few l = ap (λ (k : ℕ). get_or frames k d) (omega arith)

pub returns-then-task-head-clause-step : goal.returns-then-task-head-clause-step
unfolding advanced_as
returns-then-task-head-clause-step c = over-late _ _ _ c.told-frames c.requires.0 _ _ _ c.if-task-head.true

pub line_instruction-w-requires : goal.line_instruction-w-requires
line_instruction-w-requires c =
    let o = c.requires.0 in
    head-line _ _ _ (over-runs _ _ _ c.told-frames o _ c.requires.1 c.if-task-head.false) _ (over-itself _ _ _ c.told-frames o)

pub ask-requires : goal.ask-requires
ask-requires c =
    let o = c.requires.0 in
    let runs = over-runs _ _ _ c.told-frames o _ c.requires.1 c.if-task-head.false in
    let itself = over-itself _ _ _ c.told-frames o in
    (head-case _ _ _ runs _ itself, head-known _ _ _ runs _ itself _ c.line_instruction-w.ensures)

pub returns-in_err-facts-clause-step : goal.returns-in_err-facts-clause-step
unfolding advanced_as
returns-in_err-facts-clause-step c =
    let p = err_from_is_err_and c.from_residual.result c.from_residual.ensures.1 in
    rw (p.1, p.2)
    (over-refused _ _ _ c.told-frames c.requires.0 _ _ _ c.if-task-head.false _ c.line_instruction-w.ensures _ c.ask.ensures.0 _ c.in_err-facts.was)

pub moved-next-requires : goal.moved-next-requires
moved-next-requires c =
    let o = c.requires.0 in
    let runs = over-runs _ _ _ c.told-frames o _ c.requires.1 c.if-task-head.false in
    (head-fits _ _ _ runs _ (over-itself _ _ _ c.told-frames o) _ c.line_instruction-w.ensures, c.args.task.held.case)

pub left_behind-requires : goal.left_behind-requires
left_behind-requires c =
    let o = c.requires.0 in
    let runs = over-runs _ _ _ c.told-frames o _ c.requires.1 c.if-task-head.false in
    (head-fits _ _ _ runs _ (over-itself _ _ _ c.told-frames o) _ c.line_instruction-w.ensures).line

pub overflow_sub-head : goal.overflow_sub-head
unfolding over
overflow_sub-head c = c.requires.0.unfinished

pub bounds-frames-head-2 : goal.bounds-frames-head-2
bounds-frames-head-2 c = omega (arith, over-few _ _ _ c.told-frames c.requires.0)

pub returns-clause-step : goal.returns-clause-step
unfolding advanced_as origin
returns-clause-step c =
    let o = c.requires.0 in
    let few = over-few _ _ _ c.told-frames o in
    over-moves _ _ _ c.told-frames o _ _ _ c.if-task-head.false _ c.line_instruction-w.ensures _ c.ask.ensures.0 _ c.in_ok-facts.was
    _ (below_top _ origin _ few) _ c.moved-next.ensures _ c.left_behind.ensures
