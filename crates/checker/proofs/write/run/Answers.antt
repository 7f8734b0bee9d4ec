-- `checker::write::run` meets its contract: the head and the callers beside it stand for a position from which the run comes to what the whole
-- run comes to, and the steps done have their frames in the trace.
-- Assumes nothing.
use Prim.Native.Nat.{ℕ, ◌≤◌}
use mathlib.Core.Path.{◌≡◌, refl, sym, ◌∙◌}
use mathlib.Core.List.{List, map}
use native.Mathlib.Omega.{arith}
use lib.ListN.{length, take, replicate}
use Rattle.std.specs.Prelude.{Ok}
use Rattle.std.proofs.Common.{rules}
use Rattle.std.proofs.lemmas.List.{length-take-le, length-map, map-set, take-map}
use Rattle.std.proofs.lemmas.Result.{err_from_is_err_and}
use Rattle.step.specs.Head.{starting_head, top_of}
use Rattle.step.specs.Position.{origin}
use Rattle.checker.specs.Trace.{frame_of}
use Rattle.checker.proofs.Laws.Running.{runs-first, runs-begin, runs-count, runs-spelled, runs-end, runs-out, runs-line, runs-small, runs-known, runs-fits, runs-stop, runs_on}
use Rattle.checker.proofs.Laws.Stepping.{more-steps}
use Rattle.checker.proofs.write.run.Goals as goal

pub starting-head-requires : goal.starting-head-requires
starting-head-requires c = runs-first _ _ _ c.requires.read c.requires.passes

pub caller-callers-requires : goal.caller-callers-requires
unfolding starting_head
caller-callers-requires c = rw c.starting-head.ensures (omega arith)

pub loop-head-init : goal.loop-head-init
loop-head-init c = runs-begin _ _ _ c.requires.read c.requires.passes c.starting-head.ensures _ refl _ (length-map (replicate 4096 0) frame_of)

pub returns-then-task-head : goal.returns-then-task-head
returns-then-task-head c =
    rw c.at.ensures (runs-out c.loop-head.invariant c.loop-head-test.true c.if-task-head.true _)

pub line_instruction-w-requires : goal.line_instruction-w-requires
line_instruction-w-requires c = runs-line c.loop-head.invariant c.loop-head-test.true

pub ask-requires : goal.ask-requires
ask-requires c = (
  c.loop-head-test.true,
  runs-known c.loop-head.invariant c.loop-head-test.true c.if-task-head.false c.line_instruction-w.ensures,
)

pub returns-in_err-facts : goal.returns-in_err-facts
returns-in_err-facts c =
    let p = err_from_is_err_and c.from_residual.result c.from_residual.ensures.1 in
    rw (p.1, p.2)
    (runs-stop c.loop-head.invariant c.loop-head-test.true c.if-task-head.false c.line_instruction-w.ensures
    c.ask.result c.ask.ensures.0 _ (search rules) _)

pub byte_of-requires : goal.byte_of-requires
unfolding top_of
byte_of-requires c = rw c.top.ensures (runs-small c.loop-head.invariant c.loop-head-test.true)

pub caller-requires : goal.caller-requires
caller-requires c = omega (arith, (runs-small c.loop-head.invariant c.loop-head-test.true).1)

pub moved-head-requires : goal.moved-head-requires
moved-head-requires c = (
  runs-fits c.loop-head.invariant c.loop-head-test.true c.if-task-head.false c.line_instruction-w.ensures,
  c.args.task.held.case,
)

pub loop-head-smaller : goal.loop-head-smaller
loop-head-smaller c = omega (arith, c.if-task-head.false, more-steps _ _ _ _ _ _ _ c.moved-head.ensures)

pub loop-head-preserved : goal.loop-head-preserved
unfolding origin
loop-head-preserved c =
    let a : c.ask.result ≡ Ok c.in_ok-facts.facts = search rules in
    rw (map-set frame_of _ _ _)
    (runs_on c.loop-head.invariant c.loop-head-test.true c.if-task-head.false c.line_instruction-w.ensures c.ask.result c.ask.ensures.0 a
    (c.byte_of.ensures ∙ c.top.ensures) c.caller.ensures refl c.moved-head.ensures)

-- the trace has as many bytes as frames
has-bytes : (trace : List ℕ) {steps : ℕ} → steps ≤ length (map frame_of trace) → steps ≤ length trace
has-bytes trace h = rw (length-map trace frame_of) at h

pub slice_bounds-trace-end : goal.slice_bounds-trace-end
slice_bounds-trace-end c = has-bytes _ (runs-count c.loop-head.invariant)

pub slice_bounds-write_records-end : goal.slice_bounds-write_records-end
slice_bounds-write_records-end c = sym (length-take-le _ _ (has-bytes _ (runs-count c.loop-head.invariant)))

pub write_records-requires : goal.write_records-requires
write_records-requires c =
    let l = c.loop-head in
    rw (take-map frame_of l.head.steps l.trace, length-map (take l.head.steps l.trace) frame_of)
    at (runs-spelled l.invariant c.loop-head-test.false)

pub returns : goal.returns
returns c =
    let l = c.loop-head in
    runs-end l.invariant c.loop-head-test.false _ _
    (rw (← length-map (take l.head.steps l.trace) frame_of, ← take-map frame_of l.head.steps l.trace) at c.write_records.ensures)
