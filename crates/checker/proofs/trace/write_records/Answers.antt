-- `checker::trace::write_records` meets its contract: question 29 asks for the plan's bytes, and behind k steps `lines` and the buffer's bytes are
-- those of the frames of the trace's first k bytes.
-- Assumes nothing.
use mathlib.Core.Path.{◌≡◌, sym, ◌∙◌}
use mathlib.Core.List.{map}
use lib.ListN.{length, get_or}
use native.Mathlib.Omega.{arith}
use Rattle.records.specs.Numbers.{number_bytes}
use Rattle.records.specs.Record.{record_bytes, closing}
use Rattle.step.specs.Position.{origin}
use Rattle.checker.specs.Trace.{frame_of, Spelled}
use Rattle.checker.proofs.Laws.Trace.{frame-there}
use Rattle.checker.proofs.Laws.Records.{puts_none, puts-more, puts-closing, buffer-small}
use Rattle.checker.proofs.trace.write_records.Goals as goal

pub returns-then-buffer-size : goal.returns-then-buffer-size
returns-then-buffer-size c = rw c.at.ensures (buffer-small _ _ _ c.if-buffer-size.true)

pub loop-k-init : goal.loop-k-init
loop-k-init c = let a = c.args in puts_none a.bounds a.program.now a.presets (map frame_of a.trace.now) a.buffer.now

pub next_record-record-requires : goal.next_record-record-requires
unfolding Spelled origin
next_record-record-requires c =
    (rw (c.frame_of.ensures, ← frame-there c.args.trace.now c.loop-k.k) (c.requires.2 c.loop-k.k c.loop-k-test.true), c.requires.1)

pub loop-k-preserved : goal.loop-k-preserved
unfolding origin
loop-k-preserved c =
    let a = c.args in
    let l = c.loop-k in
    let f : c.frame_of.result ≡ get_or (map frame_of a.trace.now) l.k origin = c.frame_of.ensures ∙ sym (frame-there a.trace.now l.k) in
    puts-more a.bounds a.program.now a.presets (map frame_of a.trace.now) a.buffer.now l.k l.lines l.buffer l.invariant _ _ _
    (rw f at c.next_record-record.ensures.0) (rw f at c.next_record-record.ensures.1) c.put.ensures c.put.auto.buffer

pub returns : goal.returns
unfolding closing record_bytes number_bytes
returns c =
    let a = c.args in
    let l = c.loop-k in
    let done : l.k ≡ length a.trace.now = omega (arith, c.loop-k-test.false, l.auto.k-end) in
    puts-closing a.bounds a.program.now a.presets (map frame_of a.trace.now) a.buffer.now (length a.trace.now) l.lines l.buffer (rw done at l.invariant) _
    c.if-buffer-size.false c.put-2.ensures
