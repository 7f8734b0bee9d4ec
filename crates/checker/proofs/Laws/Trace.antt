-- The trace of a run. What it leads to after k steps is by its first k frames alone. So with the top frame put at the number of the steps done,
-- the writer's state by the trace goes to the state by the trace after one step more.
-- Assumes nothing.
use Prim.Native.Nat.{ℕ, zero, suc, ◌+◌, ◌*◌, ◌≤◌, ◌<◌}
use mathlib.Core.Path.{◌≡◌, refl, sym, ap, ◌∙◌}
use mathlib.Core.Bool.{true}
use mathlib.Core.List.{List, ◌++◌, map}
use mathlib.Core.Logic.{◌⊎◌, inl, inr}
use native.Mathlib.Nat.{eq-or-lt_of_le}
use native.Mathlib.Numerals.{add-one}
use native.Mathlib.Omega.{arith}
use lib.ListN.{length, get_or, set, length-append, get_or-map}
use lib.Seq.{get_or-set_same, get_or-set_other}
use borrow.Author.Tests.{lt-ltb}
use Rattle.records.specs.Loop.{Turn, stop, go, after}
use Rattle.records.specs.Record.{closing}
use Rattle.records.proofs.Laws.Tests.{cond_yes}
use Rattle.task.specs.Index.{case_at}
use Rattle.task.specs.Instruction.{spelled}
use Rattle.task.specs.Program.{line_offset, line_bytes, instruction_on, is_instruction}
use Rattle.task.specs.declared.bounds.Bounds.{Bounds}
use Rattle.task.specs.declared.index.Index.{Index}
use Rattle.task.proofs.Laws.Instruction.{decode-spelled}
use Rattle.step.specs.Perform.{run_step}
use Rattle.step.specs.Position.{origin, starting, top}
use Rattle.step.specs.declared.position.Frame.{Frame}
use Rattle.step.specs.declared.position.Position.{Position}
use Rattle.step.proofs.Laws.Perform.{step-ran, ran-steps}
use Rattle.checker.specs.Answer.{refused, accepted}
use Rattle.checker.specs.Trace.{frame_of, SpelledAt, step_at, lines_with, record_on, Spelled, lines_after, records_after}
use Rattle.checker.specs.Write.{Writing, on_step, write_turn, start, run}
use Rattle.checker.proofs.Laws.Check.{frame_is}
use Rattle.checker.proofs.Laws.Write.{record-length, finished-accepts, run_from, run-start, run-turn}

-- the byte of a frame, whose procedure is below 8 and whose line below 32
unfoldable pub byte_of : Frame → ℕ
byte_of f = 32 * f.procedure.0 + f.line.0

-- the frame of a frame's byte is that frame
pub byte-frame : (f : Frame) → f.line.0 < 32 → frame_of (byte_of f) ≡ f
unfolding byte_of frame_of
byte-frame f h = frame_is (omega arith) (omega arith)

-- the frames of a trace's bytes, one by one
pub frame-there : (bytes : List ℕ) (k : ℕ) → get_or (map frame_of bytes) k origin ≡ frame_of (get_or bytes k 0)
unfolding frame_of origin
frame-there bytes k = get_or-map frame_of bytes k 0

-- the writer's state at a position, by the trace of the steps done
abbrev pub traced : Bounds → List ℕ → List ℕ → List Frame → Position → Writing
traced b program presets trace position =
    record {
      position = position;
      lines = lines_after b program presets trace position.steps;
      plan = records_after b program presets trace position.steps;
    }

module _ (b : Bounds) (program presets : List ℕ) (trace : List Frame) where
  pub lines_next : (k : ℕ) → lines_after b program presets trace (k + 1)
      ≡ lines_with b program (lines_after b program presets trace k) (get_or trace k origin)
  unfolding lines_after
  lines_next k = rw (add-one k) refl

  pub records-next : (k : ℕ) → records_after b program presets trace (k + 1)
      ≡ records_after b program presets trace k ++ record_on b program (lines_after b program presets trace k) (get_or trace k origin)
  unfolding records_after
  records-next k = rw (add-one k) refl

  -- the record of one more step, and all of them: they have 9 bytes each
  abbrev pub record_next : ℕ → List ℕ
  record_next k = record_on b program (lines_after b program presets trace k) (get_or trace k origin)

  pub next-length : (k : ℕ) → length (record_next k) ≡ 9
  unfolding record_on
  next-length k = record-length _

  pub records-length : (k : ℕ) → length (records_after b program presets trace k) ≡ 9 * k
  unfolding records_after
  records-length zero = refl
  records-length (suc k) =
      length-append (records_after b program presets trace k) (record_next k) ∙ omega (arith, records-length k, next-length k)

-- traces with the same first `j` frames
module _ (b : Bounds) (program presets : List ℕ) (trace other : List Frame) (j : ℕ)
    (same : (k : ℕ) → k < j → get_or other k origin ≡ get_or trace k origin) where
  pub lines-kept : (k : ℕ) → k ≤ j → lines_after b program presets other k ≡ lines_after b program presets trace k
  unfolding lines_after
  lines-kept zero h = refl
  lines-kept (suc k) h = rw (same k (omega arith), lines-kept k (omega arith)) refl

  pub records-kept : (k : ℕ) → k ≤ j → records_after b program presets other k ≡ records_after b program presets trace k
  unfolding records_after
  records-kept zero h = refl
  records-kept (suc k) h = rw (same k (omega arith), lines-kept k (omega arith), records-kept k (omega arith)) refl

  pub spelled-kept : Spelled b program trace j → Spelled b program other j
  unfolding Spelled
  spelled-kept h k l = rw (same k l) (h k l)

-- a frame that is put at step `k`
module _ (trace : List Frame) (k : ℕ) (f : Frame) (room : k < length trace) where
  frame-put : get_or (set trace k f) k origin ≡ f
  frame-put = get_or-set_same trace k f origin room

  before-put : (m : ℕ) → m < k → get_or (set trace k f) m origin ≡ get_or trace m origin
  before-put m h = get_or-set_other trace k m f origin (omega arith)

  pub trace-lines : (b : Bounds) (program presets : List ℕ)
      → lines_after b program presets (set trace k f) (k + 1) ≡ lines_with b program (lines_after b program presets trace k) f
  trace-lines b program presets =
      lines_next b program presets _ k ∙ rw (frame-put, lines-kept b program presets trace (set trace k f) k before-put k (omega arith)) refl

  pub trace-records : (b : Bounds) (program presets : List ℕ)
      → records_after b program presets (set trace k f) (k + 1)
      ≡ records_after b program presets trace k ++ record_on b program (lines_after b program presets trace k) f
  trace-records b program presets =
      records-next b program presets _ k
      ∙ rw
      (frame-put, lines-kept b program presets trace (set trace k f) k before-put k (omega arith), records-kept b program presets trace (set trace k f) k before-put k (omega arith))
      refl

-- the trace after the step at a position: the top frame at the number of the steps done
abbrev pub trace_on : List Frame → Position → List Frame
trace_on trace p = set trace p.steps (top p)

-- the run by the trace
module _ (bytes : List ℕ) (i : Index) (offsets program presets : List ℕ) where
  -- it begins with any trace
  pub trace-begins : (trace : List Frame)
      → run_from bytes i offsets program (traced i.bounds program presets trace (starting 0 (case_at bytes i.first 0).start))
      ≡ run bytes (record { index = i; offsets = offsets; presets = presets }) program
  unfolding start starting lines_after records_after
  trace-begins trace = run-start bytes i offsets program presets

  module _ (trace : List Frame) (p : Position) where
    -- behind the last case: the records and the closing one
    pub trace-ends : i.cases ≤ p.case
        → run_from bytes i offsets program (traced i.bounds program presets trace p)
        ≡ accepted p.steps (records_after i.bounds program presets trace p.steps ++ closing)
    unfolding after
    trace-ends c =
        let s = traced i.bounds program presets trace p in
        let ends = finished-accepts bytes i offsets s program p.steps _ (record { case = c; count = refl; closed = refl }) in
        run-turn bytes i offsets program s ∙ rw ends refl

    module _ (case : p.case < i.cases) where
      -- with a case open, a turn is a step
      turn-steps : (u : Turn Position ℕ) → run_step bytes i offsets program p ≡ u
          → write_turn bytes i offsets program (traced i.bounds program presets trace p) ≡ on_step i program (traced i.bounds program presets trace p) u
      unfolding write_turn
      turn-steps u e =
          sym (cond_yes _ true _ _ (sym (lt-ltb p.case i.cases case)) refl) ∙ ap (on_step i program (traced i.bounds program presets trace p)) e

      -- a question says no: the steps done are its place
      pub trace-stops : (question : ℕ) → run_step bytes i offsets program p ≡ stop question
          → run_from bytes i offsets program (traced i.bounds program presets trace p) ≡ refused question p.steps
      unfolding on_step after
      trace-stops question e = run-turn bytes i offsets program _ ∙ rw (turn-steps (stop question) e) refl

      -- one step more
      module _ (room : p.steps < length trace) (q : Position) (e : run_step bytes i offsets program p ≡ go q) where
        pub trace-steps : q.steps ≡ p.steps + 1
        trace-steps = ran-steps bytes i offsets p program q (step-ran bytes i offsets p program q e).1

        pub trace-turn : write_turn bytes i offsets program (traced i.bounds program presets trace p)
            ≡ go (traced i.bounds program presets (trace_on trace p) q)
        unfolding on_step lines_with record_on step_at
        trace-turn =
            turn-steps (go q) e
            ∙ rw (
              trace-steps,
              trace-lines trace p.steps (top p) room i.bounds program presets,
              trace-records trace p.steps (top p) room i.bounds program presets,
            )
            refl

        pub trace-goes : run_from bytes i offsets program (traced i.bounds program presets trace p)
            ≡ run_from bytes i offsets program (traced i.bounds program presets (trace_on trace p) q)
        unfolding after
        trace-goes = run-turn bytes i offsets program _ ∙ rw trace-turn refl

        -- the line of the step spells an instruction
        top-spells : is_instruction (spelled (line_bytes i.bounds program (top p).procedure (top p).line)) ≡ true
        unfolding instruction_on is_instruction
        top-spells =
            let ran = (step-ran bytes i offsets p program q e).1 in
            rw (decode-spelled i.bounds i.actions (top p).line _ ran.instruction ran.here) refl

        pub trace-spelled : line_offset i.bounds (top p).procedure (top p).line + 3 ≤ length program
            → Spelled i.bounds program trace p.steps → Spelled i.bounds program (trace_on trace p) q.steps
        unfolding Spelled
        trace-spelled there h k l = by (eq-or-lt_of_le {n = k} {m = p.steps} (omega (arith, trace-steps)))
          where
            by : (k ≡ p.steps) ⊎ (k < p.steps) → SpelledAt i.bounds program (get_or (trace_on trace p) k origin)
            by (inl at) = rw (at, frame-put trace p.steps (top p) room) (record { there = there; spells = top-spells })
            by (inr before) = rw (before-put trace p.steps (top p) room k before) (h k before)

-- of no step, every line spells an instruction
pub spelled_none : (b : Bounds) (program : List ℕ) (trace : List Frame) → Spelled b program trace 0
unfolding Spelled
spelled_none b program trace k h = absurd (omega arith)
