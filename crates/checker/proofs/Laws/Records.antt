-- The plan from the trace of a run. A step's record has its line's bytes; the records that are put one behind the other, and the closing one,
-- fill the first bytes of the plan, and the others keep their value; question 29 comes first.
-- Assumes nothing.
use Prim.Native.Nat.{ℕ, ◌+◌, ◌*◌, ◌-◌, ◌≤◌, ◌<◌}
use mathlib.Core.Path.{◌≡◌, refl, sym, ap, ◌∙◌}
use mathlib.Core.List.{List, [], ◌∷◌, ◌++◌, append_assoc}
use native.Mathlib.Omega.{arith}
use lib.ListN.{length, take, drop, get_or, length-append}
use lib.Seq.{take-length, take_all, take-append_seam, drop-append-add, drop-drop}
use borrow.Author.Tests.{ne_eqb, le-leb, lt-leb}
use Rattle.records.specs.Numbers.{byte_at}
use Rattle.records.specs.Record.{record_bytes, closing}
use Rattle.task.specs.Instruction.{spelled, encode, triple_at, with_triple}
use Rattle.task.specs.Program.{line_offset, spelled_on}
use Rattle.task.specs.declared.bounds.Bounds.{Bounds}
use Rattle.std.specs.Prelude.{Some}
use Rattle.task.specs.declared.instruction.Instruction.{Instruction}
use Rattle.task.specs.declared.instruction.Triple.{Triple}
use Rattle.task.specs.Verdict.{Accepted, Refused}
use Rattle.task.proofs.Laws.Instruction.{instruction-is, encode-spelled}
use Rattle.step.specs.Position.{origin}
use Rattle.step.specs.declared.position.Frame.{Frame}
use Rattle.checker.specs.Answer.{Answer, accepted, filled, answer}
use Rattle.checker.specs.Check.{written}
use Rattle.checker.specs.Plan.{kind_of, record_of, plan_size, instruction_of}
use Rattle.checker.specs.Questions.{PLAN-BUFFER}
use Rattle.checker.specs.Trace.{with_bytes, SpelledAt, step_at, lines_with, record_on, lines_after, records_after}
use Rattle.checker.specs.Write.{step_on, on_finish}
use Rattle.checker.specs.declared.plan.Step.{Step}
use Rattle.checker.specs.declared.plan.Step.TheVariants.{Write, Repeat}
use Rattle.checker.proofs.Laws.Trace.{lines_next, records-next, record_next, next-length, records-length}
use Rattle.checker.proofs.Laws.Write.{closing-length}

-- bytes that are copied to a part of a buffer: those before and behind them keep their value
pub put_in : (at size : ℕ) (buffer others : List ℕ)
    → take at buffer ++ (take size others ++ drop (at + size - at) (drop at buffer)) ≡ with_bytes buffer at size others
unfolding with_bytes
put_in at size buffer others =
    let n : at + size - at ≡ size = omega arith in
    rw (n, drop-drop size at buffer) refl

-- of all the bytes that are copied
pub put_whole : (at : ℕ) (buffer others : List ℕ)
    → take at buffer ++ (others ++ drop (at + length others - at) (drop at buffer)) ≡ with_bytes buffer at (length others) others
put_whole at buffer others =
    ap (λ (part : List ℕ). take at buffer ++ (part ++ drop (at + length others - at) (drop at buffer))) (sym (take-length others))
    ∙ put_in at (length others) buffer others

-- bytes that are put behind the records so far: those behind both keep their value
put_next : (records plan added : List ℕ) (at size : ℕ) → length records ≡ at → length added ≡ size
    → (before after : List ℕ) → before ≡ records ++ drop at plan → after ≡ with_bytes before at size added
    → after ≡ (records ++ added) ++ drop (at + size) plan
unfolding with_bytes
put_next records plan added at size e f before after h g =
    g
    ∙ rw (
      h,
      ← e,
      ← f,
      take-length added,
      take-append_seam records _,
      drop-append-add records _ (length added),
      drop-drop (length added) (length records) plan,
      append_assoc records added _,
    )
    refl

-- one step at a frame whose line spells an instruction: `t` are its line's bytes
module _ (b : Bounds) (program lines : List ℕ) (f : Frame) (x : SpelledAt b program f) (offset : ℕ) (eo : offset ≡ line_offset b f.procedure f.line)
    (t : Triple) (et : t ≡ triple_at program offset) where
  abbrev step : Step
  step = step_at b program lines f

  abbrev w : Instruction
  w = spelled_on b program f.procedure f.line

  spells : spelled t ≡ Some w
  unfolding spelled_on
  spells = rw (et, eo, (instruction-is _ x.spells).1) refl

  -- these are the lines after it, and its record is one of this kind
  abbrev Leaves : ℕ → List ℕ → Type 0
  Leaves number after =
      (after ≡ lines_with b program lines f)
      × (record_bytes number (f.procedure.0 ∷ f.line.0 ∷ t.op ∷ t.p ∷ t.q ∷ []) ≡ record_on b program lines f)

  leaves : (s : Step) → step ≡ s → instruction_of s ≡ w → (after : List ℕ) → after ≡ written lines offset s → Leaves (kind_of s) after
  unfolding lines_with record_on record_of
  leaves s es ew after e =
      let bytes : t ≡ encode (instruction_of s) = sym (encode-spelled t w spells) ∙ ap encode (sym ew) in
      rw es (e ∙ rw eo refl, rw (← bytes) refl)

  -- a line that `lines` does not hold is written, any other repeated
  pub line-written : byte_at lines offset ≡ 0 → (after : List ℕ) → after ≡ with_triple lines offset t → Leaves 16 after
  unfolding written instruction_of kind_of step_at step_on triple_at
  line-written h after e =
      leaves (Write w) (rw (← eo, h) refl) refl after (e ∙ ap (with_triple lines offset) (sym (encode-spelled t w spells)))

  pub line-repeated : (byte_at lines offset ≡ 0 → ⊥) → Leaves 17 lines
  unfolding written instruction_of kind_of step_at step_on triple_at
  line-repeated h = leaves (Repeat w) (rw (← eo, ne_eqb _ _ h) refl) refl lines refl

module _ (b : Bounds) (program presets : List ℕ) (trace : List Frame) (plan : List ℕ) where
  -- what holds behind `k` steps, of `lines` and the plan's bytes
  pub record Putting (k : ℕ) (lines after : List ℕ) : Type 0 where
    pub run : lines ≡ lines_after b program presets trace k
    pub put : after ≡ records_after b program presets trace k ++ drop (9 * k) plan
    pub room : length after ≡ length plan

  pub puts_none : Putting 0 presets plan
  unfolding lines_after records_after
  puts_none = record { run = refl; put = refl; room = refl }

  module _ (k : ℕ) (lines before : List ℕ) (h : Putting k lines before) (after : List ℕ) where
    -- one step more
    pub puts-more : (next added : List ℕ) → next ≡ lines_with b program lines (get_or trace k origin)
        → added ≡ record_on b program lines (get_or trace k origin) → after ≡ with_bytes before (9 * k) (length added) added
        → length after ≡ length before → Putting (k + 1) next after
    puts-more next added en ea e l =
        let size = records-length b program presets trace k in
        let same : added ≡ record_next b program presets trace k = rw (← h.run) ea in
        let nine : length added ≡ 9 = ap length same ∙ next-length b program presets trace k in
        let next-at : 9 * k + 9 ≡ 9 * (k + 1) = omega arith in
        record {
          run = rw h.run at en ∙ sym (lines_next b program presets trace k);
          put =
              rw (records-next b program presets trace k, ← next-at, ← same)
              (put_next _ plan added (9 * k) 9 size nine before after h.put (rw nine at e));
          room = l ∙ h.room;
        }

    -- behind the last the closing record: with room for them, the plan is the answer
    pub puts-closing : 9 * k + 4 ≤ length plan → after ≡ with_bytes before (9 * k) 4 closing
        → ◌≡◌ {A = Answer} (record { verdict = Accepted k; buffer = after }) (on_finish plan (accepted k (records_after b program presets trace k ++ closing)))
    unfolding filled plan_size on_finish answer
    puts-closing room e =
        let records = records_after b program presets trace k in
        let size = records-length b program presets trace k in
        let four = closing-length in
        rw (
          le-leb (9 * k + 4) (length plan) room,
          take_all (9 * k + 4) (records ++ closing) (omega (arith, length-append records closing)),
          put_next records plan closing (9 * k) 4 size four before after h.put e,
        )
        refl

-- question 29 says no
pub buffer-small : (plan records : List ℕ) (steps : ℕ) → length plan < 9 * steps + 4
    → ◌≡◌ {A = Answer} (record { verdict = Refused PLAN-BUFFER (9 * steps + 4); buffer = plan }) (on_finish plan (accepted steps records))
unfolding plan_size on_finish answer
buffer-small plan records steps l = rw (lt-leb (9 * steps + 4) (length plan) l) refl
