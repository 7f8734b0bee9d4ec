-- The lines that a program's bytes hold. A line's number, counted through all procedures, determines the line, so that to write one line
-- keeps all others; the bytes in their order are those of the lines, one after the other; and question 18 asks of the bytes what the compiled
-- task asks of the lines.
-- Assumes nothing.
use Prim.Native.Nat.{ℕ, zero, suc, ◌+◌, ◌*◌, ◌≤◌, ◌<◌}
use mathlib.Core.Path.{◌≡◌, refl, sym, ap, ◌∙◌}
use mathlib.Core.Bool.{true, false, true≢false}
use mathlib.Core.List.{List, ◌∷◌}
use mathlib.Core.Logic.{◌↔◌}
use native.Mathlib.Nat.{mod-lt, div-lt_iff_lt-mul, mul-le-mul_right}
use native.Mathlib.Numerals.{add-one, add-two}
use native.Mathlib.Omega.{arith}
use lib.ListN.{length, take, drop}
use lib.Seq.{drop-cons}
use borrow.Author.Tests.{eqb-true, eq-eqb}
use Rattle.records.proofs.Laws.Tests.{cond_either}
use Rattle.task.proofs.Laws.Program.{line_number, line-parts, line-offset}
use Rattle.task.specs.Bounds.{line_count, program_size}
use Rattle.task.specs.Instruction.{encode, triple_at, with_triple}
use Rattle.task.specs.Program.{line_offset}
use Rattle.task.specs.declared.bounds.Bounds.{Bounds}
use Rattle.task.specs.declared.instruction.Triple.{Triple}
use Rattle.task.specs.declared.instruction.Instruction.{Instruction}
use Rattle.task.specs.declared.instruction.Instruction.TheVariants.{Empty}
use Rattle.step.specs.declared.position.Frame.{Frame}
use Rattle.checker.proofs.Laws.Check.{frame_is, same-frame}
use Rattle.checker.specs.Check.{line_fits}
use Rattle.step.specs.Position.{same_frame}
use Rattle.checker.specs.declared.plan.Step.TheVariants.{Write, Repeat}
use Rattle.demands.specs.Compiled.{written_at}
use Rattle.demands.specs.Demand2.{line_of, bytes_from, program_of}
use Rattle.demands.specs.Demand3.{Inside, bytes_on}
use Rattle.task.proofs.Laws.Instruction.{op-empty}
use Rattle.task.proofs.Laws.Triple.{encode_injective, same-triple, triple-same, put-here, put_other}

-- a program that holds, on every line that it has, the instruction that the line is said to have
abbrev pub Holds : Bounds → List ℕ → (Frame → Instruction) → Type 0
Holds b program lines = (f : Frame) → Inside b f → bytes_on b program f ≡ encode (lines f)

-- question 18 asks of the bytes what the compiled task asks of the lines
module _ (b : Bounds) (program : List ℕ) (lines : Frame → Instruction) (holds : Holds b program lines) (f : Frame) (inside : Inside b f)
    (w : Instruction) where
  pub write-fits : (line_fits (bytes_on b program f) (Write w) ≡ true) ↔ (lines f ≡ Empty)
  unfolding line_fits encode
  write-fits =
      let op = ap (λ (t : Triple). t.op) (holds f inside) in
      (λ h. op-empty (lines f) (sym op ∙ eqb-true _ 0 h), λ e. eq-eqb _ 0 (op ∙ ap (λ (v : Instruction). (encode v).op) e))

  pub repeat-fits : (line_fits (bytes_on b program f) (Repeat w) ≡ true) ↔ (lines f ≡ w)
  unfolding line_fits
  repeat-fits =
      (λ h. encode_injective (lines f) w (sym (holds f inside) ∙ same-triple _ _ h), λ e. rw (holds f inside, e) (triple-same (encode w)))

-- every frame is the same as itself, as question 17 asks it
pub frame_same : (f : Frame) → same_frame f f ≡ true
unfolding same_frame
frame_same f = simp (eq-eqb f.procedure.0 f.procedure.0 refl, eq-eqb f.line.0 f.line.0 refl)

-- a line's number, counted through all procedures, and back: lines that are not the same have other numbers
module _ (b : Bounds) where
  abbrev pub number : Frame → ℕ
  number f = line_number b f.procedure f.line

  pub number-line : (f : Frame) → f.line.0 ≤ b.last → line_of b (number f) ≡ f
  unfolding line_of
  number-line f h = let parts = line-parts b.last f.procedure.0 f.line.0 h in frame_is parts.0 parts.1

  number-apart : (f g : Frame) → Inside b f → Inside b g → same_frame f g ≡ false → number g ≡ number f → ⊥
  number-apart f g h k e n =
      let same : g ≡ f = sym (number-line g k.line) ∙ ap (line_of b) n ∙ number-line f h.line in
      true≢false (sym (frame_same f) ∙ ap (same_frame f) (sym same) ∙ e)

  pub line-inside : (k : ℕ) → k < line_count b → Inside b (line_of b k)
  unfolding line_of line_count
  line-inside k h =
      record {
        procedure = (div-lt_iff_lt-mul {k = b.last + 1} (omega arith)).1 h;
        line = omega (arith, mod-lt k {m = b.last + 1} (omega arith));
      }

  -- a line's three bytes end with the program or before
  number-below : (f : Frame) → Inside b f → 3 * number f + 3 ≤ program_size b
  unfolding line_count
  number-below f h = omega (arith, mul-le-mul_right (b.last + 1) h.procedure)

  pub number-less : (f : Frame) → Inside b f → number f < line_count b
  number-less f h = omega (arith, number-below f h)

module _ (b : Bounds) (program : List ℕ) (lines : Frame → Instruction) (room : program_size b ≤ length program)
    (holds : Holds b program lines) where
  -- to write one line keeps all others
  pub holds-written : (f : Frame) → Inside b f → (w : Instruction)
      → Holds b (with_triple program (line_offset b f.procedure f.line) (encode w)) (written_at lines f w)
  unfolding written_at line_offset
  holds-written f inside w g h =
      let k = number b f in
      cond_either (λ (v : Instruction). triple_at (with_triple program (3 * k) (encode w)) (3 * number b g) ≡ encode v) (same_frame f g) w (lines g)
      (λ e. rw (← same-frame f g e) (put-here program k (encode w) (omega (arith, number-below b f inside))))
      (λ e. put_other program k (encode w) (number b g) (number-apart b f g inside h e) ∙ holds g h)

  -- the program from line number k on: this line's three bytes, and the program from the next one on
  line_first : (k left : ℕ) → k < line_count b
      → take (3 * suc left) (drop (3 * k) program)
      ≡ (triple_at program (3 * k)).op ∷ (triple_at program (3 * k)).p ∷ (triple_at program (3 * k)).q ∷ take (3 * left) (drop (3 * suc k) program)
  unfolding triple_at
  line_first k left h =
      let at = 3 * k in
      let n : 3 * suc left ≡ suc (suc (suc (3 * left))) = omega arith in
      let m : 3 * suc k ≡ suc (suc (suc at)) = omega arith in
      let first = drop-cons program at 0 (omega arith) in
      let second = drop-cons program (suc at) 0 (omega arith) in
      let third = drop-cons program (suc (suc at)) 0 (omega arith) in
      rw (n, m, first, second, third, add-one at, add-two at)

  line-held : (k : ℕ) → k < line_count b → triple_at program (3 * k) ≡ encode (lines (line_of b k))
  unfolding line_of
  line-held k h = rw (← line-offset b k) (holds (line_of b k) (line-inside b k h))

  bytes-held : (left k : ℕ) → k + left ≤ line_count b → take (3 * left) (drop (3 * k) program) ≡ bytes_from b lines k left
  unfolding bytes_from
  bytes-held zero k h = refl
  bytes-held (suc left) k h =
      rw (line_first k left (omega arith), line-held k (omega arith), bytes-held left (suc k) (omega arith))

  -- the program's bytes are those of its lines
  pub holds-bytes : take (program_size b) program ≡ program_of b lines
  unfolding program_of
  holds-bytes = bytes-held (line_count b) 0 (omega arith)
