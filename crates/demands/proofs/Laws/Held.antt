-- What a program's bytes hold. A program that passes questions 25 to 27 holds an instruction that is allowed on each of its lines, and every preset, and
-- a program of which that is so passes them: the lines, counted through all procedures, are the frames that the program has. And the bytes of some lines
-- hold these lines.
-- Assumes nothing.
use Prim.Native.Nat.{ℕ, zero, suc, ◌+◌, ◌*◌, ◌<◌}
use mathlib.Core.Path.{◌≡◌, refl, sym, ap, ◌∙◌, subst}
use mathlib.Core.Bool.{Bool, true, false, ◌||◌}
use mathlib.Core.List.{List}
use native.Mathlib.Omega.{arith}
use lib.Dec.{eqb, ltb}
use lib.ListN.{length}
use borrow.Author.Tests.{lt-ltb, ltb-true, ne_eqb, eqb-false}
use Rattle.task.specs.Bounds.{line_count, program_size}
use Rattle.task.specs.Instruction.{decode, encode, triple_at}
use Rattle.task.specs.Program.{line_offset, instruction_on, is_instruction, line_allowed, same_triple, preset_held}
use Rattle.task.specs.declared.bounds.Bounds.{Bounds}
use Rattle.task.specs.declared.index.Layout.{Layout}
use Rattle.std.specs.Prelude.{Option, Some, None}
use Rattle.task.specs.declared.instruction.Instruction.{Instruction}
use Rattle.task.proofs.Laws.Instruction.{decode-encode}
use Rattle.task.proofs.Laws.Program.{Passes, line-offset}
use Rattle.task.proofs.Laws.Triple.{decoded-on, same-triple, triple-same, triple-behind}
use Rattle.step.specs.declared.position.Frame.{Frame}
use Rattle.demands.specs.Compiled.{instruction_at}
use Rattle.demands.specs.Demand2.{line_of, bytes_from, program_of}
use Rattle.demands.specs.Demand3.{Inside, bytes_on, is_preset, WellFormedProgram}
use Rattle.demands.proofs.Laws.Presets.{LinesAllowed}
use Rattle.demands.proofs.Laws.Program.{Holds, number, number-line, number-less, line-inside}

-- what is decoded is an instruction
decoded-is : (d : Option Instruction) → is_instruction d ≡ true → (w : Instruction) × (d ≡ Some w)
unfolding is_instruction
decoded-is (Some w) h = (w, refl)
decoded-is None h = cc

is-decoded : (d : Option Instruction) (w : Instruction) → d ≡ Some w → is_instruction d ≡ true
unfolding is_instruction
is-decoded d w e = rw e

above_zero : (n : ℕ) → 0 < n → eqb n 0 ≡ false
above_zero n h = ne_eqb n 0 (λ (z : n ≡ 0). omega arith)

-- question 27 at a line that holds its preset, if it has one
preset-yes : (presets program : List ℕ) (k : ℕ)
    → (ltb 0 (triple_at presets (3 * k)).op ≡ true → triple_at program (3 * k) ≡ triple_at presets (3 * k)) → preset_held presets program k ≡ true
unfolding preset_held
preset-yes presets program k same = on (eqb (triple_at presets (3 * k)).op 0) refl
  where
    on : (e : Bool) → eqb (triple_at presets (3 * k)).op 0 ≡ e
        → (e || same_triple (triple_at presets (3 * k)) (triple_at program (3 * k))) ≡ true
    on true e = refl
    on false e =
        let n = eqb-false (triple_at presets (3 * k)).op 0 e in
        rw (same (lt-ltb 0 (triple_at presets (3 * k)).op (omega arith))) (triple-same (triple_at presets (3 * k)))

module _ (t : Layout) (program : List ℕ) where
  abbrev b : Bounds
  b = t.index.bounds

  module _ (formed : WellFormedProgram t program) where
    pub line-held : (f : Frame) → Inside b f → instruction_on t.index program f.procedure f.line ≡ Some (instruction_at b program f)
    line-held f h =
        let d = decoded-is _ (formed.lines f h) in
        d.1 ∙ ap Some (sym (decoded-on t.index program f.procedure f.line d.0 d.1).1)

  module _ (lines : Frame → Instruction) (holds : Holds b program lines) where
    -- bytes that hold a line are decoded to it, if it is allowed there
    pub held-decodes : LinesAllowed b t.index.actions lines → (f : Frame) → Inside b f
        → instruction_on t.index program f.procedure f.line ≡ Some (lines f)
    unfolding instruction_on
    held-decodes allows f h = rw (holds f h) (decode-encode b t.index.actions f.line (lines f) (allows f h))

    -- a program of such lines is well formed, if it has its length and its lines are those of the presets where there are some
    pub held-formed : length program ≡ program_size b → LinesAllowed b t.index.actions lines
        → ((f : Frame) → Inside b f → is_preset t f ≡ true → encode (lines f) ≡ bytes_on b t.presets f) → WellFormedProgram t program
    held-formed size allows same =
        record {
          size = size;
          lines = λ f h. is-decoded _ _ (held-decodes allows f h);
          presets = λ f h e. cc (holds f h, same f h e);
        }

  -- questions 25 to 27 let pass exactly the programs that are well formed
  pub passes-formed : Passes t.index t.presets program → WellFormedProgram t program
  unfolding instruction_on line_offset line_allowed preset_held line_of is_preset
  passes-formed p =
      record {
        size = p.size;
        lines = λ f h.
            subst (λ (g : Frame). is_instruction (decode b t.index.actions g.line (triple_at program (3 * number b f))) ≡ true)
            (number-line b f h.line) (p.lines (number b f) (number-less b f h));
        presets = λ f h e.
            let op : eqb (bytes_on b t.presets f).op 0 ≡ false = above_zero _ (ltb-true 0 (bytes_on b t.presets f).op e) in
            cc (same-triple (bytes_on b t.presets f) (bytes_on b program f) (rw op at (p.held (number b f) (number-less b f h))));
      }

  pub formed-passes : WellFormedProgram t program → Passes t.index t.presets program
  unfolding instruction_on line_allowed line_of is_preset
  formed-passes formed =
      record {
        size = formed.size;
        lines = λ k h. rw (line-offset b k) at (formed.lines (line_of b k) (line-inside b k h));
        held = λ k h. preset-yes t.presets program k (rw (line-offset b k) at (formed.presets (line_of b k) (line-inside b k h)));
      }

-- the bytes of some lines hold these lines
module _ (b : Bounds) (lines : Frame → Instruction) where
  from-length : (left k : ℕ) → length (bytes_from b lines k left) ≡ 3 * left
  unfolding bytes_from
  from-length zero k = refl
  from-length (suc left) k = omega (arith, from-length left (suc k))

  from-triple : (left k j : ℕ) → j < left → triple_at (bytes_from b lines k left) (3 * j) ≡ encode (lines (line_of b (k + j)))
  unfolding bytes_from triple_at
  from-triple zero k j h = absurd (omega arith)
  from-triple (suc left) k zero h = let e : k + 0 ≡ k = omega arith in rw e refl
  from-triple (suc left) k (suc j) h =
      let e : 3 * suc j ≡ 3 + 3 * j = omega arith in
      let g : k + suc j ≡ suc k + j = omega arith in
      rw (e, g) (triple-behind (bytes_from b lines k (suc left)) 3 (3 * j) ∙ from-triple left (suc k) j (omega arith))

  pub program-length : length (program_of b lines) ≡ program_size b
  unfolding program_of
  program-length = from-length (line_count b) 0

  pub program-holds : Holds b (program_of b lines) lines
  unfolding program_of line_offset
  program-holds f h =
      let e : 0 + number b f ≡ number b f = omega arith in
      from-triple (line_count b) 0 (number b f) (number-less b f h) ∙ ap (λ (g : Frame). encode (lines g)) (ap (line_of b) e ∙ number-line b f h.line)
