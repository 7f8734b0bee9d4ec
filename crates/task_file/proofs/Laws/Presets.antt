-- A program that holds some presets, with one more: where no preset names its line, the line is free, and is then held; and a line that is free is named by
-- none, because an instruction that is not empty leaves no line free.
-- Assumes nothing.
use Prim.Native.Nat.{ℕ, ◌+◌, ◌*◌, ◌/◌, ◌%◌, ◌≤◌}
use mathlib.Core.Path.{◌≡◌, sym, ap, ◌∙◌}
use mathlib.Core.List.{List, [], ◌∷◌, ◌++◌}
use native.Mathlib.Decide.{ℕ_discrete}
use lib.ListN.{length, replicate}
use Rattle.records.specs.Numbers.{byte_at}
use Rattle.records.proofs.Laws.Numbers.{zero-at}
use Rattle.task.specs.Instruction.{encode, triple_at, with_triple}
use Rattle.task.specs.Program.{line_offset, line_bytes}
use Rattle.task.specs.Task.{Preset}
use Rattle.task.specs.declared.bounds.Bounds.{Bounds}
use Rattle.task.specs.declared.instruction.Instruction.TheVariants.{Empty}
use Rattle.task.specs.declared.instruction.Line.{Line}
use Rattle.task.specs.declared.instruction.Proc.{Proc}
use Rattle.task.specs.declared.instruction.Triple.{Triple}
use Rattle.task.proofs.Laws.Program.{line_number, line-parts}
use Rattle.task.proofs.Laws.Instruction.{op-empty}
use Rattle.task.proofs.Laws.Triple.{put-here, put_other}
use Rattle.task_file.specs.TaskFile.{HoldsPresets}
use Rattle.task_file.specs.WellFormed.{Every, none, also, On}
use Rattle.task_file.proofs.Laws.Every.{every-head, every_first, every-last, every_more, every-gives, every-both}

-- the number of a preset's line
abbrev pub preset_number : Bounds → Preset → ℕ
preset_number b p = line_number b p.procedure p.line

-- the program so far, by the numbers of the lines
pub record HeldByNumber (b : Bounds) (presets : List Preset) (program : List ℕ) : Type 0 where
  pub each : Every (λ (p : Preset). triple_at program (3 * preset_number b p) ≡ encode p.instruction) presets
  pub other : (k : ℕ) → Every (λ (p : Preset). preset_number b p ≡ k → ⊥) presets → triple_at program (3 * k) ≡ encode Empty

module _ (b : Bounds) where
  pub none-held : HeldByNumber b [] (replicate 768 0)
  unfolding triple_at encode
  none-held = record { each = none; other = λ k h. simp zero-at }

  module _ (l : List Preset) (program : List ℕ) (held : HeldByNumber b l program) (p : Preset) where
    -- no preset of the list is on the line of `p`
    abbrev pub Apart : Type 0
    Apart = Every (λ (q : Preset). preset_number b q ≡ preset_number b p → ⊥) l

    pub one-held : 3 * preset_number b p + 3 ≤ length program → Apart
        → HeldByNumber b (l ++ (p ∷ [])) (with_triple program (line_offset b p.procedure p.line) (encode p.instruction))
    unfolding line_offset
    one-held room apart =
        let w = encode p.instruction in
        record {
          each =
              every_more
              (every-gives (λ q h. put_other program (preset_number b p) w (preset_number b q) h.1 ∙ h.0) (every-both held.each apart))
              (put-here program (preset_number b p) w room);
          other =
              λ k h.
              put_other program (preset_number b p) w k (λ (e : k ≡ preset_number b p). every-head (every-last l (p ∷ []) h) (sym e))
              ∙ held.other k (every_first l (p ∷ []) h);
        }

    pub apart-free : Apart → byte_at program (line_offset b p.procedure p.line) ≡ 0
    unfolding line_offset triple_at encode
    apart-free apart = ap (λ (w : Triple). w.op) (held.other (preset_number b p) apart)

    pub free-apart : Every (λ (q : Preset). q.instruction ≡ Empty → ⊥) l → byte_at program (line_offset b p.procedure p.line) ≡ 0 → Apart
    unfolding line_offset triple_at
    free-apart nonempty free =
        every-gives
        (λ q h e. h.1 (op-empty q.instruction (sym (ap (λ (w : Triple). w.op) h.0) ∙ ap (λ (k : ℕ). byte_at program (3 * k)) e ∙ free)))
        (every-both held.each nonempty)

  -- lines of one number are one line
  pub number-on : (j : Proc) (i : Line) (p : Preset) → i.0 ≤ b.last → p.line.0 ≤ b.last → preset_number b p ≡ line_number b j i → On j i p
  number-on j i p h k e =
      let m = line-parts b.last p.procedure.0 p.line.0 k in
      let n = line-parts b.last j.0 i.0 h in (
        sym m.0 ∙ ap (λ (x : ℕ). x / (b.last + 1)) e ∙ n.0,
        sym m.1 ∙ ap (λ (x : ℕ). x % (b.last + 1)) e ∙ n.1,
      )

  pub on-number : (j : Proc) (i : Line) (p : Preset) → On j i p → preset_number b p ≡ line_number b j i
  on-number j i p on = rw (on.0, on.1)

  -- by the lines themselves
  pub held-presets : (l : List Preset) (program : List ℕ) → HeldByNumber b l program → Every (λ (p : Preset). p.line.0 ≤ b.last) l → HoldsPresets b l program
  unfolding line_offset
  held-presets l program held lines =
      record {
        each = held.each;
        other = λ j i h none. held.other (line_number b j i) (every-gives (λ p g e. g.1 (number-on j i p h g.0 e)) (every-both lines none));
      }

-- two programs that hold the same presets are the same on each line 0 to n of every procedure
module _ (b : Bounds) (program other : List ℕ) (j : Proc) (i : Line) where
  abbrev Same : Type 0
  Same = line_bytes b program j i ≡ line_bytes b other j i

  -- what a program holds on the line of a preset that is on this line
  on_line : (held : List ℕ) (p : Preset) → On j i p → line_bytes b held p.procedure p.line ≡ line_bytes b held j i
  unfolding line_offset
  on_line held p on = rw (on.0, on.1)

  by-line : (l : List Preset) → Every (λ (p : Preset). line_bytes b program p.procedure p.line ≡ encode p.instruction) l
      → Every (λ (p : Preset). line_bytes b other p.procedure p.line ≡ encode p.instruction) l
      → (Every (λ (p : Preset). On j i p → ⊥) l → Same) → Same
  by-line [] none none rest = rest none
  by-line (p ∷ l) (also e h) (also f k) rest =
      elim (ℕ_discrete p.procedure.0 j.0) [
        | yes a ↦
            elim (ℕ_discrete p.line.0 i.0) [
              | yes d ↦ sym (on_line program p (a, d)) ∙ e ∙ sym f ∙ on_line other p (a, d)
              | no n ↦ by-line l h k (λ others. rest (also (λ on. n on.1) others))
            ]
        | no n ↦ by-line l h k (λ others. rest (also (λ on. n on.0) others))
      ]

  pub holds_same : (l : List Preset) → HoldsPresets b l program → HoldsPresets b l other → i.0 ≤ b.last → Same
  holds_same l h k le = by-line l h.each k.each (λ others. h.other j i le others ∙ sym (k.other j i le others))
