-- A program's verdict, question by question, and what a program that passes has; the number of a line in its procedure, as the lines are counted through all
-- procedures: it grows by one, or starts again at 0; a line's number in that count, and back; and the instruction on a line that has one, told by its op alone.
-- Assumes nothing.
use Prim.Native.Nat.{ℕ, ◌+◌, ◌*◌, ◌/◌, ◌%◌, ◌≤◌, ◌<◌}
use mathlib.Core.List.{List}
use lib.ListN.{length}
use mathlib.Core.Bool.{Bool, true, false, false≢true, cond, ◌&&◌}
use lib.Dec.{eqb, ltb}
use borrow.Author.Tests.{lt-ltb, le-ltb, ltb-false, eq-eqb, ne_eqb, eqb-true}
use mathlib.Core.Path.{◌≡◌, refl, sym, ap, ◌∙◌}
use native.Mathlib.Nat.{mod-lt, mod-add-mod, mod-eq_of_lt, mod_self, div-add-mod', mul-le-mul_right, mul-add-mod_self_right, mul-add-div_right, div-eq_of_lt}
use native.Mathlib.Omega.{arith}
use Rattle.records.specs.Numbers.{byte_at}
use Rattle.records.proofs.Laws.Tests.{cond_either}
use Rattle.task.proofs.Laws.First.{found-most, all_found, found_all}
use Rattle.task.proofs.Laws.Verdict.{refused-accepted}
use Rattle.task.specs.Bounds.{line_count, program_size}
use Rattle.task.specs.First.{first_no}
use Rattle.task.specs.Instruction.{keep, spelled, allowed, where_allowed, decode, triple_at}
use Rattle.task.specs.Program.{instruction_on, is_instruction, line_allowed, line_offset, same_triple, preset_held, every_line, program_verdict}
use Rattle.task.specs.Questions.{PROGRAM-LENGTH, PROGRAM-LINES, PROGRAM-PRESETS}
use Rattle.task.specs.declared.bounds.Bounds.{Bounds}
use Rattle.task.specs.declared.index.Index.{Index}
use Rattle.task.specs.declared.instruction.Line.{Line}
use Rattle.task.specs.declared.instruction.Proc.{Proc}
use Rattle.task.specs.declared.instruction.Triple.{Triple}
use Rattle.task.specs.declared.instruction.Instruction.{Instruction}
use Rattle.std.proofs.Math.Bool.{and_assoc}
use Rattle.std.specs.Prelude.{Option, Some, None}
use Rattle.task.specs.Verdict.{Verdict, Accepted, Refused}

module _ (last k line : ℕ) (e : line ≡ k % (last + 1)) where
  same_line : (line + 1) % (last + 1) ≡ (k + 1) % (last + 1)
  same_line = rw e (mod-add-mod k (last + 1) 1)

  pub line-next : line < last → line + 1 ≡ (k + 1) % (last + 1)
  line-next h = sym (mod-eq_of_lt (omega arith)) ∙ same_line

  pub line-again : last ≤ line → 0 ≡ (k + 1) % (last + 1)
  line-again h =
      let t : line ≡ last = omega (arith, mod-lt k {m = last + 1} (omega arith)) in
      sym (rw t (mod_self (last + 1))) ∙ same_line

-- the number of a line, counted through all procedures
abbrev pub line_number : Bounds → Proc → Line → ℕ
line_number b procedure line = procedure.0 * (b.last + 1) + line.0

-- and back, to the procedure and the line
pub line-parts : (last j i : ℕ) → i ≤ last → ((j * (last + 1) + i) / (last + 1) ≡ j) × ((j * (last + 1) + i) % (last + 1) ≡ i)
line-parts last j i h =
    let short : i < last + 1 = omega arith in (
      mul-add-div_right {m = last + 1} (omega arith) j i ∙ omega (arith, div-eq_of_lt short),
      mul-add-mod_self_right j (last + 1) i ∙ mod-eq_of_lt short,
    )

-- `n` is the number of lines, `a` and `k` how many pass questions 26 and 27 before the first that does not
module _ (i : Index) (presets program : List ℕ) (n : ℕ) (e : n ≡ line_count i.bounds) where
  pub size-no : (length program ≡ 3 * n → ⊥) → Refused PROGRAM-LENGTH 0 ≡ program_verdict i presets program
  unfolding program_verdict
  size-no h = simp (ne_eqb (length program) (3 * line_count i.bounds) (λ (f : length program ≡ 3 * line_count i.bounds). h (omega arith)))

  module _ (s : length program ≡ 3 * n) (a : ℕ) (found : a ≡ first_no (line_allowed i program) n) where
    f : a ≡ first_no (line_allowed i program) (line_count i.bounds)
    f = found ∙ ap (first_no (line_allowed i program)) e

    size-yes : eqb (length program) (3 * line_count i.bounds) ≡ true
    size-yes = eq-eqb (length program) (3 * line_count i.bounds) (omega arith)

    pub lines-no : a < n → Refused PROGRAM-LINES (3 * a) ≡ program_verdict i presets program
    unfolding program_verdict every_line
    lines-no h = rw f (simp (size-yes, lt-ltb (first_no (line_allowed i program) (line_count i.bounds)) (line_count i.bounds) (omega (arith, f))))

    module _ (h : n ≤ a) (k : ℕ) (g : k ≡ first_no (preset_held presets program) n) where
      lines-yes : ltb (first_no (line_allowed i program) (line_count i.bounds)) (line_count i.bounds) ≡ false
      lines-yes = le-ltb (first_no (line_allowed i program) (line_count i.bounds)) (line_count i.bounds) (omega (arith, f))

      here : k ≡ first_no (preset_held presets program) (line_count i.bounds)
      here = g ∙ ap (first_no (preset_held presets program)) e

      pub presets-no : k < n → Refused PROGRAM-PRESETS (3 * k) ≡ program_verdict i presets program
      unfolding program_verdict every_line
      presets-no l =
          rw here
          (simp (size-yes, lines-yes, lt-ltb (first_no (preset_held presets program) (line_count i.bounds)) (line_count i.bounds) (omega (arith, here))))

      pub program-good : n ≤ k → Accepted 0 ≡ program_verdict i presets program
      unfolding program_verdict every_line
      program-good l =
          simp (size-yes, lines-yes, le-ltb (first_no (preset_held presets program) (line_count i.bounds)) (line_count i.bounds) (omega (arith, here)))

-- questions 26 and 27 at one line
pub line-test : (i : Index) (program : List ℕ) (k line : ℕ) (w : Triple) (r t : Bool) → line ≡ k % (i.bounds.last + 1)
    → w ≡ triple_at program (3 * k) → r ≡ is_instruction (decode i.bounds i.actions (record { 0 = line }) w) → r ≡ t → line_allowed i program k ≡ t
unfolding line_allowed
line-test i program k line w r t e f g h = rw (← f, ← e) (sym g ∙ h)

module _ (presets program : List ℕ) (k op : ℕ) (e : op ≡ byte_at presets (3 * k)) where
  pub preset-none : op ≡ 0 → true ≡ preset_held presets program k
  unfolding preset_held triple_at
  preset-none h = simp (eq-eqb _ _ (sym e ∙ h))

  pub preset-test : (op ≡ 0 → ⊥) → (p q : ℕ) (w : Triple) → p ≡ byte_at presets (3 * k + 1) → q ≡ byte_at presets (3 * k + 2)
      → w ≡ triple_at program (3 * k) → (eqb op w.op && (eqb p w.p && eqb q w.q)) ≡ preset_held presets program k
  unfolding preset_held triple_at same_triple
  preset-test n p q w f g h =
      let z : eqb (byte_at presets (3 * k)) 0 ≡ false = ne_eqb _ _ (λ (d : byte_at presets (3 * k) ≡ 0). n (e ∙ d)) in
      sym (and_assoc (eqb op w.op) (eqb p w.p) (eqb q w.q)) ∙ simp z (cc)

-- line number k, counted through all procedures, is line k % (n + 1) of procedure k / (n + 1), and begins at 3 * k
pub line-offset : (b : Bounds) (k : ℕ) → line_offset b (record { 0 = k / (b.last + 1) }) (record { 0 = k % (b.last + 1) }) ≡ 3 * k
unfolding line_offset
line-offset b k = rw (div-add-mod' k (b.last + 1)) refl

-- a program that passes questions 25 to 27: it has its length, and each of its lines passes
pub record Passes (i : Index) (presets program : List ℕ) : Type 0 where
  pub size : length program ≡ program_size i.bounds
  pub lines : (k : ℕ) → k < line_count i.bounds → line_allowed i program k ≡ true
  pub held : (k : ℕ) → k < line_count i.bounds → preset_held presets program k ≡ true

module _ (i : Index) (presets program : List ℕ) where
  -- a verdict that accepts has come through the question before it
  every-passed : (question : ℕ) (test : ℕ → Bool) (rest : Verdict) (v : ℕ) → every_line i question test rest ≡ Accepted v
      → ((k : ℕ) → k < line_count i.bounds → test k ≡ true) × (rest ≡ Accepted v)
  unfolding every_line
  every-passed question test rest v = on (ltb (first_no test (line_count i.bounds)) (line_count i.bounds)) refl
    where
      on : (t : Bool) → ltb (first_no test (line_count i.bounds)) (line_count i.bounds) ≡ t
          → cond t (Refused question (3 * first_no test (line_count i.bounds))) rest ≡ Accepted v
          → ((k : ℕ) → k < line_count i.bounds → test k ≡ true) × (rest ≡ Accepted v)
      on true e h = absurd (refused-accepted h)
      on false e h = (
        found_all test (line_count i.bounds)
            (omega (arith, ltb-false (first_no test (line_count i.bounds)) (line_count i.bounds) e, found-most test (line_count i.bounds))),
        h,
      )

  pub program-passes : (v : ℕ) → program_verdict i presets program ≡ Accepted v → Passes i presets program
  unfolding program_verdict
  program-passes v = on (eqb (length program) (program_size i.bounds)) refl
    where
      on : (t : Bool) → eqb (length program) (program_size i.bounds) ≡ t
          → cond t (every_line i PROGRAM-LINES (line_allowed i program) (every_line i PROGRAM-PRESETS (preset_held presets program) (Accepted 0)))
          (Refused PROGRAM-LENGTH 0)
          ≡ Accepted v
          → Passes i presets program
      on true e h =
          let lines = every-passed PROGRAM-LINES (line_allowed i program) _ v h in
          let held = every-passed PROGRAM-PRESETS (preset_held presets program) _ v lines.1 in
          record { size = eqb-true _ _ e; lines = lines.0; held = held.0 }
      on false e h = absurd (refused-accepted h)

  pub passes-program : Passes i presets program → Accepted 0 ≡ program_verdict i presets program
  passes-program p =
      let n = line_count i.bounds in
      let lines = all_found (line_allowed i program) n p.lines in
      let held = all_found (preset_held presets program) n p.held in
      program-good i presets program n refl p.size _ refl (omega (arith, lines)) _ refl (omega (arith, held))

-- a line of a program that passes has its three bytes, and an instruction that is allowed there
module _ (i : Index) (presets program : List ℕ) (p : Passes i presets program) (procedure : Proc) (line : Line)
    (h : procedure.0 < i.bounds.procedures) (l : line.0 ≤ i.bounds.last) where
  abbrev number : ℕ
  number = line_number i.bounds procedure line

  below : number < line_count i.bounds
  unfolding line_count
  below = omega (arith, mul-le-mul_right (i.bounds.last + 1) h)

  pub line-there : line_offset i.bounds procedure line + 3 ≤ length program
  unfolding line_offset
  line-there = omega (arith, below, p.size)

  pub line-passes : is_instruction (instruction_on i program procedure line) ≡ true
  unfolding instruction_on line_offset line_allowed
  line-passes =
      rw (line-parts i.bounds.last procedure.0 line.0 l).1 at (p.lines number below)

-- three bytes that decode spell an instruction, and it is the one that they decode to
decoded-spelled : (b : Bounds) (actions : ℕ) (line : Line) (w : Triple) → is_instruction (decode b actions line w) ≡ true
    → (is_instruction (spelled w) ≡ true) × ((v : Instruction) → spelled w ≡ Some v → decode b actions line w ≡ Some v)
unfolding decode where_allowed keep is_instruction
decoded-spelled b actions line w h = by (spelled w) h
  where
    kept : (ok : Bool) (v : Instruction) → is_instruction (keep ok (Some v)) ≡ true → keep ok (Some v) ≡ Some v
    kept true v is = refl
    kept false v is = absurd (false≢true is)

    by : (d : Option Instruction) → is_instruction (where_allowed b actions line d) ≡ true
        → (is_instruction d ≡ true) × ((v : Instruction) → d ≡ Some v → where_allowed b actions line d ≡ Some v)
    by (Some v) is = (refl, λ u e. kept (allowed b actions line v) v is ∙ e)
    by None is = absurd (false≢true is)

-- the instruction on a line that has one is the one that its bytes `w` spell
module _ (i : Index) (program : List ℕ) (procedure : Proc) (line : Line) (is : is_instruction (instruction_on i program procedure line) ≡ true)
    (at : ℕ) (w : Triple) (e : at ≡ line_offset i.bounds procedure line) (f : w ≡ triple_at program at) where
  decoded : instruction_on i program procedure line ≡ decode i.bounds i.actions line w
  unfolding instruction_on
  decoded = rw (f, e)

  spells : (is_instruction (spelled w) ≡ true) × ((v : Instruction) → spelled w ≡ Some v → decode i.bounds i.actions line w ≡ Some v)
  spells = decoded-spelled i.bounds i.actions line w (sym (ap is_instruction decoded) ∙ is)

  pub line-spells : is_instruction (spelled w) ≡ true
  line-spells = spells.0

  pub line-spelled : (v : Instruction) → spelled w ≡ Some v → instruction_on i program procedure line ≡ Some v
  line-spelled v k = decoded ∙ spells.1 v k

-- a property of its refusals, with a number from 25 on at the offset of a line or 0, and of an acceptance is one of a program's own verdict
module _ (Q : Verdict → Type 0) (i : Index) where
  every-has : (question : ℕ) (test : ℕ → Bool) (rest : Verdict) → ((k : ℕ) → k ≤ line_count i.bounds → Q (Refused question (3 * k))) → Q rest
      → Q (every_line i question test rest)
  unfolding every_line
  every-has question test rest h r =
      cond_either Q (ltb (first_no test (line_count i.bounds)) (line_count i.bounds)) _ rest
      (λ e. h _ (found-most test (line_count i.bounds))) (λ e. r)

  pub program-has : (presets program : List ℕ) → ((question k : ℕ) → 25 ≤ question → k ≤ line_count i.bounds → Q (Refused question (3 * k))) → Q (Accepted 0)
      → Q (program_verdict i presets program)
  unfolding program_verdict
  program-has presets program h a =
      cond_either Q (eqb (length program) (program_size i.bounds)) _ _
      (λ e. every-has _ (line_allowed i program) _ (λ k. h _ k (omega arith)) (every-has _ (preset_held presets program) _ (λ k. h _ k (omega arith)) a))
      (λ e. h _ 0 (omega arith) (omega arith))
