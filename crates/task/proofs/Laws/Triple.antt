-- The three bytes of a line: an instruction is determined by them, and the test of two triples is whether they are the same. Three bytes put on a line are
-- there, and those of every other line stay, because a line begins at a multiple of 3. Three bytes, and the five of a preset and of a plan's step, in what stands
-- from an offset on.
-- Assumes nothing.
use Prim.Native.Nat.{ℕ, ◌+◌, ◌*◌, ◌/◌, ◌≤◌}
use mathlib.Core.Path.{◌≡◌, refl, sym, ap, ◌∙◌}
use mathlib.Core.Bool.{true, ◌&&◌}
use mathlib.Core.List.{List, ◌∷◌}
use native.Mathlib.Nat.{add_assoc}
use native.Mathlib.Omega.{arith}
use lib.ListN.{length, drop, set, length-set}
use lib.Seq.{drop-cons, get_or-set_same, get_or-set_other, set-get_or}
use lib.Dec.{eqb}
use borrow.Author.Tests.{eqb-true, eq-eqb}
use Rattle.records.specs.Numbers.{byte_at}
use Rattle.records.proofs.Laws.Bytes.{byte-behind}
use Rattle.records.proofs.Laws.Tests.{both_true}
use Rattle.task.proofs.Laws.Instruction.{triple-is, encode-decode}
use Rattle.task.specs.Instruction.{keep, spelled, encode, triple_at, with_triple}
use Rattle.task.specs.Program.{line_bytes, instruction_on, spelled_on, same_triple}
use Rattle.task.specs.declared.index.Index.{Index}
use Rattle.task.specs.declared.instruction.Line.{Line}
use Rattle.task.specs.declared.instruction.Proc.{Proc}
use Rattle.task.specs.declared.instruction.Triple.{Triple}
use Rattle.task.specs.declared.instruction.Instruction.{Instruction}
use Rattle.task.specs.declared.instruction.Instruction.TheVariants.{Empty, Act, Goto, Call, End}
use Rattle.std.specs.Prelude.{Some}

-- an instruction is determined by its three bytes
pub spelled-encode : (w : Instruction) → spelled (encode w) ≡ Some w
unfolding spelled encode keep
spelled-encode Empty = refl
spelled-encode (Act action) = refl
spelled-encode (Goto target fact) = refl
spelled-encode (Call procedure) = refl
spelled-encode End = refl

pub encode_injective : (v w : Instruction) → encode v ≡ encode w → v ≡ w
encode_injective v w e =
    let s : Some v ≡ Some w = sym (spelled-encode v) ∙ ap spelled e ∙ spelled-encode w in
    cc

-- an instruction that is decoded on a line has the line's bytes, and is what they spell
pub decoded-on : (i : Index) (program : List ℕ) (procedure : Proc) (line : Line) (w : Instruction) → instruction_on i program procedure line ≡ Some w
    → (encode w ≡ line_bytes i.bounds program procedure line) × (spelled_on i.bounds program procedure line ≡ w)
unfolding instruction_on spelled_on
decoded-on i program procedure line w e =
    let x = encode-decode i.bounds i.actions line (line_bytes i.bounds program procedure line) w e in
    (x, rw (← x, spelled-encode))

-- the test of three bytes, one after the other, is whether they are the same
pub same-triple : (v w : Triple) → same_triple v w ≡ true → v ≡ w
unfolding same_triple
same-triple v w h =
    let k = both_true (eqb v.op w.op && eqb v.p w.p) _ h in
    let l = both_true (eqb v.op w.op) _ k.0 in
    triple-is (eqb-true _ _ l.0) (eqb-true _ _ l.1) (eqb-true _ _ k.1)

pub triple-same : (w : Triple) → same_triple w w ≡ true
unfolding same_triple
triple-same w = simp (eq-eqb w.op w.op refl, eq-eqb w.p w.p refl, eq-eqb w.q w.q refl)

-- three bytes that are there already
pub put_same : (bytes : List ℕ) (at : ℕ) → with_triple bytes at (triple_at bytes at) ≡ bytes
unfolding with_triple triple_at
put_same bytes at = rw (set-get_or bytes at 0, set-get_or bytes (at + 1) 0, set-get_or bytes (at + 2) 0) refl

-- three bytes put on line number k are there, and those of every other line stay
module _ (program : List ℕ) (k : ℕ) (w : Triple) where
  pub put-here : 3 * k + 3 ≤ length program → triple_at (with_triple program (3 * k) w) (3 * k) ≡ w
  unfolding triple_at with_triple
  put-here h =
      let at = 3 * k in
      let first = set program at w.op in
      let second = set first (at + 1) w.p in
      let f : length first ≡ length program = length-set program at w.op in
      let s : length second ≡ length first = length-set first (at + 1) w.p in
      triple-is
      (get_or-set_other second (at + 2) at w.q 0 (omega arith)
      ∙ get_or-set_other first (at + 1) at w.p 0 (omega arith)
      ∙ get_or-set_same program at w.op 0 (omega arith))
      (get_or-set_other second (at + 2) (at + 1) w.q 0 (omega arith) ∙ get_or-set_same first (at + 1) w.p 0 (omega arith))
      (get_or-set_same second (at + 2) w.q 0 (omega arith))

  byte-kept : (at : ℕ) → (at / 3 ≡ k → ⊥) → byte_at (with_triple program (3 * k) w) at ≡ byte_at program at
  unfolding with_triple
  byte-kept at n =
      get_or-set_other (set (set program (3 * k) w.op) (3 * k + 1) w.p) (3 * k + 2) at w.q 0 (omega arith)
      ∙ get_or-set_other (set program (3 * k) w.op) (3 * k + 1) at w.p 0 (omega arith)
      ∙ get_or-set_other program (3 * k) at w.op 0 (omega arith)

  pub put_other : (l : ℕ) → (l ≡ k → ⊥) → triple_at (with_triple program (3 * k) w) (3 * l) ≡ triple_at program (3 * l)
  unfolding triple_at
  put_other l n =
      triple-is (byte-kept (3 * l) (omega arith)) (byte-kept (3 * l + 1) (omega arith)) (byte-kept (3 * l + 2) (omega arith))

-- the three bytes at an offset, in what stands from an earlier one on
pub triple-behind : (bytes : List ℕ) (at k : ℕ) → triple_at bytes (at + k) ≡ triple_at (drop at bytes) k
unfolding triple_at
triple-behind bytes at k = simp (← byte-behind, add_assoc)

-- the five bytes of a preset and of a plan's step: procedure, line and instruction
pub five-bytes : (l : List ℕ) → 5 ≤ length l
    → l ≡ byte_at l 0 ∷ byte_at l 1 ∷ (triple_at l 2).op ∷ (triple_at l 2).p ∷ (triple_at l 2).q ∷ drop 5 l
unfolding triple_at
five-bytes l h =
    cc (
      drop-cons l 0 0 (omega arith),
      drop-cons l 1 0 (omega arith),
      drop-cons l 2 0 (omega arith),
      drop-cons l 3 0 (omega arith),
      drop-cons l 4 0 (omega arith),
    )
