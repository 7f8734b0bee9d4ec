-- What three bytes that spell an instruction spell, op by op.
-- Assumes nothing.
use Prim.Native.Nat.{ℕ, zero, suc}
use mathlib.Core.Path.{◌≡◌, refl, sym, ap, ◌∙◌}
use mathlib.Core.Bool.{Bool, true, false, false≢true, ◌&&◌}
use lib.Dec.{eqb}
use native.Mathlib.Omega.{arith}
use Rattle.task.proofs.Laws.Instruction.{spelled-other}
use Rattle.task.specs.Instruction.{keep, spelled}
use Rattle.task.specs.Program.{is_instruction}
use Rattle.task.specs.declared.instruction.Triple.{Triple}
use Rattle.task.specs.declared.instruction.Instruction.{Instruction}
use Rattle.task.specs.declared.instruction.Instruction.TheVariants.{Empty, Act, Goto, Call, End}
use Rattle.std.specs.Prelude.{Some}

kept : (t : Bool) (w : Instruction) → is_instruction (keep t (Some w)) ≡ true → keep t (Some w) ≡ Some w
unfolding keep is_instruction
kept true w h = refl
kept false w h = absurd (false≢true h)

module _ (w : Triple) (h : is_instruction (spelled w) ≡ true) where
  pub spelled-act : w.op ≡ 1 → spelled w ≡ Some (Act w.p)
  unfolding spelled
  spelled-act e = rw e (kept (eqb w.q 0) _ (rw e at h))

  pub spelled-goto : w.op ≡ 2 → spelled w ≡ Some (Goto (record { 0 = w.p }) w.q)
  unfolding spelled
  spelled-goto e = rw e refl

  pub spelled-call : w.op ≡ 3 → spelled w ≡ Some (Call (record { 0 = w.p }))
  unfolding spelled
  spelled-call e = rw e (kept (eqb w.q 0) _ (rw e at h))

  pub spelled-end : w.op ≡ 4 → spelled w ≡ Some End
  unfolding spelled
  spelled-end e = rw e (kept (eqb w.p 0 && eqb w.q 0) _ (rw e at h))

  pub spelled-empty : (w.op ≡ 1 → ⊥) → (w.op ≡ 2 → ⊥) → (w.op ≡ 3 → ⊥) → (w.op ≡ 4 → ⊥) → spelled w ≡ Some Empty
  unfolding spelled is_instruction
  spelled-empty n₁ n₂ n₃ n₄ = by w.op refl
    where
      by : (op : ℕ) → w.op ≡ op → spelled w ≡ Some Empty
      by zero e = rw e (kept (eqb w.p 0 && eqb w.q 0) _ (rw e at h))
      by (suc zero) e = absurd (n₁ e)
      by (suc (suc zero)) e = absurd (n₂ e)
      by (suc (suc (suc zero))) e = absurd (n₃ e)
      by (suc (suc (suc (suc zero)))) e = absurd (n₄ e)
      by (suc (suc (suc (suc (suc op))))) e = absurd (false≢true (ap is_instruction (sym (spelled-other w (omega arith))) ∙ h))
