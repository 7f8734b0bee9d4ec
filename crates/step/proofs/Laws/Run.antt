-- The run on a case by itself is determined: from a position it makes one list of steps. The line holds one instruction and leads to one position, and
-- whether the step closes the case says whether it is the last.
-- Assumes nothing.
use Prim.Native.Nat.{ℕ}
use mathlib.Core.Path.{◌≡◌, sym, ap, ◌∙◌, subst}
use mathlib.Core.List.{List, [], ◌∷◌}
use Rattle.task.specs.declared.index.Index.{Index}
use Rattle.task.specs.declared.instruction.Instruction.{Instruction}
use Rattle.std.specs.Prelude.{Some}
use Rattle.step.specs.Run.{Visit, visit, Makes, Ends, last, then}
use Rattle.step.specs.declared.position.Position.{Position}

module _ (bytes : List ℕ) (i : Index) (offsets program : List ℕ) where
  -- one instruction, and one position after it
  makes-once : {s next other : Position} {v w : Instruction} → Makes bytes i offsets program s v next → Makes bytes i offsets program s w other
      → (v ≡ w) × (next ≡ other)
  makes-once {v = v} {w} m n =
      let e : Some v ≡ Some w = sym m.line ∙ n.line in
      let f = sym m.goes ∙ n.goes in
      (cc, cc)

  pub ends-once : {s : Position} {σ τ : List Visit} → Ends bytes i offsets program s σ → Ends bytes i offsets program s τ → σ ≡ τ
  ends-once (last {s} m closes) (last n also) = ap (λ (w : Instruction). visit s w ∷ []) (makes-once m n).0
  ends-once (last m closes) (then n stays more) = absurd (stays (rw (makes-once m n).0 at closes))
  ends-once (then m stays more) (last n closes) = absurd (stays (rw (makes-once n m).0 at closes))
  ends-once (then m stays more) (then {rest = others} n also beyond) =
      let once = makes-once m n in
      let same = ends-once more (subst (λ (p : Position). Ends bytes i offsets program p others) (sym once.1) beyond) in
      cc (once.0, same)
