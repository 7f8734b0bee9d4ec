-- A possible position by its parts.
-- Assumes nothing.
use Prim.Native.Nat.{ℕ, zero, suc, ◌≤◌, ◌<◌}
use mathlib.Core.Path.{◌≡◌, refl, sym, ◌∙◌}
use mathlib.Core.Bool.{Bool, beq, true, false, cond, ◌&&◌, true≢false}
use native.Mathlib.Nat.{zero-add}
use native.Mathlib.Omega.{arith}
use lib.Dec.{leb, eqb, ltb}
use lib.ListN.{length, get_or}
use Rattle.std.specs.List.{list_all, enumerate_from}
use borrow.Author.Tests.{ne_eqb, leb-true, le-leb, eqb-true, eq-eqb}
use Rattle.records.proofs.Laws.Tests.{both_true}
use Rattle.task.specs.Bounds.{between}
use Rattle.task.specs.Facts.{within}
use Rattle.task.specs.declared.bounds.Bounds.{Bounds}
use Rattle.task.specs.declared.index.Index.{Index}
use Rattle.task.proofs.Laws.Bounds.{between-true}
use Rattle.step.specs.Facts.{every}
use Rattle.step.specs.Position.{origin}
use Rattle.step.specs.Possible.{in_use, unused, frame_fits, depth_fits, possible}
use Rattle.step.specs.declared.position.Frame.{Frame}
use Rattle.step.specs.declared.position.Position.{Position}
use Rattle.step.proofs.Laws.Facts.{every-listed}

-- no frame exactly when all cases are finished, and at most m, after other tests
pub depth-tests : (i : Index) (s : Position) (before : Bool)
    → (before && beq (eqb s.case i.cases) (eqb s.depth 0) && leb s.depth i.bounds.stack) ≡ (before && depth_fits i s)
unfolding depth_fits
depth-tests i s false = refl
depth-tests i s true = tests (eqb s.case i.cases) s.depth i.bounds.stack
  where
    tests : (finished : Bool) (d m : ℕ) → (beq finished (eqb d 0) && leb d m) ≡ cond finished (eqb d 0) (between 1 d m)
    tests true zero m = le-leb 0 m (omega arith)
    tests true (suc d) m = simp (ne_eqb (suc d) 0 (omega arith))
    tests false zero m = refl
    tests false (suc d) m = simp (ne_eqb (suc d) 0 (omega arith), le-leb 1 (suc d) (omega arith))

-- the questions that a possible position answers with yes
pub record Parts (i : Index) (s : Position) : Type 0 where
  pub case : s.case ≤ i.cases
  pub facts : within i.bounds.facts s.facts ≡ true
  pub steps : s.steps ≤ i.bounds.steps
  pub depth : depth_fits i s ≡ true
  pub frames : every 16 (frame_fits i.bounds s) ≡ true

module _ (i : Index) (s : Position) where
  pub parts : possible i s ≡ true → Parts i s
  unfolding possible
  parts h =
      let c = leb s.case i.cases in
      let f = within i.bounds.facts s.facts in
      let t = leb s.steps i.bounds.steps in
      let h₄ = both_true (c && f && t && depth_fits i s) (every 16 (frame_fits i.bounds s)) h in
      let h₃ = both_true (c && f && t) (depth_fits i s) h₄.0 in
      let h₂ = both_true (c && f) t h₃.0 in
      let h₁ = both_true c f h₂.0 in
      record {
        case = leb-true s.case i.cases h₁.0;
        facts = h₁.1;
        steps = leb-true s.steps i.bounds.steps h₂.1;
        depth = h₃.1;
        frames = h₄.1;
      }

  pub parts-possible : Parts i s → possible i s ≡ true
  unfolding possible
  parts-possible p = simp (le-leb s.case i.cases p.case, p.facts, le-leb s.steps i.bounds.steps p.steps, p.depth, p.frames)

  -- with a frame, a case is open and the depth is from 1 to m
  pub depth-open : depth_fits i s ≡ true → 0 < s.depth → (s.case ≡ i.cases → ⊥) × (s.depth ≤ i.bounds.stack)
  unfolding depth_fits
  depth-open h l = by (eqb s.case i.cases) refl h
    where
      by : (b : Bool) → eqb s.case i.cases ≡ b → cond b (eqb s.depth 0) (between 1 s.depth i.bounds.stack) ≡ true
          → (s.case ≡ i.cases → ⊥) × (s.depth ≤ i.bounds.stack)
      by true e k = absurd (omega (arith, eqb-true s.depth 0 k))
      by false e k = (λ c. true≢false (sym (eq-eqb s.case i.cases c) ∙ e), (between-true 1 s.depth i.bounds.stack k).1)

  -- with a case open there is a frame
  pub case_open : depth_fits i s ≡ true → (s.case ≡ i.cases → ⊥) → 0 < s.depth
  unfolding depth_fits
  case_open h n = (between-true 1 s.depth i.bounds.stack (rw (ne_eqb s.case i.cases n) at h)).0

  -- with all cases finished there is none
  pub case-finished : depth_fits i s ≡ true → s.case ≡ i.cases → s.depth ≡ 0
  unfolding depth_fits
  case-finished h e = eqb-true s.depth 0 (rw (eq-eqb s.case i.cases e) at h)

-- a slot of the stack with its place, as the code asks it
abbrev pub slot_fits : Bounds → Position → ℕ × Frame → Bool
slot_fits b s (k, frame) = cond (ltb k s.depth) (in_use b frame) (unused frame)

pub slots-fit : (b : Bounds) (s : Position) → length s.frames ≡ 16
    → list_all (slot_fits b s) (enumerate_from 0 s.frames) ≡ every 16 (frame_fits b s)
unfolding frame_fits
slots-fit b s size =
    (rw size at (every-listed (slot_fits b s) origin 0 s.frames)) ∙ (λ i. every 16 (λ k. slot_fits b s (zero-add k i, get_or s.frames k origin)))
