-- A step keeps a possible position possible: question 31 asks nothing that a step does not keep. A move changes one frame, and what it
-- makes of that frame, of the depth and of the case is in range because the instruction is allowed on its line; the facts stay below F
-- because the task's sets are; and question 14 leaves room for one step more. A position's frames are 16, and stay 16. And a case begins at a
-- possible position.
-- Assumes nothing.
use Prim.Native.Nat.{ℕ, ◌+◌, ◌-◌, ◌≤◌, ◌<◌}
use mathlib.Core.Path.{◌≡◌, refl, ap, ◌∙◌}
use mathlib.Core.Bool.{true}
use mathlib.Core.List.{List}
use native.Mathlib.Decide.{ℕ_discrete, dec_lt}
use native.Mathlib.Omega.{arith}
use lib.ListN.{length, get_or, set, length-set, length-replicate, get_or-replicate}
use lib.Seq.{get_or-set_same, get_or-set_other}
use borrow.Author.Tests.{ltb-true, leb-true, eqb-true, lt-ltb, le-ltb, le-leb, eq-eqb, ne_eqb}
use Rattle.records.specs.Loop.{go}
use Rattle.records.proofs.Laws.Tests.{both_true}
use Rattle.task.specs.Facts.{within, consistent}
use Rattle.task.specs.Index.{effects_of, case_at}
use Rattle.task.specs.Instruction.{allowed}
use Rattle.task.specs.Program.{instruction_on}
use Rattle.task.specs.declared.bounds.Bounds.{Bounds}
use Rattle.task.specs.declared.index.Index.{Index}
use Rattle.task.specs.declared.index.Layout.{Layout}
use Rattle.task.specs.declared.instruction.Instruction.{Instruction}
use Rattle.task.specs.declared.instruction.Line.{Line}
use Rattle.task.specs.declared.instruction.Proc.{Proc}
use Rattle.task.proofs.Laws.Bounds.{Ranges, ranges}
use Rattle.task.proofs.Laws.Instruction.{Allowed, allows, decode-allowed}
use Rattle.task.proofs.Laws.Passed.{Passed}
use Rattle.step.specs.Effects.{changes_of, changed}
use Rattle.step.specs.Perform.{perform, run_step}
use Rattle.step.specs.Position.{origin, starting, top, jumped, advanced, pushed, popped, with_facts, next_case, finished, counted}
use Rattle.step.specs.Possible.{in_use, unused, frame_fits, depth_fits, possible}
use Rattle.step.specs.declared.position.Frame.{Frame}
use Rattle.step.specs.declared.position.Position.{Position}
use Rattle.step.proofs.Laws.Effects.{effects-below}
use Rattle.step.proofs.Laws.Facts.{every-at, every-all}
use Rattle.step.proofs.Laws.Perform.{Move, acts, falls-through, jumps, calls, returns, begins, finishes, performed, move-steps, step-ran}
use Rattle.step.proofs.Laws.Possible.{Parts, parts, parts-possible, depth-open}

-- frame number k of a stack of so many frames, in use or not
record Fitting (b : Bounds) (depth k : ℕ) (f : Frame) : Type 0 where
  used : k < depth → (f.procedure.0 < b.procedures) × (f.line.0 ≤ b.last)
  free : depth ≤ k → (f.procedure.0 ≡ 0) × (f.line.0 ≡ 0)

module _ (b : Bounds) (s : Position) (k : ℕ) where
  fitting : frame_fits b s k ≡ true → Fitting b s.depth k (get_or s.frames k origin)
  unfolding frame_fits in_use unused
  fitting h =
      record {
        used = λ l. let z = both_true _ _ (rw (lt-ltb k s.depth l) at h) in (ltb-true _ _ z.0, leb-true _ _ z.1);
        free = λ l. let z = both_true _ _ (rw (le-ltb k s.depth l) at h) in (eqb-true _ _ z.0, eqb-true _ _ z.1);
      }

  fitting-fits : Fitting b s.depth k (get_or s.frames k origin) → frame_fits b s k ≡ true
  unfolding frame_fits in_use unused
  fitting-fits h =
      let f = get_or s.frames k origin in
      elim (dec_lt k s.depth) [
        | yes l ↦ let u = h.used l in simp (lt-ltb k s.depth l, lt-ltb f.procedure.0 b.procedures u.0, le-leb f.line.0 b.last u.1)
        | no n ↦
            let l : s.depth ≤ k = omega arith in
            let u = h.free l in
            simp (le-ltb k s.depth l, eq-eqb f.procedure.0 0 u.0, eq-eqb f.line.0 0 u.1)
      ]

-- with a frame, a possible position's top frame is one that a program has
pub top-used : (i : Index) (s : Position) → Parts i s → Ranges i.bounds → 0 < s.depth
    → ((top s).procedure.0 < i.bounds.procedures) × ((top s).line.0 ≤ i.bounds.last)
unfolding top
top-used i s p r above =
    let d = depth-open i s p.depth above in
    (fitting i.bounds s (s.depth - 1) (every-at _ 16 p.frames (s.depth - 1) (omega (arith, d)))).used (omega arith)

module _ (i : Index) where
  -- a possible position with room for 16 frames
  record Sound (s : Position) : Type 0 where
    parts : Parts i s
    room : length s.frames ≡ 16

  -- a move from position s to u that makes frame number n another one: the other frames are in use or not as before, and the frame, the
  -- case and the depth are in range
  record OneFrame (s u : Position) (n : ℕ) (f : Frame) : Type 0 where
    place : n < 16
    frame : Fitting i.bounds u.depth n f
    others : (k : ℕ) → (k ≡ n → ⊥) → (k < u.depth → k < s.depth) × (u.depth ≤ k → s.depth ≤ k)
    case : u.case ≤ i.cases
    none : u.case ≡ i.cases → u.depth ≡ 0
    some : (u.case ≡ i.cases → ⊥) → (1 ≤ u.depth) × (u.depth ≤ i.bounds.stack)

  module _ (s : Position) (sound : Sound s) where
    module _ (u : Position) (n : ℕ) (f : Frame) (e : u.frames ≡ set s.frames n f) (sets : OneFrame s u n f) where
      frame-fits : (k : ℕ) → k < 16 → frame_fits i.bounds u k ≡ true
      frame-fits k l =
          fitting-fits i.bounds u k
          (elim (ℕ_discrete k n) [
            | yes m ↦ rw (m, e, get_or-set_same s.frames n f origin (omega arith)) sets.frame
            | no m ↦
                let g = fitting i.bounds s k (every-at _ 16 sound.parts.frames k l) in
                rw (e, get_or-set_other s.frames n k f origin m)
                (record { used = λ h. g.used ((sets.others k m).0 h); free = λ h. g.free ((sets.others k m).1 h) })
          ])

      depth-fits : depth_fits i u ≡ true
      unfolding depth_fits
      depth-fits =
          elim (ℕ_discrete u.case i.cases) [
            | yes c ↦ simp (eq-eqb u.case i.cases c, eq-eqb u.depth 0 (sets.none c))
            | no c ↦
                let d = sets.some c in
                simp (ne_eqb u.case i.cases c, le-leb 1 u.depth d.0, le-leb u.depth i.bounds.stack d.1)
          ]

      sets-sound : u.steps ≡ s.steps → within i.bounds.facts u.facts ≡ true → Sound u
      sets-sound t h =
          record {
            parts =
                record {
                  case = sets.case;
                  facts = h;
                  steps = omega arith;
                  depth = depth-fits;
                  frames = every-all (frame_fits i.bounds u) 16 frame-fits;
                };
            room = ap length e ∙ length-set s.frames n f ∙ sound.room;
          }

    -- the moves of a position with a frame
    module _ (r : Ranges i.bounds) (above : 0 < s.depth) where
      used : ((top s).procedure.0 < i.bounds.procedures) × ((top s).line.0 ≤ i.bounds.last)
      used = top-used i s sound.parts r above

      abbrev open-case : (s.case ≡ i.cases → ⊥) × (s.depth ≤ i.bounds.stack)
      open-case = depth-open i s sound.parts.depth above

      jumped-sound : (line : Line) → line.0 ≤ i.bounds.last → Sound (jumped s line)
      unfolding jumped
      jumped-sound line h = sets-sound (jumped s line) (s.depth - 1) _ refl (omega (arith, open-case, used)) refl sound.parts.facts

      advanced-sound : (top s).line.0 < i.bounds.last → Sound (advanced s)
      unfolding advanced
      advanced-sound h = jumped-sound _ (omega arith)

      pushed-sound : (procedure : Proc) → s.depth < i.bounds.stack → procedure.0 < i.bounds.procedures → Sound (pushed s procedure)
      unfolding pushed
      pushed-sound procedure h k = sets-sound (pushed s procedure) s.depth _ refl (omega (arith, open-case)) refl sound.parts.facts

      popped-sound : 1 < s.depth → Sound (popped s)
      unfolding popped origin
      popped-sound h = sets-sound (popped s) (s.depth - 1) _ refl (omega (arith, open-case)) refl sound.parts.facts

      next-sound : (start : ℕ) → s.depth ≤ 1 → s.case + 1 < i.cases → within i.bounds.facts start ≡ true → Sound (next_case s start)
      unfolding next_case origin
      next-sound start h k f = sets-sound (next_case s start) 0 _ refl (omega (arith, open-case)) refl f

      finished-sound : s.depth ≤ 1 → i.cases ≤ s.case + 1 → Sound (finished s)
      unfolding finished origin
      finished-sound h k = sets-sound (finished s) 0 _ refl (omega (arith, open-case)) refl sound.parts.facts

  module _ (s : Position) (sound : Sound s) where
    facts-sound : (facts : ℕ) → within i.bounds.facts facts ≡ true → Sound (with_facts s facts)
    unfolding with_facts depth_fits frame_fits
    facts-sound facts h =
        let p = sound.parts in
        record { parts = record { case = p.case; facts = h; steps = p.steps; depth = p.depth; frames = p.frames }; room = sound.room }

    counted-sound : s.steps < i.bounds.steps → Sound (counted s)
    unfolding counted depth_fits frame_fits
    counted-sound h =
        let p = sound.parts in
        record { parts = record { case = p.case; facts = p.facts; steps = omega arith; depth = p.depth; frames = p.frames }; room = sound.room }

module _ (bytes : List ℕ) (t : Layout) (passed : Passed bytes t) where
  abbrev i : Index
  i = t.index

  -- an action leaves the facts below F
  facts_below : (s : Position) (action : ℕ) → within i.bounds.facts s.facts ≡ true → action < i.actions
      → within i.bounds.facts (changed s.facts (changes_of s.facts (effects_of bytes (get_or t.offsets action 0)))) ≡ true
  unfolding within consistent
  facts_below s action h l =
      let sound = passed.action action l in
      lt-ltb _ _
      (effects-below i.bounds.facts s.facts bytes _ (ltb-true _ _ h)
      (λ e m. ltb-true _ _ (both_true _ _ (both_true _ _ (sound.effect e m)).0).0))

  r : Ranges i.bounds
  r = ranges i.bounds passed.bounded

  module _ (s : Position) (sound : Sound i s) (above : 0 < s.depth) where
    move-sound : {w : Instruction} {u : Position} → Move bytes i t.offsets s w u → Allowed i.bounds i.actions (top s).line w → Sound i u
    unfolding advanced jumped
    move-sound (acts {action} h) a =
        facts-sound i _ (advanced-sound i s sound r above a.0) _ (facts_below s action sound.parts.facts a.1)
    move-sound (falls-through h) a = advanced-sound i s sound r above a.0
    move-sound (jumps {target} h) a = jumped-sound i s sound r above target a.1
    move-sound (calls {procedure} h) a = pushed-sound i (advanced s) (advanced-sound i s sound r above a.0) r above procedure h a.1
    move-sound (returns h) a = popped-sound i s sound r above h
    move-sound (begins h k l) a = next-sound i s sound r above _ h l (passed.case (s.case + 1) l).0
    move-sound (finishes h k l) a = finished-sound i s sound r above h l

  pub top-possible : (s : Position) → possible t.index s ≡ true → 0 < s.depth → length s.frames ≡ 16
      → ((top s).procedure.0 < t.index.bounds.procedures) × ((top s).line.0 ≤ t.index.bounds.last)
  top-possible s h above room = top-used i s (parts i s h) r above

  -- an instruction that is allowed on the top frame's line keeps a possible position possible
  pub step-possible : (s : Position) → possible t.index s ≡ true → 0 < s.depth → s.steps < t.index.bounds.steps → length s.frames ≡ 16
      → (w : Instruction) → allowed t.index.bounds t.index.actions (top s).line w ≡ true
      → (u : Position) → perform bytes t.index t.offsets s w ≡ go u → (possible t.index u ≡ true) × (length u.frames ≡ 16)
  step-possible s h above l room w a u e =
      let m = performed bytes i t.offsets s w u e in
      let before : Sound i s = record { parts = parts i s h; room = room } in
      let moved = move-sound s before above m.move (allows i.bounds i.actions (top s).line w a) in
      let sound = counted-sound i m.to moved (omega (arith, move-steps bytes i t.offsets s m.move)) in
      rw m.after (parts-possible i _ sound.parts, sound.room)

  -- and so does a step of any program
  pub run-possible : (s : Position) → possible t.index s ≡ true → 0 < s.depth → length s.frames ≡ 16
      → (program : List ℕ) (u : Position) → run_step bytes t.index t.offsets program s ≡ go u
      → (possible t.index u ≡ true) × (length u.frames ≡ 16)
  unfolding instruction_on
  run-possible s h above room program u e =
      let ran = step-ran bytes i t.offsets s program u e in
      let w = ran.1.instruction in
      step-possible s h above ran.0 room w (decode-allowed i.bounds i.actions (top s).line _ w ran.1.here) u ran.1.does

  starting-fits : (c start k : ℕ) → k < 16 → frame_fits i.bounds (starting c start) k ≡ true
  unfolding starting origin
  starting-fits c start k h =
      fitting-fits i.bounds (starting c start) k (rw (get_or-replicate 16 k origin origin h) (record { used = λ m. omega (arith, r); free = λ m. omega arith }))

  -- a case from its start is possible
  pub starting-possible : (c : ℕ) → c < t.index.cases → (possible t.index (starting c (case_at bytes t.index.first c).start) ≡ true)
      × (length (starting c (case_at bytes t.index.first c).start).frames ≡ 16)
  unfolding starting depth_fits
  starting-possible c l =
      let s = starting c (case_at bytes i.first c).start in (
        parts-possible i s
            (record {
              case = omega arith;
              facts = (passed.case c l).0;
              steps = omega arith;
              depth = simp (ne_eqb c i.cases (omega arith), le-leb 1 i.bounds.stack r.stack.0);
              frames = every-all (frame_fits i.bounds s) 16 (starting-fits c s.facts);
            }),
        length-replicate 16 origin,
      )
