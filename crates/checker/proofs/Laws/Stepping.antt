-- A step of the checker's and of the writer's loop, by the head and the callers beside it: at a possible position with a case open and a step
-- left, an instruction that is allowed on the head's line asks no number to leave its type; and with room for a call's frame, the head after it
-- stands for the position after it. `below` is the frame below the top one, once the frame to come back to is kept at the depth.
-- Assumes nothing.
use Prim.Native.Nat.{ℕ, ◌+◌, ◌-◌, ◌≤◌, ◌<◌}
use mathlib.Core.Path.{◌≡◌, refl}
use mathlib.Core.Bool.{Bool, true, false, cond}
use mathlib.Core.List.{List}
use native.Mathlib.Omega.{arith}
use lib.Dec.{ltb}
use lib.ListN.{length, get_or, set}
use lib.Seq.{get_or-set_same}
use Rattle.task.specs.Index.{case_at}
use Rattle.task.specs.Instruction.{allowed}
use Rattle.task.specs.declared.index.Index.{Index}
use Rattle.task.specs.declared.instruction.Instruction.{Instruction}
use Rattle.task.specs.declared.instruction.Instruction.TheVariants.{Empty, Act, Goto, Call, End}
use Rattle.task.specs.declared.instruction.Line.{Line}
use Rattle.task.proofs.Laws.Bounds.{ranges}
use Rattle.task.proofs.Laws.Instruction.{Allowed, allows, allowed-line}
use Rattle.step.specs.Facts.{has}
use Rattle.step.specs.Head.{Stands, Fits, caller_of, jumped_head, advanced_head, pushed_head, popped_head, head_with, next_head, finished_head, counted_head, goto_head, ended_head, moved_head}
use Rattle.step.specs.Moved.{moved_by}
use Rattle.step.specs.Position.{origin, counted}
use Rattle.step.specs.Ready.{Bounded, Known, Room}
use Rattle.step.specs.declared.head.Head.{Head}
use Rattle.step.specs.declared.position.Frame.{Frame}
use Rattle.step.specs.declared.position.Position.{Position}
use Rattle.step.proofs.Laws.Head.{noted-stands, moved-stands}
use Rattle.step.proofs.Laws.Possible.{parts, case_open}
use Rattle.step.proofs.Laws.Ready.{possible-depth}
use Rattle.checker.proofs.Laws.Turns.{Standing}

-- a step counts one
either-counts : (b : Bool) (x y : Head) (n : ℕ) → x.steps ≡ n → y.steps ≡ n → (cond b x y).steps ≡ n
either-counts true x y n e f = e
either-counts false x y n e f = f

moved-counts : (bytes : List ℕ) (i : Index) (h : Head) (below : Frame) (facts : ℕ) (w : Instruction)
    → (moved_head bytes i h below facts w).steps ≡ h.steps
unfolding moved_head goto_head ended_head jumped_head advanced_head pushed_head popped_head head_with next_head finished_head
moved-counts bytes i h below facts Empty = refl
moved-counts bytes i h below facts (Act action) = refl
moved-counts bytes i h below facts (Goto target fact) =
    either-counts (has h.facts fact) (advanced_head h) (jumped_head h target) h.steps refl refl
moved-counts bytes i h below facts (Call procedure) = refl
moved-counts bytes i h below facts End =
    let more = ltb (h.case + 1) i.cases in
    let next = next_head h (case_at bytes i.first (h.case + 1)).start in
    either-counts (ltb 1 h.depth) (popped_head h below) (cond more next (finished_head h)) h.steps refl
    (either-counts more next (finished_head h) h.steps refl refl)

pub more-steps : (bytes : List ℕ) (i : Index) (h : Head) (below : Frame) (facts : ℕ) (w : Instruction) (n : Head)
    → n ≡ counted_head (moved_head bytes i h below facts w) → n.steps ≡ h.steps + 1
unfolding counted_head
more-steps bytes i h below facts w n e = rw e (omega (arith, moved-counts bytes i h below facts w))

-- an action that is allowed is one of the task's
pub allowed-known : (i : Index) (line : Line) (w : Instruction) → allowed i.bounds i.actions line w ≡ true → Known i w
allowed-known i line w ok action e =
    let a : Allowed i.bounds i.actions line (Act action) = rw e at (allows i.bounds i.actions line w ok) in a.1

module _ (i : Index) (task : Bounded i) (h : Head) (callers : List Frame) (s : Position) (st : Stands h callers s) (p : Standing i s)
    (case : s.case < i.cases) (left : s.steps < i.bounds.steps) where
  -- with a case open there is a frame
  pub head-above : 0 < h.depth
  head-above = omega (arith, st.depth, case_open i s (parts i s p.0).depth (omega (arith, case)))

  pub head-depth : h.depth ≤ 16
  head-depth = omega (arith, st.depth, possible-depth i s task p.0)

  module _ (w : Instruction) (ok : allowed i.bounds i.actions h.line w ≡ true) where
    pub head-fits : Fits h w
    head-fits =
        let r = ranges i.bounds task.ranges in
        record {
          above = head-above;
          depth = head-depth;
          line = omega (arith, allowed-line i.bounds i.actions h.line w ok, r.last.1);
          case = omega (arith, case, st.case, task.cases);
          steps = omega (arith, left, st.steps, r.steps.1);
          fact =
              λ target fact e.
              let a : Allowed i.bounds i.actions h.line (Goto target fact) = rw e at (allows i.bounds i.actions h.line w ok) in
              omega (arith, a.2, r.facts.1);
        }

    module _ (bytes : List ℕ) (below : Frame) (facts : ℕ) where
      pub step-stands : Room i h.depth w → length callers ≡ 17
          → below ≡ get_or (set callers h.depth (caller_of h)) (h.depth - 1) origin
          → Stands (counted_head (moved_head bytes i h below facts w)) (set callers h.depth (caller_of h)) (counted (moved_by bytes i s facts w))
      step-stands room size e =
          let f = caller_of h in
          let at = get_or-set_same callers h.depth f origin (omega (arith, size, head-depth)) in
          let most = (ranges i.bounds task.ranges).stack.1 in
          moved-stands h _ s (noted-stands h callers s st f) bytes i head-above head-depth at below e facts w
          (λ procedure k. omega (arith, room procedure k, most))
