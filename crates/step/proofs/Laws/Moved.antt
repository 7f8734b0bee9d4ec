-- One step in two parts: what the answer to the questions leads to is what `perform` comes to.
-- Assumes nothing.
use Prim.Native.Nat.{ℕ, ◌-◌, ◌≤◌, ◌<◌}
use mathlib.Core.Path.{◌≡◌, refl, sym, ap, ◌∙◌}
use mathlib.Core.List.{List}
use native.Mathlib.Omega.{arith}
use lib.ListN.{get_or}
use Rattle.records.specs.Loop.{stop, go}
use Rattle.task.specs.Program.{instruction_on}
use Rattle.task.specs.declared.index.Index.{Index}
use Rattle.std.specs.Prelude.{Some, Result, Ok, Err}
use Rattle.task.specs.declared.instruction.Instruction.{Instruction}
use Rattle.task.specs.declared.instruction.Instruction.TheVariants.{Call}
use Rattle.task.specs.Verdict.{Accepted, Refused, number}
use Rattle.task.specs.declared.questions.Question.{Question}
use Rattle.step.specs.Head.{head_of, top_of, stored, counted_head, moved_head}
use Rattle.step.specs.Moved.{moved_by, performed_as, line_as}
use Rattle.step.specs.Perform.{Stepped, perform, run_line, unchanged, answered}
use Rattle.step.specs.Position.{origin, counted}
use Rattle.step.specs.Ready.{Room}
use Rattle.step.specs.declared.head.Head.{Head}
use Rattle.step.specs.declared.position.Frame.{Frame}
use Rattle.step.specs.declared.position.Position.{Position}
use Rattle.step.proofs.Laws.Perform.{Move, performed, calls}
use Rattle.step.proofs.Laws.Answers.{line-performs}
use Rattle.step.proofs.Laws.Head.{moved-few, moved-stored}

module _ (bytes : List ℕ) (i : Index) (offsets : List ℕ) (s : Position) (w : Instruction) (r : Result ℕ Question)
    (e : performed_as bytes i s w r ≡ perform bytes i offsets s w) where
  pub asked-no : (question : Question) → r ≡ Err question → stop (number question) ≡ perform bytes i offsets s w
  unfolding performed_as
  asked-no question k = rw k at e

  pub asked-moves : (facts : ℕ) → r ≡ Ok facts → go (counted (moved_by bytes i s facts w)) ≡ perform bytes i offsets s w
  unfolding performed_as
  asked-moves facts k = rw k at e

  -- a call that question 21 lets pass has room for its frame
  pub asked-room : (facts : ℕ) → r ≡ Ok facts → Room i s.depth w
  asked-room facts k procedure f =
      let called : perform bytes i offsets s (Call procedure) ≡ go (counted (moved_by bytes i s facts (Call procedure))) =
      rw f at (sym (asked-moves facts k)) in
      room (performed bytes i offsets s (Call procedure) _ called).move
    where
      room : {u : Position} → Move bytes i offsets s (Call procedure) u → s.depth < i.bounds.stack
      room (calls h) = h

-- one line of a program, as the code runs it: `h` is the head, `w` the instruction on its line, `a` the answer to its questions
module _ (bytes : List ℕ) (i : Index) (offsets program : List ℕ) (s : Position) (h : Head) (e : h ≡ head_of s) (w : Instruction)
    (g : instruction_on i program h.procedure h.line ≡ Some w) (a : Result ℕ Question)
    (f : (v : Position) → v.facts ≡ h.facts → v.case ≡ h.case → v.depth ≡ h.depth → performed_as bytes i v w a ≡ perform bytes i offsets v w) where
  abbrev Answers : Stepped → Type 0
  Answers r = r ≡ answered s (run_line bytes i offsets program s)

  asked : performed_as bytes i s w a ≡ perform bytes i offsets s w
  unfolding head_of
  asked = f s (rw e) (rw e) (rw e)

  performs : performed_as bytes i s w a ≡ run_line bytes i offsets program s
  unfolding head_of top_of
  performs = asked ∙ line-performs bytes i offsets program s (top_of h) (ap top_of e) _ refl w g

  pub line-stops : (question : Question) → a ≡ Err question → line_as (Err question) ≡ run_line bytes i offsets program s
  unfolding performed_as line_as
  line-stops question k = rw k at performs

  pub line_refused : (question : Question) → a ≡ Err question → Answers (record { verdict = Refused (number question) s.steps; position = s })
  unfolding line_as answered unchanged
  line_refused question k = ap (answered s) (line-stops question k)

  -- with facts the head moves: `n` is the head after it, with at most 16 frames, and `u` the position in which it is stored
  module _ (facts : ℕ) (k : a ≡ Ok facts) (below : Frame) (n : Head) (x : n ≡ counted_head (moved_head bytes i h below facts w)) where
    pub line-few : i.bounds.stack ≤ 16 → h.depth ≤ 16 → n.depth ≤ 16
    unfolding head_of
    line-few most d =
        let room = asked-room bytes i offsets s w a asked facts k in
        let same : h.depth ≡ s.depth = rw e in
        rw x (moved-few bytes i h below facts d w (λ procedure y. omega (arith, room procedure y)))

    pub line-goes : 0 < s.depth → below ≡ get_or s.frames (s.depth - 1 - 1) origin → (u : Position) → u ≡ stored h n s
        → line_as (Ok u) ≡ run_line bytes i offsets program s
    unfolding performed_as line_as
    line-goes above y u z =
        let goes : u ≡ counted (moved_by bytes i s facts w) = z ∙ rw (x, y, e) (moved-stored s above bytes i facts w) in
        rw goes (rw k at performs)

    pub line-moves : 0 < s.depth → below ≡ get_or s.frames (s.depth - 1 - 1) origin → (u : Position) → u ≡ stored h n s
        → Answers (record { verdict = Accepted 1; position = u })
    unfolding line_as answered
    line-moves above y u z = ap (answered s) (line-goes above y u z)
