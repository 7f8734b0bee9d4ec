-- The run of so many steps: its head over its frames is the position that as many single steps reach, and what is left to do from there comes to what
-- the whole comes to.
-- Assumes nothing.
use Prim.Native.Nat.{ℕ, suc, ◌+◌, ◌-◌, ◌≤◌, ◌<◌}
use mathlib.Core.Path.{◌≡◌, refl, sym, ap, ◌∙◌}
use mathlib.Core.Bool.{true}
use mathlib.Core.List.{List}
use native.Mathlib.Decide.{dec_lt}
use native.Mathlib.Omega.{arith}
use lib.ListN.{length, get_or, set, length-set}
use lib.Seq.{get_or-set_same, get_or-set_other, set-get_or, set-set}
use borrow.Author.Tests.{le-ltb}
use Rattle.std.specs.Prelude.{Some, Result, Ok, Err}
use Rattle.records.specs.Loop.{Turn, stop, go}
use Rattle.task.specs.Program.{instruction_on}
use Rattle.task.specs.Reading.{read_task}
use Rattle.task.specs.Verdict.{Accepted, Refused, number}
use Rattle.task.specs.declared.index.Index.{Index}
use Rattle.task.specs.declared.instruction.Instruction.{Instruction}
use Rattle.task.specs.declared.instruction.Instruction.TheVariants.{Empty, Act, Goto, Call, End}
use Rattle.task.specs.declared.questions.Question.{Question}
use Rattle.task.proofs.Laws.Bounds.{ranges}
use Rattle.task.proofs.Laws.Passed.{passed}
use Rattle.step.specs.Head.{head_of, top_of, left_by, over, stored, counted_head, ended_head, moved_head}
use Rattle.step.specs.Moved.{performed_as, line_as}
use Rattle.step.specs.Perform.{Stepped, perform, run_line, run_step, unchanged, answered}
use Rattle.step.specs.Position.{origin, top}
use Rattle.step.specs.Possible.{possible}
use Rattle.step.specs.Questions.{STEPS}
use Rattle.step.specs.Ready.{Held, Lined, Open, Runs}
use Rattle.step.specs.Single.{step_once, single_step}
use Rattle.step.specs.declared.head.Head.{Head}
use Rattle.step.specs.declared.position.Frame.{Frame}
use Rattle.step.specs.declared.position.Position.{Position}
use Rattle.step.proofs.Laws.Answers.{steps-used, steps-left}
use Rattle.step.proofs.Laws.Moved.{line-stops, line-goes}
use Rattle.step.proofs.Laws.Possible.{parts}
use Rattle.step.proofs.Laws.Ready.{passed-held, possible-depth, open-depth}
use Rattle.step.proofs.Laws.Single.{step-finished, step-runs, both-passed, single-possible}
use Rattle.steps.specs.Many.{StepsTaken, taken_to, onward, steps_from}
use Rattle.steps.specs.Running.{Admitted}

-- a head over its frames has the head's own parts
module _ (h : Head) (frames : List Frame) (size : length frames ≡ 16) (d : h.depth ≤ 16) where
  over-top : top (over h frames) ≡ top_of h
  unfolding over top
  over-top = get_or-set_same frames (h.depth - 1) (top_of h) origin (omega (arith, size, d))

  over-head : h ≡ head_of (over h frames)
  unfolding over head_of top_of top
  over-head =
      ap (λ (f : Frame). record { facts = h.facts; steps = h.steps; case = h.case; depth = h.depth; procedure = f.procedure; line = f.line })
      (sym over-top)

  -- after a move the frames have the one that is left behind
  over-stored : (n : Head) → stored h n (over h frames) ≡ over n (set frames (h.depth - 1) (left_by h n.depth))
  unfolding over stored
  over-stored n =
      ap
      (λ (fs : List Frame). record { facts = n.facts; steps = n.steps; case = n.case; depth = n.depth; frames = set fs (n.depth - 1) (top_of n) })
      (set-set frames (h.depth - 1) (top_of h) (left_by h n.depth))

  -- below the top frame they are the position's
  over_below : 1 < h.depth → get_or frames (h.depth - 1 - 1) origin ≡ get_or (over h frames).frames (h.depth - 1 - 1) origin
  unfolding over
  over_below l = sym (get_or-set_other frames (h.depth - 1) (h.depth - 1 - 1) (top_of h) origin (omega (arith, l)))

-- with one frame a move does not look below it
below-unread : (bytes : List ℕ) (i : Index) (h : Head) (b c : Frame) (facts : ℕ) → (1 < h.depth → b ≡ c) → (w : Instruction)
    → moved_head bytes i h b facts w ≡ moved_head bytes i h c facts w
unfolding moved_head ended_head
below-unread bytes i h b c facts e Empty = refl
below-unread bytes i h b c facts e (Act action) = refl
below-unread bytes i h b c facts e (Goto target fact) = refl
below-unread bytes i h b c facts e (Call procedure) = refl
below-unread bytes i h b c facts e End =
    elim (dec_lt 1 h.depth) [
      | yes l ↦ rw (e l)
      | no n ↦ rw (le-ltb 1 h.depth (omega (arith, n)))
    ]

-- one step of a head over its frames
module _ (i : Index) (h : Head) (frames : List Frame) (size : length frames ≡ 16) (o : Open i (over h frames)) where
  abbrev s : Position
  s = over h frames

  pub over-few : h.depth ≤ 16
  unfolding over
  over-few = open-depth i s o

  pub over-itself : h ≡ head_of s
  over-itself = over-head h frames size over-few

  pub over-runs : (program : List ℕ) → Lined i program → h.steps < i.bounds.steps → Runs i program s
  unfolding over
  over-runs program l left = record { standing = o; lined = l; left = left }

  module _ (bytes offsets program : List ℕ) where
    abbrev Makes : Turn Position ℕ → Type 0
    Makes u = u ≡ run_step bytes i offsets program s

    pub over-late : i.bounds.steps ≤ h.steps → Makes (stop STEPS)
    unfolding over
    over-late out = steps-used bytes i offsets program s out

    -- with fewer than S steps done: the instruction on the line, and the answer to its questions
    module _ (left : h.steps < i.bounds.steps) (w : Instruction) (g : instruction_on i program h.procedure h.line ≡ Some w) (a : Result ℕ Question)
        (f : (v : Position) → v.facts ≡ h.facts → v.case ≡ h.case → v.depth ≡ h.depth → performed_as bytes i v w a ≡ perform bytes i offsets v w) where
      line-makes : (u : Turn Position ℕ) → u ≡ run_line bytes i offsets program s → Makes u
      unfolding over
      line-makes u e = e ∙ steps-left bytes i offsets program s left

      pub over-refused : (question : Question) → a ≡ Err question → Makes (stop (number question))
      unfolding line_as
      over-refused question k = line-makes _ (line-stops bytes i offsets program s h over-itself w g a f question k)

      pub over-moves : (facts : ℕ) → a ≡ Ok facts → (b : Frame) → (1 < h.depth → b ≡ get_or frames (h.depth - 1 - 1) origin)
          → (n : Head) → n ≡ counted_head (moved_head bytes i h b facts w) → (behind : Frame) → behind ≡ left_by h n.depth
          → Makes (go (over n (set frames (h.depth - 1) behind)))
      unfolding over line_as
      over-moves facts k b y n x behind z =
          let c = get_or s.frames (h.depth - 1 - 1) origin in
          let moves : n ≡ counted_head (moved_head bytes i h c facts w) =
          x ∙ ap counted_head (below-unread bytes i h b c facts (λ m. y m ∙ over_below h frames size over-few m) w) in
          let here : over n (set frames (h.depth - 1) behind) ≡ stored h n s = sym (over-stored h frames size over-few n ∙ rw z refl) in
          line-makes _ (line-goes bytes i offsets program s h over-itself w g a f facts k c n moves o.unfinished refl _ here)

-- one more single step of those that are left
module _ (bytes program : List ℕ) (n made : ℕ) (s : Position) where
  pub steps-refused : (question place : ℕ) → unchanged s (Refused question place) ≡ single_step bytes program s
      → taken_to (Refused question place) made s ≡ steps_from bytes program (suc n) made s
  unfolding steps_from onward unchanged
  steps-refused question place e = rw (← e)

  pub steps-finished : unchanged s (Accepted 0) ≡ single_step bytes program s
      → taken_to (Accepted made) made s ≡ steps_from bytes program (suc n) made s
  unfolding steps_from onward unchanged
  steps-finished e = rw (← e)

  pub steps-onward : (u : Position) → ◌≡◌ {A = Stepped} (record { verdict = Accepted 1; position = u }) (single_step bytes program s)
      → steps_from bytes program n (made + 1) u ≡ steps_from bytes program (suc n) made s
  unfolding steps_from onward
  steps-onward u e = rw (← e)

-- where the loop stands after so many steps: at a possible position, from which the steps that are left come to what the whole comes to
pub record Reached (bytes : List ℕ) (i : Index) (program : List ℕ) (first : Position) (wanted made : ℕ) (h : Head) (frames : List Frame) : Type 0 where
  pub size : length frames ≡ 16
  pub standing : possible i (over h frames) ≡ true
  pub steps : h.steps ≡ first.steps + made
  pub same : steps_from bytes program (wanted - made) made (over h frames) ≡ steps_from bytes program wanted 0 first

-- task, program and position were admitted
module _ (bytes : List ℕ) (i : Index) (offsets program : List ℕ) (first : Position) (a : Admitted bytes i offsets program first) where
  pub admitted-held : Held bytes i offsets
  admitted-held = rw (← a.index, ← a.offsets) (passed-held bytes (read_task bytes).layout (passed bytes a.value a.task))

  pub admitted-lined : Lined i program
  admitted-lined = record { presets = (read_task bytes).layout.presets; value = a.checked; passes = a.program }

  once : (s : Position) → step_once bytes i offsets program s ≡ single_step bytes program s
  once s =
      rw (← a.index, ← a.offsets)
      (both-passed bytes program s (read_task bytes) refl a.value a.task _ refl a.checked (rw a.index a.program))

  pub first-few : first.depth ≤ 16
  first-few = possible-depth i first admitted-held.task a.possible

  pub first-steps : first.steps ≤ 4096
  first-steps = omega (arith, (ranges i.bounds admitted-held.task.ranges).steps.1, (parts i first a.possible).steps)

  module _ (wanted : ℕ) where
    pub reached-first : length first.frames ≡ 16 → (h : Head) → h ≡ head_of first → Reached bytes i program first wanted 0 h first.frames
    unfolding head_of top_of top over
    reached-first size h e =
        let here : over h first.frames ≡ first =
        rw e
        (ap (λ (fs : List Frame). record { facts = first.facts; steps = first.steps; case = first.case; depth = first.depth; frames = fs })
        (set-get_or first.frames (first.depth - 1) origin)) in
        let all : wanted - 0 ≡ wanted = omega arith in
        let steps : h.steps ≡ first.steps = rw e in
        record { size = size; standing = rw here a.possible; steps = omega (arith, steps); same = rw (here, all) refl }

    module _ (made : ℕ) (h : Head) (frames : List Frame) (r : Reached bytes i program first wanted made h frames) where
      abbrev there : Position
      there = over h frames

      -- the call's answer
      abbrev Whole : StepsTaken → Type 0
      Whole x = x ≡ steps_from bytes program wanted 0 first

      pub reached-few : h.depth ≤ 16
      unfolding over
      reached-few = possible-depth i there admitted-held.task r.standing

      pub reached-head : h ≡ head_of there
      reached-head = over-head h frames r.size reached-few

      -- no step more is asked for
      pub reached-all : wanted ≤ made → Whole (taken_to (Accepted made) made there)
      unfolding steps_from
      reached-all e = let none : wanted - made ≡ 0 = omega (arith, e) in rw none at r.same

      -- a step more is asked for
      module _ (l : made < wanted) where
        abbrev left : ℕ
        left = wanted - made - 1

        more : (x : StepsTaken) → x ≡ steps_from bytes program (suc left) made there → Whole x
        more x e = let back : wanted - made ≡ suc left = omega (arith, l) in e ∙ rw back at r.same

        pub reached-finish : h.depth ≡ 0 → Whole (taken_to (Accepted made) made there)
        unfolding over
        reached-finish z =
            more _ (steps-finished bytes program left made there (step-finished bytes i offsets program there true (sym r.standing) refl z ∙ once there))

        -- with a frame
        module _ (above : 0 < h.depth) where
          pub reached-open : Open i there
          unfolding over
          reached-open = record { task = admitted-held.task; possible = r.standing; unfinished = above }

          single : (u : Turn Position ℕ) → u ≡ run_step bytes i offsets program there → answered there u ≡ single_step bytes program there
          unfolding over
          single u e = ap (answered there) e ∙ step-runs bytes i offsets program there true (sym r.standing) refl (λ z. absurd (omega (arith, above, z))) ∙ once there

          pub reached-no : (question : Question) → stop (number question) ≡ run_step bytes i offsets program there
              → Whole (taken_to (Refused (number question) h.steps) made there)
          unfolding over answered
          reached-no question e = more _ (steps-refused bytes program left made there (number question) _ (single _ e))

          pub reached-next : (n : Head) (after : List Frame) → go (over n after) ≡ run_step bytes i offsets program there
              → Reached bytes i program first wanted (made + 1) n after
          unfolding over answered
          reached-next n after e =
              let u = over n after in
              let step : ◌≡◌ {A = Stepped} (record { verdict = Accepted 1; position = u }) (single_step bytes program there) = single _ e in
              let kept = single-possible bytes program there (length-set frames (h.depth - 1) (top_of h) ∙ r.size) (sym (ap (λ (q : Stepped). q.verdict) step)) in
              let moved : (single_step bytes program there).position ≡ u = sym (ap (λ (q : Stepped). q.position) step) in
              let fewer : wanted - (made + 1) ≡ left = omega (arith, l) in
              record {
                size = sym (length-set after (n.depth - 1) (top_of n)) ∙ rw moved at kept.1;
                standing = rw (moved, a.index) at kept.0;
                steps = let one : n.steps ≡ h.steps + 1 = rw moved at kept.2 in omega (arith, one, r.steps);
                same = more _ (rw fewer (steps-onward bytes program left made there u step));
              }
