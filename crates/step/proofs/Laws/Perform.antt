-- What an instruction that does not stop has done: one of seven moves, whose questions said yes, and one step more is counted. So each law of
-- a step looks at the seven moves alone: every step counts one, the case grows only at an end with one frame, and there it does; and a move
-- whose questions say yes is made, so a step is determined by them. One that stops has a number that is not 20.
-- Assumes nothing.
use Prim.Native.Nat.{ℕ, ◌+◌, ◌≤◌, ◌<◌}
use mathlib.Core.Path.{◌≡◌, refl, ap, ◌∙◌}
use mathlib.Core.Bool.{Bool, true, false, cond}
use mathlib.Core.List.{List}
use mathlib.Core.Logic.{◌⊎◌, inl, inr}
use native.Mathlib.Omega.{arith}
use lib.Dec.{ltb}
use lib.ListN.{get_or}
use borrow.Author.Tests.{ltb-true, ltb-false}
use Rattle.records.specs.Loop.{Turn, stop, go, ask}
use Rattle.records.proofs.Laws.Loop.{stop-go, Keeps, ask-keeps}
use Rattle.records.proofs.Laws.Tests.{cond_either, cond_yes, cond_no}
use Rattle.task.specs.Index.{action_at, effects_of, case_at}
use Rattle.task.specs.Program.{instruction_on}
use Rattle.task.specs.declared.index.Index.{Index}
use Rattle.task.specs.declared.instruction.Line.{Line}
use Rattle.task.specs.declared.instruction.Proc.{Proc}
use Rattle.task.specs.declared.instruction.Instruction.{Instruction}
use Rattle.task.specs.declared.instruction.Instruction.TheVariants.{Empty, Act, Goto, Call, End}
use Rattle.std.specs.Prelude.{Option, Some, None}
use Rattle.step.specs.Effects.{changes_of, changed}
use Rattle.step.specs.Facts.{has, holds}
use Rattle.step.specs.Perform.{act, goto, call, after_case, end, perform, perform_decoded, run_line, run_step}
use Rattle.step.specs.Moved.{moved_by, performed_as}
use Rattle.step.specs.Position.{top, jumped, advanced, pushed, popped, with_facts, next_case, finished, counted}
use Rattle.step.specs.Questions.{STEPS, CLASH, EMPTY}
use Rattle.step.specs.declared.position.Position.{Position}
use Rattle.step.proofs.Laws.Answers.{act-moves, call-pushes, case-follows, none-follows, frames-many, frames-one, end-pops, end-closes, performs-act, performs-goto, performs-call, performs-end}

-- the moves of each instruction, with what its questions have said; the step is not counted yet
pub data Move (bytes : List ℕ) (i : Index) (offsets : List ℕ) (s : Position) : Instruction → Position → Type 0 where
  acts : {action : ℕ}
      → holds s.facts (action_at bytes (get_or offsets action 0)).precondition ≡ true
      → Move bytes i offsets s (Act action)
      (with_facts (advanced s) (changed s.facts (changes_of s.facts (effects_of bytes (get_or offsets action 0)))))
  falls-through : {target : Line} {fact : ℕ} → has s.facts fact ≡ true → Move bytes i offsets s (Goto target fact) (advanced s)
  jumps : {target : Line} {fact : ℕ} → has s.facts fact ≡ false → Move bytes i offsets s (Goto target fact) (jumped s target)
  calls : {procedure : Proc} → s.depth < i.bounds.stack → Move bytes i offsets s (Call procedure) (pushed (advanced s) procedure)
  returns : 1 < s.depth → Move bytes i offsets s End (popped s)
  begins : s.depth ≤ 1 → holds s.facts (case_at bytes i.first s.case).goal ≡ true → s.case + 1 < i.cases
      → Move bytes i offsets s End (next_case s (case_at bytes i.first (s.case + 1)).start)
  finishes : s.depth ≤ 1 → holds s.facts (case_at bytes i.first s.case).goal ≡ true → i.cases ≤ s.case + 1
      → Move bytes i offsets s End (finished s)

-- what is known of the number of a refusal: it is not 0, has two digits at most, and is not 20
abbrev pub RefusalNumber : ℕ → Type 0
RefusalNumber question = (0 < question) × (question < 100) × (question ≡ CLASH → ⊥)

module _ (bytes : List ℕ) (i : Index) (offsets : List ℕ) (s : Position) where
  -- a position that an instruction goes to: it made a move, and the step is counted
  pub record Moved (w : Instruction) (t : Position) : Type 0 where
    pub to : Position
    pub move : Move bytes i offsets s w to
    pub after : t ≡ counted to

  abbrev Goes : Instruction → Turn Position ℕ → Type 0
  Goes w = Keeps (Moved w) RefusalNumber

  one : {w : Instruction} {u : Position} → Move bytes i offsets s w u → Moved w (counted u)
  one m = record { to = _; move = m; after = refl }

  ask-goes : (w : Instruction) (answer : Bool) (question : ℕ) (rest : Turn Position ℕ) → RefusalNumber question → (answer ≡ true → Goes w rest)
      → Goes w (ask answer question rest)
  ask-goes w answer question rest n k = ask-keeps (Moved w) RefusalNumber answer question rest n k

  goes : (w : Instruction) → Goes w (perform bytes i offsets s w)
  unfolding perform act goto call end after_case
  goes Empty = omega arith
  goes (Act action) = ask-goes _ _ _ _ (omega arith) λ h. one (acts h)
  goes (Goto target fact) =
      cond_either (λ (u : Position). Moved (Goto target fact) (counted u)) _ _ _ (λ h. one (falls-through h)) (λ h. one (jumps h))
  goes (Call procedure) = ask-goes _ _ _ _ (omega arith) λ h. one (calls (ltb-true s.depth i.bounds.stack h))
  goes End =
      cond_either (Goes End) _ _ _ (λ h. one (returns (ltb-true 1 s.depth h)))
      (λ h. ask-goes _ _ _ _ (omega arith) λ k.
      cond_either (λ (u : Position). Moved End (counted u)) _ _ _
      (λ l. one (begins (ltb-false 1 s.depth h) k (ltb-true (s.case + 1) i.cases l)))
      (λ l. one (finishes (ltb-false 1 s.depth h) k (ltb-false (s.case + 1) i.cases l))))

  -- a move counts nothing
  pub move-steps : {w : Instruction} {u : Position} → Move bytes i offsets s w u → u.steps ≡ s.steps
  unfolding jumped advanced pushed popped with_facts next_case finished
  move-steps (acts h) = refl
  move-steps (falls-through h) = refl
  move-steps (jumps h) = refl
  move-steps (calls h) = refl
  move-steps (returns h) = refl
  move-steps (begins h k l) = refl
  move-steps (finishes h k l) = refl

  -- with a frame, the case stays but at an end with one frame
  move-case : {w : Instruction} {u : Position} → Move bytes i offsets s w u → 0 < s.depth
      → (u.case ≡ s.case) ⊎ ((w ≡ End) × (s.depth ≡ 1) × (u.case ≡ s.case + 1))
  unfolding jumped advanced pushed popped with_facts next_case finished
  move-case (acts h) a = inl refl
  move-case (falls-through h) a = inl refl
  move-case (jumps h) a = inl refl
  move-case (calls h) a = inl refl
  move-case (returns h) a = inl refl
  move-case (begins h k l) a = inr (refl, omega arith, refl)
  move-case (finishes h k l) a = inr (refl, omega arith, refl)

  module _ (w : Instruction) (t : Position) (e : perform bytes i offsets s w ≡ go t) where
    pub performed : Moved w t
    performed = rw e at (goes w)

    -- one step more is done
    pub steps-grow : t.steps ≡ s.steps + 1
    unfolding counted
    steps-grow = rw performed.after (omega (arith, move-steps performed.move))

    -- the case stays; only an end with one frame makes it grow, by 1
    pub case-grows : 0 < s.depth → (t.case ≡ s.case) ⊎ ((w ≡ End) × (s.depth ≡ 1) × (t.case ≡ s.case + 1))
    unfolding counted
    case-grows a = rw performed.after (move-case performed.move a)

  -- and it does: an end with one frame that does not stop closes the case
  pub case-closes : (t : Position) → perform bytes i offsets s End ≡ go t → s.depth ≡ 1 → t.case ≡ s.case + 1
  unfolding counted next_case finished
  case-closes t e d = let m = performed End t e in rw m.after (closed m.move)
    where
      closed : {u : Position} → Move bytes i offsets s End u → u.case ≡ s.case + 1
      closed (returns h) = absurd (omega arith)
      closed (begins h k l) = refl
      closed (finishes h k l) = refl

  -- an instruction that stops has such a number, and so has a step of a program
  pub stop-number : (w : Instruction) (question : ℕ) → perform bytes i offsets s w ≡ stop question → RefusalNumber question
  stop-number w question e = rw e at (goes w)

  pub step-number : (program : List ℕ) (question : ℕ) → run_step bytes i offsets program s ≡ stop question → RefusalNumber question
  unfolding run_step run_line perform_decoded ask
  step-number program question h = on (ltb s.steps i.bounds.steps) (instruction_on i program (top s).procedure (top s).line) h
    where
      on : (b : Bool) (d : Option Instruction) → ask b STEPS (perform_decoded bytes i offsets s d) ≡ stop question → RefusalNumber question
      on true (Some w) k = stop-number w question k
      on true None k = let z : EMPTY ≡ question = cc in omega (arith, z)
      on false d k = let z : STEPS ≡ question = cc in omega (arith, z)

  -- a move whose questions say yes is made, so a step is determined by them
  -- a step to a position
  abbrev steps : Position → Turn Position ℕ
  steps u = go (counted u)

  -- the end of a case whose goal holds
  closes : s.depth ≤ 1 → holds s.facts (case_at bytes i.first s.case).goal ≡ true
      → steps (cond (ltb 1 s.depth) (popped s) (after_case bytes i s)) ≡ perform bytes i offsets s End
  unfolding performed_as moved_by
  closes h k = end-closes bytes i _ _ _ h _ refl _ refl k s refl refl refl ∙ performs-end bytes i offsets s _ refl

  pub moves : {w : Instruction} {u : Position} → Move bytes i offsets s w u → go (counted u) ≡ perform bytes i offsets s w
  unfolding performed_as moved_by
  moves (acts {action} h) = act-moves bytes _ s.facts _ refl _ refl h _ refl _ refl i s action refl ∙ performs-act bytes i offsets s _ _ refl
  moves (falls-through h) = ap steps (cond_yes _ _ _ _ refl h) ∙ performs-goto bytes i offsets s _ _ _ 0 refl
  moves (jumps h) = ap steps (cond_no _ _ _ _ refl h) ∙ performs-goto bytes i offsets s _ _ _ 0 refl
  moves (calls h) = call-pushes _ _ h 0 bytes i s _ refl ∙ performs-call bytes i offsets s _ _ refl
  moves (returns h) = ap steps (frames-many _ _ _ _ h refl) ∙ end-pops bytes i _ _ _ h s refl refl refl ∙ performs-end bytes i offsets s _ refl
  moves (begins h k l) = ap steps (frames-one _ _ _ _ h (case-follows bytes i s l _ refl _ refl)) ∙ closes h k
  moves (finishes h k l) = ap steps (frames-one _ _ _ _ h (none-follows bytes i s l _ refl)) ∙ closes h k

  pub move-determined : {w : Instruction} {u v : Position} → Move bytes i offsets s w u → Move bytes i offsets s w v → counted u ≡ counted v
  move-determined m n = let e = moves m in let f = moves n in cc

  module _ (program : List ℕ) (t : Position) where
    -- the line of a step that goes on holds an instruction, and the step is what that instruction does
    pub record Ran : Type 0 where
      pub instruction : Instruction
      pub here : instruction_on i program (top s).procedure (top s).line ≡ Some instruction
      pub does : perform bytes i offsets s instruction ≡ go t

    pub line-ran : run_line bytes i offsets program s ≡ go t → Ran
    unfolding run_line perform_decoded
    line-ran h = on (instruction_on i program (top s).procedure (top s).line) refl h
      where
        on : (d : Option Instruction) → instruction_on i program (top s).procedure (top s).line ≡ d → perform_decoded bytes i offsets s d ≡ go t → Ran
        on (Some w) e k = record { instruction = w; here = e; does = k }
        on None e k = absurd (stop-go k)

    -- a step that goes on is within the step bound, and is what its line does
    pub step-ran : run_step bytes i offsets program s ≡ go t → (s.steps < i.bounds.steps) × Ran
    unfolding run_step ask
    step-ran h = on (ltb s.steps i.bounds.steps) refl h
      where
        on : (b : Bool) → ltb s.steps i.bounds.steps ≡ b → ask b STEPS (run_line bytes i offsets program s) ≡ go t
            → (s.steps < i.bounds.steps) × Ran
        on true e k = (ltb-true s.steps i.bounds.steps e, line-ran k)
        on false e k = absurd (stop-go k)

    -- what a step of a program does to steps and case
    module _ (r : Ran) where
      pub ran-steps : t.steps ≡ s.steps + 1
      ran-steps = steps-grow r.instruction t r.does

      pub ran-case : 0 < s.depth → (t.case ≡ s.case) ⊎ ((r.instruction ≡ End) × (s.depth ≡ 1) × (t.case ≡ s.case + 1))
      ran-case a = case-grows r.instruction t r.does a
