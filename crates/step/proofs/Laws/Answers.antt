-- One step, answer by answer: what the tests of an instruction lead to, as the functions that run it find out.
-- Assumes nothing.
use Prim.Native.Nat.{ℕ, ◌+◌, ◌≤◌, ◌<◌}
use mathlib.Core.Path.{◌≡◌, refl, sym, ap, ◌∙◌}
use mathlib.Core.Bool.{Bool, true, false, cond}
use mathlib.Core.List.{List}
use native.Mathlib.Omega.{arith}
use lib.ListN.{get_or}
use lib.Dec.{ltb}
use borrow.Author.Tests.{lt-ltb, le-ltb}
use Rattle.records.specs.Loop.{stop, go}
use Rattle.records.proofs.Laws.Loop.{ask-yes, ask-no}
use Rattle.records.proofs.Laws.Tests.{cond_yes, cond_no}
use Rattle.task.specs.Index.{action_at, effects_of, case_at}
use Rattle.task.specs.declared.index.ActionFront.{ActionFront}
use Rattle.task.specs.declared.index.Case.{Case}
use Rattle.task.specs.declared.index.Index.{Index}
use Rattle.task.specs.declared.instruction.Line.{Line}
use Rattle.task.specs.declared.instruction.Proc.{Proc}
use Rattle.task.specs.declared.instruction.Instruction.{Instruction}
use Rattle.task.specs.declared.instruction.Instruction.TheVariants.{Act, Goto, Call, End}
use Rattle.std.specs.Prelude.{Option, Some, Result, Ok, Err}
use Rattle.task.specs.Program.{instruction_on}
use Rattle.task.specs.declared.questions.Question.{Question}
use Rattle.task.specs.declared.questions.Question.TheVariants.{Precondition, StackFull, Goal}
use Rattle.step.specs.Effects.{changes_of, changed}
use Rattle.step.specs.Facts.{holds}
use Rattle.step.specs.Moved.{moved_by, performed_as}
use Rattle.step.specs.Perform.{act, goto, call, after_case, end, perform, perform_decoded, run_line, run_step}
use Rattle.step.specs.Position.{top, next_case, finished, counted}
use Rattle.step.specs.Questions.{STEPS}
use Rattle.step.specs.declared.effects.Changes.{Changes}
use Rattle.step.specs.declared.position.Frame.{Frame}
use Rattle.step.specs.declared.position.Position.{Position}

-- act: `h` says whether the precondition holds
module _ (bytes : List ℕ) (at facts : ℕ) (a : ActionFront) (e : a ≡ action_at bytes at) (h : Bool) (f : h ≡ holds facts a.precondition) where
  pub act-refused : h ≡ false → (i : Index) (s : Position) (action : ℕ) → s.facts ≡ facts
      → performed_as bytes i s (Act action) (Err Precondition) ≡ act bytes at s
  unfolding act performed_as
  act-refused z i s action x = ask-no _ _ _ (cc)

  pub act-moves : h ≡ true → (c : Changes) → c ≡ changes_of facts (effects_of bytes at) → (after : ℕ) → after ≡ changed facts c
      → (i : Index) (s : Position) (action : ℕ) → s.facts ≡ facts → performed_as bytes i s (Act action) (Ok after) ≡ act bytes at s
  unfolding act performed_as moved_by
  act-moves y c g after j i s action x = cc (j, g, x) ∙ ask-yes _ _ _ (cc)

module _ (stack depth : ℕ) where
  pub call-refused : stack ≤ depth → (bytes : List ℕ) (i : Index) (s : Position) (procedure : Proc) → s.depth ≡ depth
      → performed_as bytes i s (Call procedure) (Err StackFull) ≡ call stack procedure s
  unfolding call performed_as
  call-refused h bytes i s procedure e = ask-no _ _ _ (le-ltb s.depth stack (omega (arith, h, e)))

  pub call-pushes : depth < stack → (facts : ℕ) (bytes : List ℕ) (i : Index) (s : Position) (procedure : Proc) → s.depth ≡ depth
      → performed_as bytes i s (Call procedure) (Ok facts) ≡ call stack procedure s
  unfolding call performed_as moved_by
  call-pushes h facts bytes i s procedure e = ask-yes _ _ _ (lt-ltb s.depth stack (omega (arith, h, e)))

module _ (bytes : List ℕ) (i : Index) (s : Position) where
  pub case-follows : s.case + 1 < i.cases → (x : Case) → x ≡ case_at bytes i.first (s.case + 1) → (p : Position) → p ≡ next_case s x.start
      → p ≡ after_case bytes i s
  unfolding after_case
  case-follows h x e p f = f ∙ ap (λ (y : Case). next_case s y.start) e ∙ cond_yes _ true _ _ (sym (lt-ltb (s.case + 1) i.cases h)) refl

  pub none-follows : i.cases ≤ s.case + 1 → (p : Position) → p ≡ finished s → p ≡ after_case bytes i s
  unfolding after_case
  none-follows h p f = f ∙ cond_no _ false _ _ (sym (le-ltb (s.case + 1) i.cases h)) refl

-- an end by the depth: many frames, or one
module _ (depth : ℕ) (many one p : Position) where
  pub frames-many : 1 < depth → p ≡ many → p ≡ cond (ltb 1 depth) many one
  frames-many h e = e ∙ cond_yes _ true _ _ (sym (lt-ltb 1 depth h)) refl

  pub frames-one : depth ≤ 1 → p ≡ one → p ≡ cond (ltb 1 depth) many one
  frames-one h e = e ∙ cond_no _ false _ _ (sym (le-ltb 1 depth h)) refl

-- end, at a position with these facts, this case and this depth
module _ (bytes : List ℕ) (i : Index) (facts case depth : ℕ) where
  abbrev pub EndsAs : Result ℕ Question → Type 0
  EndsAs r = (s : Position) → s.facts ≡ facts → s.case ≡ case → s.depth ≡ depth → performed_as bytes i s End r ≡ end bytes i s

  pub end-pops : 1 < depth → EndsAs (Ok facts)
  unfolding end performed_as moved_by
  end-pops h s x y z =
      let pops = lt-ltb 1 s.depth (omega (arith, h, z)) in
      ap (λ (q : Position). go (counted q)) (sym (cond_yes _ true _ _ (sym pops) refl)) ∙ cond_yes _ true _ _ (sym pops) refl

  -- with one frame: `g` says whether the goal holds
  module _ (l : depth ≤ 1) (x : Case) (e : x ≡ case_at bytes i.first case) (g : Bool) (f : g ≡ holds facts x.goal) where
    pub end_refused : g ≡ false → EndsAs (Err Goal)
    unfolding end performed_as
    end_refused z s j k m = ask-no _ _ _ (cc) ∙ cond_no _ false _ _ (sym (le-ltb 1 s.depth (omega (arith, l, m)))) refl

    pub end-closes : g ≡ true → EndsAs (Ok facts)
    unfolding end performed_as moved_by
    end-closes z s j k m =
        let last = le-ltb 1 s.depth (omega (arith, l, m)) in
        ap (λ (q : Position). go (counted q)) (sym (cond_no _ false _ _ (sym last) refl)) ∙ ask-yes _ _ _ (cc) ∙ cond_no _ false _ _ (sym last) refl

module _ (bytes : List ℕ) (i : Index) (offsets : List ℕ) (s : Position) (w : Instruction) where
  pub performs-act : (action : ℕ) → w ≡ Act action → act bytes (get_or offsets action 0) s ≡ perform bytes i offsets s w
  unfolding perform
  performs-act action e = rw e

  pub performs-goto : (target : Line) (fact facts : ℕ) → w ≡ Goto target fact → performed_as bytes i s w (Ok facts) ≡ perform bytes i offsets s w
  unfolding perform goto performed_as moved_by
  performs-goto target fact facts e = rw e refl

  pub performs-call : (procedure : Proc) → w ≡ Call procedure → call i.bounds.stack procedure s ≡ perform bytes i offsets s w
  unfolding perform
  performs-call procedure e = rw e

  pub performs-end : w ≡ End → end bytes i s ≡ perform bytes i offsets s w
  unfolding perform
  performs-end e = rw e

-- the answer to an instruction's questions at every position with these facts, this case and this depth
module _ (bytes : List ℕ) (i : Index) (offsets : List ℕ) (facts case depth : ℕ) where
  abbrev Asks : Instruction → Result ℕ Question → Type 0
  Asks w r =
      (s : Position) → s.facts ≡ facts → s.case ≡ case → s.depth ≡ depth → performed_as bytes i s w r ≡ perform bytes i offsets s w

  pub asks-as : (w v : Instruction) → w ≡ v → (r : Result ℕ Question) → Asks v r → Asks w r
  asks-as w v e r f = rw e f

-- one step of a program: `f` is the top frame, `d` what stands on its line
module _ (bytes : List ℕ) (i : Index) (offsets program : List ℕ) (s : Position) where
  pub steps-used : i.bounds.steps ≤ s.steps → stop STEPS ≡ run_step bytes i offsets program s
  unfolding run_step
  steps-used h = ask-no _ _ _ (le-ltb s.steps i.bounds.steps h)

  pub steps-left : s.steps < i.bounds.steps → run_line bytes i offsets program s ≡ run_step bytes i offsets program s
  unfolding run_step
  steps-left h = ask-yes _ _ _ (lt-ltb s.steps i.bounds.steps h)

  pub line-performs : (f : Frame) → f ≡ top s → (d : Option Instruction) → d ≡ instruction_on i program f.procedure f.line
      → (w : Instruction) → d ≡ Some w → perform bytes i offsets s w ≡ run_line bytes i offsets program s
  unfolding run_line perform_decoded
  line-performs f e d g w k = rw (← e, ← g, k)

  pub line-runs : s.steps < i.bounds.steps → (f : Frame) → f ≡ top s → (d : Option Instruction) → d ≡ instruction_on i program f.procedure f.line
      → (w : Instruction) → d ≡ Some w → perform bytes i offsets s w ≡ run_step bytes i offsets program s
  line-runs h f e d g w k = line-performs f e d g w k ∙ steps-left h
