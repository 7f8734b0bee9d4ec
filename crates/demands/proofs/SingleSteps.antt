-- Single steps make the writer's steps. At each turn of the writer the record after as many single steps as the writer has done is the writer's position; the writer's next
-- step is the program's, and so is the single step there. Where the writer accepts, that position is the finish.
-- Assumes nothing.
use Prim.Native.Nat.{ℕ, suc, ◌<◌}
use mathlib.Core.Path.{◌≡◌, refl, sym, ap, subst, ◌∙◌}
use mathlib.Core.Bool.{Bool, true, false}
use mathlib.Core.List.{List}
use native.Mathlib.Omega.{arith}
use lib.Dec.{eqb}
use borrow.Author.Tests.{eqb-true, eqb-false}
use Rattle.records.specs.Loop.{Turn, stop, go}
use Rattle.records.proofs.Laws.Loop.{Keeps, loop-keeps}
use Rattle.task.specs.Program.{program_verdict}
use Rattle.task.specs.Reading.{read_task}
use Rattle.task.specs.declared.index.Layout.{Layout}
use Rattle.task.specs.Verdict.{Accepted}
use Rattle.task.proofs.Laws.Passed.{Passed, passed}
use Rattle.step.specs.Perform.{Stepped, run_step, answered}
use Rattle.step.specs.Position.{starting}
use Rattle.step.specs.Possible.{possible}
use Rattle.step.specs.Single.{single_step}
use Rattle.step.specs.declared.position.Position.{Position}
use Rattle.step.proofs.Laws.Kept.{starting-possible}
use Rattle.step.proofs.Laws.Possible.{parts, case_open, case-finished}
use Rattle.step.proofs.Laws.Single.{step-runs, both-passed}
use Rattle.checker.specs.Answer.{Outcome, refused, accepted}
use Rattle.checker.specs.Write.{Writing, write_turn, steps_left, start, run}
use Rattle.checker.proofs.Laws.Turns.{Standing}
use Rattle.checker.proofs.Laws.Write.{goes-written, written-runs, written-steps, written_stands, accepts-finished}
use Rattle.demands.specs.SingleSteps.{record_after, Reaches, SingleStepsReach}
use Rattle.demands.proofs.Laws.Finish.{accepts-accepting}

-- a task and a program that pass
module _ (bytes program : List ℕ) (v p : ℕ) (h : (read_task bytes).verdict ≡ Accepted v)
    (g : program_verdict (read_task bytes).layout.index (read_task bytes).layout.presets program ≡ Accepted p) where
  abbrev t : Layout
  t = (read_task bytes).layout

  abbrev passes : Passed bytes t
  passes = passed bytes v h

  -- from a possible position with a frame the single step is the program's step
  pub single-runs : (s next : Position) → possible t.index s ≡ true → 0 < s.depth → run_step bytes t.index t.offsets program s ≡ go next
      → single_step bytes program s ≡ record { verdict = Accepted 1; position = next }
  unfolding answered
  single-runs s next y d e =
      sym
      (ap (answered s) (sym e)
      ∙ step-runs bytes t.index t.offsets program s true (sym y) refl (λ z. omega (arith, d, z))
      ∙ both-passed bytes program s (read_task bytes) refl v h _ refl p g)

  -- a state of the writer that single steps have come to
  record At (s : Writing) : Type 0 where
    standing : Standing t.index s.position
    here : record_after bytes program s.position.steps ≡ s.position
    made : (j : ℕ) → j < s.position.steps → (single_step bytes program (record_after bytes program j)).verdict ≡ Accepted 1

  abbrev Claim : Outcome → Type 0
  Claim (refused question place) = Unit
  Claim (accepted k plan) = Reaches bytes program k

  -- one single step more
  module _ (s : Writing) (a : At s) (next : Position) (e : single_step bytes program s.position ≡ record { verdict = Accepted 1; position = next }) where
    abbrev from-here : single_step bytes program (record_after bytes program s.position.steps) ≡ record { verdict = Accepted 1; position = next }
    from-here = ap (single_step bytes program) a.here ∙ e

    next_here : record_after bytes program (suc s.position.steps) ≡ next
    unfolding record_after
    next_here = ap (λ (r : Stepped). r.position) from-here

    next-made : (j : ℕ) → j < suc s.position.steps → (single_step bytes program (record_after bytes program j)).verdict ≡ Accepted 1
    next-made j l = by (eqb j s.position.steps) refl
      where
        by : (b : Bool) → eqb j s.position.steps ≡ b → (single_step bytes program (record_after bytes program j)).verdict ≡ Accepted 1
        by true z = rw (eqb-true j _ z) (ap (λ (r : Stepped). r.verdict) from-here)
        by false z = a.made j (omega (arith, l, eqb-false j _ z))

  turn-keeps : (s : Writing) → At s → (u : Turn Writing Outcome) → write_turn bytes t.index t.offsets program s ≡ u → Keeps At Claim u
  turn-keeps s a (go u) e =
      let w = goes-written bytes t.index t.offsets s program u e in
      let above = case_open t.index s.position (parts t.index s.position a.standing.0).depth (omega (arith, w.case)) in
      let step = single-runs s.position w.position a.standing.0 above (written-runs bytes t.index t.offsets s program u w) in
      let to : u.position ≡ w.position = ap (λ (x : Writing). x.position) w.to in
      let one : u.position.steps ≡ suc s.position.steps = omega (arith, written-steps bytes t.index t.offsets s program u w) in
      record {
        standing = written_stands bytes t passes s u program a.standing e;
        here = ap (record_after bytes program) one ∙ next_here s a w.position step ∙ sym to;
        made = λ j l. next-made s a w.position step j (omega (arith, l, one));
      }
  turn-keeps s a (stop (refused question place)) e = tt
  turn-keeps s a (stop (accepted k plan)) e =
      let f = accepts-finished bytes t.index t.offsets s program k plan e in
      let q = parts t.index s.position a.standing.0 in
      let done : s.position.case ≡ t.index.cases = omega (arith, f.case, q.case) in
      rw f.count
      (record {
        made = a.made;
        case = ap (λ (x : Position). x.case) a.here ∙ done;
        depth = ap (λ (x : Position). x.depth) a.here ∙ case-finished t.index s.position q.depth done;
        steps = ap (λ (x : Position). x.steps) a.here;
      })

  run-reaches : Claim (run bytes t program)
  unfolding run start starting record_after
  run-reaches =
      loop-keeps At Claim (write_turn bytes t.index t.offsets program) (steps_left t.index) _
      (λ s a. turn-keeps s a _ refl) tt _
      (record {
        standing = starting-possible bytes t passes 0 passes.cases.0;
        here = refl;
        made = λ j l. absurd (omega (arith, l));
      })

pub single-steps-reach : SingleStepsReach
single-steps-reach bytes program buffer k e =
    let x = accepts-accepting bytes program buffer k e in
    subst (Claim bytes program x.task x.value x.task-passes x.passes) x.runs (run-reaches bytes program x.task x.value x.task-passes x.passes)
