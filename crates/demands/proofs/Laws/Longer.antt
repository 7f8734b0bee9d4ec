-- A file, and that of the same task with a case added last. What is read of the second is what is read of the first, with one case more: the bounds, the
-- actions, what a preset line holds, and each case that was there. So a move on the one is a move on the other, but that the end of the case that was the last
-- one begins the new case; and so is a step, and a run on a case by itself.
-- Assumes nothing.
use Prim.Native.Nat.{ℕ, ◌+◌, ◌*◌, ◌/◌, ◌%◌, ◌≤◌, ◌<◌}
use mathlib.Core.Path.{◌≡◌, refl, sym, ap, subst, ◌∙◌}
use mathlib.Core.Bool.{true}
use mathlib.Core.List.{List, [], ◌∷◌}
use native.Mathlib.Decide.{ℕ_discrete}
use native.Mathlib.Nat.{mod-lt}
use native.Mathlib.Omega.{arith}
use lib.ListN.{length, get_or, length-append, get_or-append}
use lib.Seq.{get_or_at}
use borrow.Author.Tests.{ne_eqb}
use Rattle.records.specs.Loop.{go}
use Rattle.task.specs.Bounds.{line_count}
use Rattle.task.specs.Index.{action_at, effects_of, case_at}
use Rattle.task.specs.Instruction.{triple_at}
use Rattle.task.specs.Program.{line_bytes, instruction_on, line_allowed, preset_held, every_line, program_verdict}
use Rattle.task.specs.Reading.{read_task}
use Rattle.task.specs.Task.{Action, Task}
use Rattle.task.specs.TaskAt.{action_of, task_at, task_of}
use Rattle.task.specs.declared.index.Case.{Case}
use Rattle.task.specs.declared.index.Layout.{Layout}
use Rattle.std.specs.Prelude.{Some}
use Rattle.task.specs.declared.instruction.Instruction.{Instruction}
use Rattle.task.specs.declared.instruction.Instruction.TheVariants.{End}
use Rattle.task.specs.declared.instruction.Line.{Line}
use Rattle.task.specs.declared.instruction.Proc.{Proc}
use Rattle.task.proofs.Laws.First.{found-same}
use Rattle.task.proofs.Laws.Instruction.{allows, decode-allowed}
use Rattle.task.proofs.Laws.Program.{line-offset}
use Rattle.task_file.specs.TaskFile.{HoldsPresets}
use Rattle.task_file.proofs.Laws.Located.{actions-counted, action-located, cases-counted, case-located}
use Rattle.task_file.proofs.Laws.Presets.{holds_same}
use Rattle.task_file.proofs.TaskFile.{preset-program}
use Rattle.step.specs.Perform.{perform, run_line, run_step}
use Rattle.step.specs.Position.{top, jumped, advanced, pushed, popped, with_facts, next_case, finished, counted}
use Rattle.step.specs.Possible.{depth_fits, possible}
use Rattle.step.specs.Ready.{Known}
use Rattle.step.specs.Run.{Visit, Makes, Ends, last, then, ClosesCase}
use Rattle.step.specs.declared.position.Position.{Position}
use Rattle.step.proofs.Laws.Answers.{line-performs, steps-left}
use Rattle.step.proofs.Laws.Perform.{Move, acts, falls-through, jumps, calls, returns, begins, finishes, performed, moves, Ran, line-ran, step-ran}
use Rattle.step.proofs.Laws.Possible.{Parts, parts, parts-possible, depth-open}
use Rattle.demands.specs.LateCase.{Longer}

-- a finished record with the new case reopened
unfoldable pub reopened : Case → Position → Position
reopened c s = record { facts = c.start; steps = s.steps; case = s.case; depth = 1; frames = s.frames }

module _ (old new : List ℕ) (c : Case) (longer : Longer old new c) where
  abbrev t : Layout
  t = (read_task old).layout

  abbrev u : Layout
  u = (read_task new).layout

  -- what is read of the longer file
  pub same-bounds : u.index.bounds ≡ t.index.bounds
  unfolding task_of task_at
  same-bounds = ap (λ (x : Task). x.bounds) longer.after.same

  pub same-actions : u.index.actions ≡ t.index.actions
  same-actions =
      sym (actions-counted new 0 longer.after.passes)
      ∙ ap (λ (x : Task). length x.actions) longer.after.same
      ∙ actions-counted old 0 longer.before.passes

  pub one-case-more : u.index.cases ≡ t.index.cases + 1
  one-case-more =
      sym (cases-counted new)
      ∙ ap (λ (x : Task). length x.cases) longer.after.same
      ∙ length-append (task_of old).cases (c ∷ [])
      ∙ ap (λ (n : ℕ). n + 1) (cases-counted old)

  same-action : (a : ℕ) → a < t.index.actions → action_of new (get_or u.offsets a 0) ≡ action_of old (get_or t.offsets a 0)
  same-action a h =
      let d = action_of old 0 in
      sym (action-located new 0 longer.after.passes a (omega (arith, h, same-actions)) d)
      ∙ ap (λ (x : Task). get_or x.actions a d) longer.after.same
      ∙ action-located old 0 longer.before.passes a h d

  pub same_case : (n : ℕ) → n < t.index.cases → case_at new u.index.first n ≡ case_at old t.index.first n
  same_case n h =
      sym (case-located new n (omega (arith, h, one-case-more)) c)
      ∙ ap (λ (x : Task). get_or x.cases n c) longer.after.same
      ∙ get_or-append (task_of old).cases (c ∷ []) c n (omega (arith, h, cases-counted old))
      ∙ case-located old n h c

  pub new-case : case_at new u.index.first t.index.cases ≡ c
  new-case =
      sym (case-located new t.index.cases (omega (arith, one-case-more)) c)
      ∙ ap (λ (x : Task). get_or x.cases t.index.cases c) longer.after.same
      ∙ get_or_at (task_of old).cases c [] c t.index.cases (cases-counted old)

  -- what a line is preset to
  pub same-preset : (procedure : Proc) (line : Line) → line.0 ≤ t.index.bounds.last
      → line_bytes t.index.bounds u.presets procedure line ≡ line_bytes t.index.bounds t.presets procedure line
  unfolding task_of task_at
  same-preset procedure line h =
      holds_same t.index.bounds u.presets t.presets procedure line (task_of old).presets
      (subst (λ (x : Task). HoldsPresets x.bounds x.presets u.presets) longer.after.same (preset-program new 0 longer.after.passes))
      (preset-program old 0 longer.before.passes) h

  pub same-instruction : (program : List ℕ) (procedure : Proc) (line : Line)
      → instruction_on u.index program procedure line ≡ instruction_on t.index program procedure line
  unfolding instruction_on
  same-instruction program procedure line = rw (same-bounds, same-actions) refl

  -- questions 25 to 27
  same-triple : (k : ℕ) → triple_at u.presets (3 * k) ≡ triple_at t.presets (3 * k)
  same-triple k =
      let b = t.index.bounds in
      let at = line-offset b k in
      ap (triple_at u.presets) (sym at)
      ∙ same-preset (record { 0 = k / (b.last + 1) }) (record { 0 = k % (b.last + 1) }) (omega (arith, mod-lt k {m = b.last + 1} (omega arith)))
      ∙ ap (triple_at t.presets) at

  same-held : (program : List ℕ) (k : ℕ) → preset_held u.presets program k ≡ preset_held t.presets program k
  unfolding preset_held
  same-held program k = rw (same-triple k) refl

  same-allowed : (program : List ℕ) (k : ℕ) → line_allowed u.index program k ≡ line_allowed t.index program k
  unfolding line_allowed
  same-allowed program k = rw (same-bounds, same-actions) refl

  pub same-verdict : (program : List ℕ) → program_verdict u.index u.presets program ≡ program_verdict t.index t.presets program
  unfolding program_verdict every_line
  same-verdict program =
      let lines = line_count t.index.bounds in
      let allowed = found-same (line_allowed u.index program) (line_allowed t.index program) lines (λ k h. same-allowed program k) in
      let held = found-same (preset_held u.presets program) (preset_held t.presets program) lines (λ k h. same-held program k) in
      rw (same-bounds, allowed, held) refl

  -- question 31, of a position that is not the finish
  pub still-possible : (s : Position) → possible t.index s ≡ true → 0 < s.depth → possible u.index s ≡ true
  unfolding depth_fits
  still-possible s h d =
      let p = parts t.index s h in
      let below = depth-open t.index s p.depth d in
      parts-possible u.index s
      (record {
        case = omega (arith, p.case, one-case-more);
        facts = rw same-bounds p.facts;
        steps = rw same-bounds p.steps;
        depth =
            rw (same-bounds, ne_eqb s.case u.index.cases (λ (e : s.case ≡ u.index.cases). omega (arith, e, p.case, one-case-more)))
            (rw (ne_eqb s.case t.index.cases below.0) at p.depth);
        frames = rw same-bounds p.frames;
      })

  -- one move, in a case that was there
  module _ (s : Position) (below : s.case < t.index.cases) where
    module _ (action : ℕ) (known : action < t.index.actions) where
      same-precondition : (action_at new (get_or u.offsets action 0)).precondition ≡ (action_at old (get_or t.offsets action 0)).precondition
      unfolding action_of
      same-precondition = ap (λ (a : Action). a.precondition) (same-action action known)

      same-effects : effects_of new (get_or u.offsets action 0) ≡ effects_of old (get_or t.offsets action 0)
      unfolding action_of
      same-effects = ap (λ (a : Action). a.effects) (same-action action known)

    same-goal : (case_at new u.index.first s.case).goal ≡ (case_at old t.index.first s.case).goal
    same-goal = ap (λ (x : Case). x.goal) (same_case s.case below)

    -- to a position with a frame
    same_move : {w : Instruction} {v : Position} → Move old t.index t.offsets s w v → Known t.index w → 0 < v.depth
        → Move new u.index u.offsets s w v
    unfolding finished
    same_move (acts {action} h) known d =
        let p = same-precondition action (known action refl) in
        let e = same-effects action (known action refl) in
        rw (← e) (acts {action = action} (rw p h))
    same_move (falls-through h) known d = falls-through h
    same_move (jumps h) known d = jumps h
    same_move (calls h) known d = calls (rw same-bounds h)
    same_move (returns h) known d = returns h
    same_move (begins h k l) known d =
        let e = ap (λ (x : Case). x.start) (same_case (s.case + 1) l) in
        rw (← e) (begins h (rw same-goal k) (omega (arith, l, one-case-more)))
    same_move (finishes h k l) known d = absurd (omega (arith, d))

    -- to a position without one, which is the finish: the new case begins
    new-move : {w : Instruction} {v : Position} → Move old t.index t.offsets s w v → 0 < s.depth → v.depth ≡ 0
        → Move new u.index u.offsets s w (reopened c v)
    unfolding jumped advanced pushed popped with_facts next_case finished reopened
    new-move (acts h) above z = absurd (omega (arith, above, z))
    new-move (falls-through h) above z = absurd (omega (arith, above, z))
    new-move (jumps h) above z = absurd (omega (arith, above, z))
    new-move (calls h) above z = absurd (omega (arith, z))
    new-move (returns h) above z = absurd (omega (arith, h, z))
    new-move (begins h k l) above z = absurd (omega (arith, z))
    new-move (finishes h k l) above z =
        let next : s.case + 1 ≡ t.index.cases = omega (arith, below, l) in
        let e : (case_at new u.index.first (s.case + 1)).start ≡ c.start = rw next (ap (λ (x : Case). x.start) new-case) in
        subst (λ (start : ℕ). Move new u.index u.offsets s End (next_case s start)) e (begins h (rw same-goal k) (omega (arith, next, one-case-more)))

  -- what an instruction that does not stop leads to on the longer task
  pub record Follows (s : Position) (w : Instruction) (v : Position) : Type 0 where
    pub on : 0 < v.depth → perform new u.index u.offsets s w ≡ go v
    pub begins : v.depth ≡ 0 → perform new u.index u.offsets s w ≡ go (reopened c v)

  follows : (s : Position) (w : Instruction) (v : Position) → s.case < t.index.cases → Known t.index w → 0 < s.depth
      → perform old t.index t.offsets s w ≡ go v → Follows s w v
  unfolding counted reopened
  follows s w v below known above e =
      let m = performed old t.index t.offsets s w v e in
      record {
        on = λ d. rw m.after (sym (moves new u.index u.offsets s (same_move s below m.move known (rw m.after at d))));
        begins = λ z. rw m.after (sym (moves new u.index u.offsets s (new-move s below m.move above (rw m.after at z))));
      }

  -- one line of a program
  module _ (program : List ℕ) (s : Position) (below : s.case < t.index.cases) (above : 0 < s.depth) where
    line_known : (w : Instruction) → instruction_on t.index program (top s).procedure (top s).line ≡ Some w → Known t.index w
    unfolding instruction_on
    line_known w e action f =
        let allowed = allows t.index.bounds t.index.actions (top s).line w (decode-allowed t.index.bounds t.index.actions (top s).line _ w e) in
        (rw f at allowed).1

    module _ (v : Position) (r : Ran old t.index t.offsets s program v) where
      ran-follows : Follows s r.instruction v
      ran-follows = follows s r.instruction v below (line_known r.instruction r.here) above r.does

      line_on : (x : Position) → perform new u.index u.offsets s r.instruction ≡ go x → run_line new u.index u.offsets program s ≡ go x
      line_on x e =
          sym (line-performs new u.index u.offsets program s (top s) refl _ refl r.instruction (same-instruction program _ _ ∙ r.here)) ∙ e

    -- a step of the run of a case by itself
    module _ (w : Instruction) (next : Position) (m : Makes old t.index t.offsets program s w next) where
      ran : Ran old t.index t.offsets s program next
      ran = line-ran old t.index t.offsets s program next m.goes

      -- the line holds one instruction
      same_w : ran.instruction ≡ w
      same_w = let e = sym ran.here ∙ m.line in cc

      new_line : instruction_on u.index program (top s).procedure (top s).line ≡ Some w
      new_line = same-instruction program _ _ ∙ m.line

      makes-on : 0 < next.depth → Makes new u.index u.offsets program s w next
      makes-on d = record { line = new_line; goes = line_on next ran next ((ran-follows next ran).on d) }

      -- with some position behind it
      pub makes-too : (v : Position) × Makes new u.index u.offsets program s w v
      makes-too =
          elim (ℕ_discrete next.depth 0) [
            | yes z ↦ (reopened c next, record { line = new_line; goes = line_on next ran (reopened c next) ((ran-follows next ran).begins z) })
            | no n ↦ (next, makes-on (omega (arith, n)))
          ]

      -- a step that closes no case leads to a position with a frame, in the same case
      pub stays_open : (ClosesCase s w → ⊥) → (0 < next.depth) × (next.case ≡ s.case)
      unfolding counted jumped advanced pushed popped with_facts
      stays_open stays =
          let x = performed old t.index t.offsets s ran.instruction next ran.does in
          rw x.after (of x.move (λ e d. stays (sym same_w ∙ e, d)))
        where
          of : {w' : Instruction} {v : Position} → Move old t.index t.offsets s w' v → (w' ≡ End → s.depth ≡ 1 → ⊥) → (0 < v.depth) × (v.case ≡ s.case)
          of (acts h) n = (above, refl)
          of (falls-through h) n = (above, refl)
          of (jumps h) n = (above, refl)
          of (calls h) n = (omega arith, refl)
          of (returns h) n = (omega (arith, h), refl)
          of (begins h k l) n = absurd (n refl (omega (arith, h, above)))
          of (finishes h k l) n = absurd (n refl (omega (arith, h, above)))

  -- a step of a program, within the step bound
  pub step_follows : (program : List ℕ) (s v : Position) → possible t.index s ≡ true → 0 < s.depth → run_step old t.index t.offsets program s ≡ go v
      → (0 < v.depth → run_step new u.index u.offsets program s ≡ go v) × (v.depth ≡ 0 → run_step new u.index u.offsets program s ≡ go (reopened c v))
  step_follows program s v h above e =
      let p = parts t.index s h in
      let below : s.case < t.index.cases = case-below p (depth-open t.index s p.depth above).0 in
      let r = step-ran old t.index t.offsets s program v e in
      let f = ran-follows program s below above v r.1 in
      let bound = sym (steps-left new u.index u.offsets program s (rw same-bounds r.0)) in (
        λ d. bound ∙ line_on program s below above v r.1 v (f.on d),
        λ z. bound ∙ line_on program s below above v r.1 (reopened c v) (f.begins z),
      )
    where
      case-below : Parts t.index s → (s.case ≡ t.index.cases → ⊥) → s.case < t.index.cases
      case-below p n = omega (arith, p.case, n)

  -- the run of a case that was there, by itself
  pub same-run : (program : List ℕ) {s : Position} {visits : List Visit} → Ends old t.index t.offsets program s visits → s.case < t.index.cases
      → 0 < s.depth → Ends new u.index u.offsets program s visits
  same-run program {s} (last {w = w} m closes) below above = last (makes-too program s below above w _ m).1 closes
  same-run program {s} (then {next = next} {w} m goes rest) below above =
      let k = stays_open program s below above w next m goes in
      then (makes-on program s below above w next m k.0) goes (same-run program rest (omega (arith, k.1, below)) k.0)
