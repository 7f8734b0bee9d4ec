-- Demand 2. From left to right: every state that the checker comes to stands for a state of the compiled task that the steps read so far lead
-- to, so the closing record accepts the steps of the whole plan. From right to left: by induction on the steps, each turn of the checker is the
-- next action, and the closing record is accepted because all cases are finished.
-- Assumes nothing.
use Prim.Native.Nat.{ℕ, ◌+◌, ◌≤◌}
use mathlib.Core.Path.{◌≡◌, refl, sym, ap, ◌∙◌}
use mathlib.Core.Bool.{Bool, true, false}
use mathlib.Core.List.{List, [], ◌∷◌, ◌++◌, flat_map}
use native.Mathlib.Omega.{arith}
use lib.ListN.{length, drop, length-append}
use lib.Dec.{leb}
use borrow.Author.Tests.{le-leb, leb-true}
use Rattle.records.specs.Loop.{Turn, stop, go, after}
use Rattle.records.proofs.Laws.Bytes.{closing-read}
use Rattle.records.proofs.Laws.Loop.{Keeps, loop-keeps}
use Rattle.task.specs.Bounds.{program_size}
use Rattle.task.specs.Reading.{read_task}
use Rattle.task.specs.declared.index.Layout.{Layout}
use Rattle.task.specs.Verdict.{Verdict, Accepted, Refused}
use Rattle.task.proofs.Laws.Passed.{Passed, passed}
use Rattle.task.proofs.Laws.Verdict.{refused-accepted}
use Rattle.step.specs.Position.{starting}
use Rattle.step.proofs.Laws.Kept.{starting-possible}
use Rattle.checker.specs.Check as check
use Rattle.checker.specs.Answer.{Answer, Outcome, refused, accepted, passing, filled, answer}
use Rattle.checker.specs.Check.{turn_of, left, begin, follow}
use Rattle.checker.specs.Plan.{PlanStep, is_kind, length_fits, plan_of}
use Rattle.checker.specs.Questions.{BUFFER, PLAN-RECORD}
use Rattle.checker.proofs.Laws.Answer.{size-most}
use Rattle.checker.proofs.Laws.Turns.{accepts-ends, ends-accepts, from, from-begin, from-turn}
use Rattle.demands.specs.Compiled.{Running, State, Applies, Leads, none, then, initial, Solves}
use Rattle.demands.specs.Demand2.{program_of, Solution, Demand2, CheckerRefusalKeeps}
use Rattle.demands.proofs.Laws.Plan.{step_records, plan-records, records-more, end-written}
use Rattle.demands.proofs.Laws.Presets.{presets-hold}
use Rattle.demands.proofs.Laws.Program.{Holds, holds-bytes}
use Rattle.demands.proofs.Laws.Runs.{starting-started}
use Rattle.demands.proofs.Laws.Steps.{Stands, turn-action, applies-turns}

module _ (bytes : List ℕ) (t : Layout) where
  -- one action more at the end
  leads-more : {s c d : State} {σ : List PlanStep} {a : PlanStep} → Leads bytes t s σ c → Applies bytes t a c d → Leads bytes t s (σ ++ (a ∷ [])) d
  leads-more none x = then x none
  leads-more (then y rest) x = then y (leads-more rest x)

module _ (bytes plan : List ℕ) (t : Layout) (passed : Passed bytes t) where
  -- a program that holds the lines of a state, with room for a whole program
  record Program (program : List ℕ) (final : State) : Type 0 where
    holds : Holds t.index.bounds program final.lines
    room : length program ≡ 768

  -- steps, so many and at most S, that are the plan's and solve the task; and the program
  record Solved (k : ℕ) (program : List ℕ) : Type 0 where
    steps : List PlanStep
    final : State
    form : plan ≡ plan_of steps
    count : length steps ≡ k
    bound : k ≤ t.index.bounds.steps
    solves : Solves bytes t steps final
    held : Program program final

  -- a state that the checker comes to: the steps read so far lead to the state that it stands for
  record Come (s : check.State) : Type 0 where
    steps : List PlanStep
    now : State
    leads : Leads bytes t (initial bytes t) steps now
    stands : Stands bytes t passed s now
    form : plan ≡ step_records steps ++ drop s.at plan
    count : length steps ≡ s.position.steps
    bound : s.position.steps ≤ t.index.bounds.steps

  -- an answer that accepts has a solution
  abbrev Sound : Outcome → Type 0
  Sound answer = (k : ℕ) (program : List ℕ) → answer ≡ accepted k program → Solved k program

  come-keeps : (s : check.State) → Come s → (u : Turn check.State Outcome) → turn_of bytes t.index t.offsets plan s ≡ u → Keeps Come Sound u
  come-keeps s come (go u) e =
      let x = turn-action bytes t passed plan s come.now come.stands u e in
      record {
        steps = come.steps ++ (x.action ∷ []);
        now = x.to;
        leads = leads-more bytes t come.leads x.applies;
        stands = x.stands;
        form = records-more plan s.at u.at come.steps x.action come.form x.spells;
        count = length-append come.steps (x.action ∷ []) ∙ omega (arith, come.count, x.counts);
        bound = omega (arith, x.counts, x.few);
      }
  come-keeps s come (stop answer) e = λ k program f.
      let x = accepts-ends bytes t.index t.offsets plan s k program (e ∙ ap stop f) in
      let closes = end-written plan s.at x.kind x.body x.size x.next x.found x.fits x.closing x.end in
      record {
        steps = come.steps;
        final = come.now;
        form = come.form ∙ ap (λ (l : List ℕ). step_records come.steps ++ l) closes ∙ sym (plan-records come.steps);
        count = come.count ∙ sym x.count;
        bound = omega (arith, x.count, come.bound);
        solves = record { leads = come.leads; finished = omega (arith, ap (λ (r : Running). r.case) come.stands.running, x.case) };
        held = record { holds = rw x.same come.stands.holds; room = rw x.same come.stands.room };
      }

  -- from right to left: the steps that are left lead from the state that the checker stands for to the end
  record Accepts (s : check.State) (count : ℕ) (final : State) : Type 0 where
    program : List ℕ
    comes : from bytes t.index t.offsets plan s ≡ accepted (s.position.steps + count) program
    held : Program program final

  leads-accepts : {c final : State} {steps : List PlanStep} → Leads bytes t c steps final → final.running.case ≡ t.index.cases
      → (s : check.State) → Stands bytes t passed s c → drop s.at plan ≡ plan_of steps
      → s.position.steps + length steps ≤ t.index.bounds.steps → Accepts s (length steps) final
  unfolding plan_of after is_kind length_fits
  leads-accepts none finished s stands form bound =
      let r = closing-read plan s.at form in
      let ends =
      ends-accepts bytes t.index t.offsets plan s s.position.steps s.program
      (record {
        kind = 5;
        body = s.at + 4;
        size = 0;
        next = s.at + 4;
        found = r.0;
        known = refl;
        fits = refl;
        closing = refl;
        case = rw stands.running at finished;
        end = r.1;
        count = refl;
        same = refl;
      }) in
      record {
        program = s.program;
        comes =
            from-turn bytes t.index t.offsets plan s
            ∙ ap (λ (u : Turn check.State Outcome). after u (from bytes t.index t.offsets plan)) ends
            ∙ ap (λ (k : ℕ). accepted k s.program) (omega arith);
        held = record { holds = stands.holds; room = stands.room };
      }
  leads-accepts (then {a = a} {rest} applies leads) finished s stands form bound =
      let x = applies-turns bytes t passed plan s _ stands a _ (plan_of rest) applies form (omega arith) in
      let y = leads-accepts leads finished x.to x.stands x.behind (omega (arith, x.counts)) in
      record {
        program = y.program;
        comes =
            from-turn bytes t.index t.offsets plan s
            ∙ ap (λ (u : Turn check.State Outcome). after u (from bytes t.index t.offsets plan)) x.turns
            ∙ y.comes
            ∙ ap (λ (k : ℕ). accepted k y.program) (omega (arith, x.counts));
        held = y.held;
      }

-- a task that passes
module _ (bytes plan : List ℕ) (v : ℕ) (e : (read_task bytes).verdict ≡ Accepted v) where
  abbrev t : Layout
  t = (read_task bytes).layout

  abbrev p : Passed bytes t
  p = passed bytes v e

  begin-stands : Stands bytes t p (begin bytes t.index t.presets) (initial bytes t)
  unfolding begin
  begin-stands =
      record {
        running = sym (starting-started bytes t 0);
        holds = presets-hold bytes v e;
        standing = starting-possible bytes t p 0 p.cases.0;
        room = p.presets;
      }

  -- what the plan comes to is accepted exactly if it has a solution
  follow-solved : (k : ℕ) (program : List ℕ) → follow bytes t plan ≡ accepted k program → Solved bytes plan t p k program
  unfolding follow begin starting flat_map
  follow-solved =
      loop-keeps (Come bytes plan t p) (Sound bytes plan t p) (turn_of bytes t.index t.offsets plan) (left plan) (refused PLAN-RECORD 0)
      (λ s come. come-keeps bytes plan t p s come _ refl)
      (λ k program f. cc)
      (begin bytes t.index t.presets)
      (record { steps = []; now = initial bytes t; leads = none; stands = begin-stands; form = refl; count = refl; bound = omega arith })

  solved-follows : {steps : List PlanStep} {final : State} → plan ≡ plan_of steps → length steps ≤ t.index.bounds.steps → Solves bytes t steps final
      → Accepts bytes plan t p (begin bytes t.index t.presets) (length steps) final
  unfolding begin starting
  solved-follows form bound solves =
      leads-accepts bytes plan t p solves.leads solves.finished (begin bytes t.index t.presets) begin-stands form (omega arith)

  module _ (buffer : List ℕ) (room : program_size t.index.bounds ≤ length buffer) where
    -- the answer is the plan's
    check-answers : check.check bytes plan buffer ≡ answer (program_size t.index.bounds) buffer (follow bytes t plan)
    unfolding check.check passing
    check-answers = rw (e, le-leb (program_size t.index.bounds) (length buffer) room) refl

    -- a program that holds a state's lines fills the buffer with that state's program
    program-fills : (program : List ℕ) (final : State) → Program bytes plan t p program final
        → filled (program_size t.index.bounds) program buffer
        ≡ program_of t.index.bounds final.lines ++ drop (program_size t.index.bounds) buffer
    unfolding filled
    program-fills program final h =
        ap (λ (l : List ℕ). l ++ drop (program_size t.index.bounds) buffer)
        (holds-bytes t.index.bounds program final.lines (omega (arith, h.room, size-most t.index.bounds p.bounded)) h.holds)

    module _ (k : ℕ) (filled' : List ℕ) where
      accepted-solution : (f : Outcome) → follow bytes t plan ≡ f
          → answer (program_size t.index.bounds) buffer f ≡ record { verdict = Accepted k; buffer = filled' } → Solution bytes plan buffer t k filled'
      unfolding answer
      accepted-solution (refused question place) g h = absurd (refused-accepted (ap (λ (c : Answer). c.verdict) h))
      accepted-solution (accepted steps program) g h =
          let n : steps ≡ k = cc (ap (λ (c : Answer). c.verdict) h) in
          let x = follow-solved k program (g ∙ ap (λ (m : ℕ). accepted m program) n) in
          record {
            value = v;
            passes = e;
            room = omega (arith, room);
            steps = x.steps;
            final = x.final;
            form = x.form;
            count = x.count;
            bound = omega (arith, x.bound);
            solves = x.solves;
            program = sym (ap (λ (c : Answer). c.buffer) h) ∙ program-fills program x.final x.held;
          }

      solution-accepted : Solution bytes plan buffer t k filled' → check.check bytes plan buffer ≡ record { verdict = Accepted k; buffer = filled' }
      unfolding answer begin starting
      solution-accepted x =
          let y = solved-follows x.form (omega (arith, x.count, x.bound)) x.solves in
          let comes : follow bytes t plan ≡ accepted k y.program =
          sym (from-begin bytes t.index t.offsets plan t.presets) ∙ y.comes ∙ ap (λ (n : ℕ). accepted n y.program) (omega (arith, x.count)) in
          check-answers ∙ ap (answer (program_size t.index.bounds) buffer) comes
          ∙ ap (λ (l : List ℕ). record { verdict = Accepted k; buffer = l }) (program-fills y.program x.final y.held ∙ sym x.program)

-- an accepted plan's task passes and its buffer is long enough: a task that does not pass and a buffer that is too short are refused
module _ (bytes plan buffer : List ℕ) (k : ℕ) (filled' : List ℕ) (h : check.check bytes plan buffer ≡ record { verdict = Accepted k; buffer = filled' }) where
  not-refused : (question place : ℕ) (after : List ℕ) → check.check bytes plan buffer ≡ record { verdict = Refused question place; buffer = after } → ⊥
  not-refused question place after g = refused-accepted (ap (λ (c : Answer). c.verdict) (sym g ∙ h))

  accepted-room : (v : ℕ) (e : (read_task bytes).verdict ≡ Accepted v) (b : Bool)
      → leb (program_size (read_task bytes).layout.index.bounds) (length buffer) ≡ b → Solution bytes plan buffer (read_task bytes).layout k filled'
  unfolding check.check passing answer
  accepted-room v e true f =
      let room = leb-true (program_size (read_task bytes).layout.index.bounds) (length buffer) f in
      accepted-solution bytes plan v e buffer room k filled' _ refl (sym (check-answers bytes plan v e buffer room) ∙ h)
  accepted-room v e false f = absurd (not-refused BUFFER 0 buffer (rw (e, f) refl))

  accepted-passes : (v : Verdict) → (read_task bytes).verdict ≡ v → Solution bytes plan buffer (read_task bytes).layout k filled'
  unfolding check.check passing answer
  accepted-passes (Refused question place) e = absurd (not-refused question place buffer (rw e refl))
  accepted-passes (Accepted v) e = accepted-room v e _ refl

pub demand-2 : Demand2
demand-2 bytes plan buffer k filled' = (
  λ h. accepted-passes bytes plan buffer k filled' h _ refl,
  λ x. solution-accepted bytes plan x.value x.passes buffer x.room k filled' x,
)

-- an answer that refuses has the buffer that was given
pub answer_keeps : (size : ℕ) (buffer after : List ℕ) (f : Outcome) (question place : ℕ)
    → answer size buffer f ≡ record { verdict = Refused question place; buffer = after } → after ≡ buffer
unfolding answer
answer_keeps size buffer after (refused q p) question place h = sym (ap (λ (c : Answer). c.buffer) h)
answer_keeps size buffer after (accepted k program) question place h = absurd (refused-accepted (sym (ap (λ (c : Answer). c.verdict) h)))

pub checker-refusal-keeps : CheckerRefusalKeeps
unfolding check.check
checker-refusal-keeps bytes plan buffer after question place h = answer_keeps _ buffer after _ question place h
