-- Demand 3. Both halves go through the compiled task. First half: by demand 2 an accepted plan solves it, so the lines at its end make the plan's visits; cut into
-- cases, these are the runs on each case by itself, and the writer, which runs the same lines from the same presets, writes the plan. Second half: the writer's
-- run makes the program's visits, and the runs on each case, laid end to end, are such visits; the plan that they give is followed from the presets to the
-- finish, so it solves the compiled task, and by demand 2 the checker accepts it.
-- Assumes nothing.
use Prim.Native.Nat.{ℕ, zero, suc, ◌+◌, ◌≤◌}
use mathlib.Core.Path.{◌≡◌, refl, sym, ap, ◌∙◌, subst}
use mathlib.Core.Bool.{true}
use mathlib.Core.List.{List, ◌++◌}
use native.Mathlib.Omega.{arith}
use lib.Dec.{ltb}
use lib.ListN.{length, take, drop}
use lib.Seq.{take-append_seam}
use Rattle.task.specs.Bounds.{line_count, program_size}
use Rattle.task.specs.Instruction.{allowed, encode}
use Rattle.task.specs.Program.{instruction_on, spelled_on}
use Rattle.task.specs.Reading.{read_task}
use Rattle.task.specs.declared.bounds.Bounds.{Bounds}
use Rattle.task.specs.declared.index.Layout.{Layout}
use Rattle.std.specs.Prelude.{Some}
use Rattle.task.specs.declared.instruction.Instruction.{Instruction}
use Rattle.task.specs.declared.instruction.Triple.{Triple}
use Rattle.task.specs.Verdict.{Accepted, Refused}
use Rattle.task.proofs.Laws.Passed.{Passed, passed}
use Rattle.task.proofs.Laws.Program.{program-passes, passes-program}
use Rattle.step.specs.Position.{starting}
use Rattle.step.specs.Run.{Visit}
use Rattle.step.specs.declared.position.Frame.{Frame}
use Rattle.step.proofs.Laws.Kept.{starting-possible}
use Rattle.step.proofs.Laws.Run.{ends-once}
use Rattle.checker.specs.Answer.{Answer, Outcome, refused, accepted}
use Rattle.checker.specs.Check.{check}
use Rattle.checker.specs.Plan.{PlanStep, plan_of, plan_size}
use Rattle.checker.specs.Write.{start, run, program_result, on_finish, write}
use Rattle.checker.proofs.Laws.Write.{run-start}
use Rattle.demands.specs.Compiled.{Running, started, instruction_at, preset_on}
use Rattle.demands.specs.Demand2.{line_of, bytes_from, program_of, Solution}
use Rattle.demands.specs.Demand3.{end_to_end, steps_of, bytes_on, is_preset, lines_back, Inside, WellFormedProgram, SolvesCases, GivesProgram, FirstHalf, SecondHalf, OneRun, WriterRefusalKeeps}
use Rattle.demands.proofs.Demand2.{demand-2, answer_keeps}
use Rattle.demands.proofs.Laws.Cases.{from_all, all_from, chain-ends, ends-chain}
use Rattle.demands.proofs.Laws.Finish.{steps-answer, filled-bytes, run-result, accepts-accepting}
use Rattle.demands.proofs.Laws.Heart as heart
use Rattle.demands.proofs.Laws.Heart.{is_filled, Extends, Knows, Agrees, Chain, Follows, visits_of, visits-length, steps-length, chain-visits, chain-agrees, follows-extends, follows-chain, follows-steps, chain-follows, written_either, filled-not, filled-true}
use Rattle.demands.proofs.Laws.Held.{line-held, held-decodes, held-formed, passes-formed, formed-passes, program-length, program-holds}
use Rattle.demands.proofs.Laws.Leads.{Taken, taken-filled, taken-inside, leads-follows, follows-leads}
use Rattle.demands.proofs.Laws.Presets.{LinesAllowed, presets-hold, presets-allowed}
use Rattle.demands.proofs.Laws.Program.{line-inside}
use Rattle.demands.proofs.Laws.Runs.{starting-started}
use Rattle.demands.proofs.Laws.Writes.{Stands, accepted-ran, followed-accepted}

-- steps that may stand on their lines keep all lines allowed
follows-allowed : (bytes : List ℕ) (t : Layout) {lines last : Frame → Instruction} {r end : Running} {σ : List PlanStep}
    → Follows (Taken bytes t) lines r σ last end → LinesAllowed t.index.bounds t.index.actions lines
    → LinesAllowed t.index.bounds t.index.actions last
follows-allowed bytes t heart.none allows = allows
follows-allowed bytes t (heart.writes {lines} {f = f} {w} empty taken more) allows =
    follows-allowed bytes t more
    (λ g h. written_either lines f w g (λ (v : Instruction). allowed t.index.bounds t.index.actions g.line v ≡ true)
    (λ e. rw e at taken.0.allowed) (allows g h))
follows-allowed bytes t (heart.repeats same taken more) allows = follows-allowed bytes t more allows

-- lines that are the same where a program has lines are the same program
module _ (b : Bounds) (lines others : Frame → Instruction) (same : (f : Frame) → Inside b f → lines f ≡ others f) where
  bytes_same : (left k : ℕ) → k + left ≤ line_count b → bytes_from b lines k left ≡ bytes_from b others k left
  unfolding bytes_from
  bytes_same zero k h = refl
  bytes_same (suc left) k h = rw (same (line_of b k) (line-inside b k (omega arith)), bytes_same left (suc k) (omega arith)) refl

  program-same : program_of b lines ≡ program_of b others
  unfolding program_of
  program-same = bytes_same (line_count b) 0 (omega arith)

-- a task that passes
module _ (bytes : List ℕ) (v : ℕ) (e : (read_task bytes).verdict ≡ Accepted v) where
  abbrev t : Layout
  t = (read_task bytes).layout

  abbrev b : Bounds
  b = t.index.bounds

  abbrev p : Passed bytes t
  p = passed bytes v e

  -- the preset lines are those that hold something
  presets-known : Knows (Inside b) (is_preset t) (preset_on bytes t)
  unfolding is_preset is_filled
  presets-known f h = ap (λ (x : Triple). ltb 0 x.op) (presets-hold bytes v e f h)

  -- a program whose bytes hold some lines, which extend the presets
  module _ (program : List ℕ) (lines : Frame → Instruction)
      (held : (f : Frame) → Inside b f → instruction_on t.index program f.procedure f.line ≡ Some (lines f))
      (extends : Extends (Inside b) lines (preset_on bytes t)) where
    start-stands : Stands t lines (start bytes t.index t.presets) (preset_on bytes t) (started bytes t 0)
    unfolding start
    start-stands =
        record {
          running = sym (starting-started bytes t 0);
          holds = presets-hold bytes v e;
          extends = extends;
          standing = starting-possible bytes t p 0 p.cases.0;
          room = p.presets;
        }

    -- steps that are followed from the presets to the finish, and agree with the program, are what its run comes to
    followed-result : {last : Frame → Instruction} {end : Running} {σ : List PlanStep} → WellFormedProgram t program
        → Follows (Taken bytes t) (preset_on bytes t) (started bytes t 0) σ last end → Agrees lines (visits_of σ) → end.case ≡ t.index.cases
        → length σ ≤ b.steps → program_result bytes program ≡ accepted (length σ) (plan_of σ)
    unfolding start starting
    followed-result {σ = σ} formed follows agrees finished bound =
        run-result bytes program v e (sym (passes-program t.index t.presets program (formed-passes t program formed)))
        ∙ sym (run-start bytes t.index t.offsets program t.presets)
        ∙ followed-accepted bytes t p program lines held follows agrees finished (start bytes t.index t.presets) start-stands (omega arith)
        ∙ ap (λ (n : ℕ). accepted n (plan_of σ)) (omega arith)

  -- the program of a solution, line by line
  module _ (plan buffer : List ℕ) (k : ℕ) (filled : List ℕ) (x : Solution bytes plan buffer t k filled) where
    abbrev lines : Frame → Instruction
    lines = x.final.lines

    abbrev program : List ℕ
    program = program_of b lines

    follows : Follows (Taken bytes t) (preset_on bytes t) (started bytes t 0) x.steps lines x.final.running
    follows = leads-follows bytes t x.solves.leads

    extends : Extends (Inside b) lines (preset_on bytes t)
    extends = follows-extends (Taken bytes t) (Inside b) follows

    lines-allowed : LinesAllowed b t.index.actions lines
    lines-allowed = follows-allowed bytes t follows (presets-allowed bytes v e)

    held : (f : Frame) → Inside b f → instruction_on t.index program f.procedure f.line ≡ Some (lines f)
    held = held-decodes t program lines (program-holds b lines) lines-allowed

    visits : Chain (Taken bytes t) lines (started bytes t 0) (visits_of x.steps) x.final.running
    visits = follows-chain (Inside b) (Taken bytes t) (taken-inside bytes t) (taken-filled bytes t) follows

    -- a preset line is filled, so the lines have it at the end too
    presets-kept : (f : Frame) → Inside b f → is_preset t f ≡ true → encode (lines f) ≡ bytes_on b t.presets f
    presets-kept f h y =
        ap encode (sym (extends f h (filled-not (preset_on bytes t f) (sym (presets-known f h) ∙ y)))) ∙ sym (presets-hold bytes v e f h)

    formed : WellFormedProgram t program
    formed = held-formed t program lines (program-holds b lines) (program-length b lines) lines-allowed presets-kept

    visits-few : length (visits_of x.steps) ≤ b.steps
    visits-few = omega (arith, visits-length x.steps, x.count, x.bound)

    solution-result : program_result bytes program ≡ accepted k (plan_of x.steps)
    solution-result =
        followed-result program lines held extends formed follows (chain-agrees (Taken bytes t) visits) x.solves.finished (omega (arith, x.count, x.bound))
        ∙ ap (λ (n : ℕ). accepted n (plan_of x.steps)) x.count

    solution-gives : GivesProgram bytes t program plan k
    solution-gives =
        let cut = chain-ends bytes t p program lines held {c = 0} visits x.solves.finished p.cases.0 visits-few in
        record {
          traces = cut.traces;
          runs = from_all bytes t program cut.ends;
          form =
              x.form
              ∙ ap plan_of (follows-steps (Inside b) (Taken bytes t) (taken-inside bytes t) (taken-filled bytes t) (is_preset t) presets-known follows)
              ∙ ap (λ (τ : List Visit). plan_of (steps_of (is_preset t) τ)) (sym cut.whole);
          count = ap length cut.whole ∙ visits-length x.steps ∙ x.count;
          writes = λ room enough.
              steps-answer bytes program k x.steps x.count solution-result room enough
              ∙ ap (λ (l : List ℕ). record { verdict = Accepted k; buffer = l ++ drop (plan_size k) room }) (sym x.form);
        }

    -- the program that the checker filled the buffer with
    filled-program : take (program_size b) filled ≡ program
    filled-program =
        ap (take (program_size b)) x.program
        ∙ ap (λ (n : ℕ). take n (program ++ drop (program_size b) buffer)) (sym (program-length b lines))
        ∙ take-append_seam program (drop (program_size b) buffer)

  -- a program that is well formed holds its lines, which extend the presets
  module _ (program : List ℕ) (formed : WellFormedProgram t program) where
    abbrev lines_of : Frame → Instruction
    lines_of = instruction_at b program

    lines-held : (f : Frame) → Inside b f → instruction_on t.index program f.procedure f.line ≡ Some (lines_of f)
    lines-held = line-held t program formed

    presets-extended : Extends (Inside b) lines_of (preset_on bytes t)
    unfolding spelled_on
    presets-extended f h n = rw (formed.presets f h (presets-known f h ∙ filled-true _ n)) refl

    -- the writer's run, if it is accepted, is a good one
    module _ (k : ℕ) (plan : List ℕ) (runs : run bytes t program ≡ accepted k plan) where
      run-good : SolvesCases bytes t program k
      unfolding start starting
      run-good =
          let x =
          accepted-ran bytes t p program lines_of lines-held (start bytes t.index t.presets)
          (preset_on bytes t) (started bytes t 0) (start-stands program lines_of lines-held presets-extended)
          k plan (run-start bytes t.index t.offsets program t.presets ∙ runs) in
          let few : length (visits_of x.steps) ≤ b.steps = omega (arith, visits-length x.steps, x.count, x.bound) in
          let cut = chain-ends bytes t p program lines_of lines-held {c = 0} x.visits x.finished p.cases.0 few in
          record {
            formed = formed;
            traces = cut.traces;
            runs = from_all bytes t program cut.ends;
            count = ap length cut.whole ∙ visits-length x.steps ∙ omega (arith, x.count);
            bound = omega (arith, x.bound);
          }

  -- a good program's runs, as a plan
  module _ (program : List ℕ) (k : ℕ) (good : SolvesCases bytes t program k) where
    abbrev τ : List Visit
    τ = end_to_end good.traces

    abbrev steps : List PlanStep
    steps = steps_of (is_preset t) τ

    -- it is followed from the presets to the finish, to the lines that are preset or visited
    record Planned : Type 0 where
      last : Frame → Instruction
      end : Running
      follows : Follows (Taken bytes t) (preset_on bytes t) (started bytes t 0) steps last end
      lines_are : (f : Frame) → Inside b f → last f ≡ lines_back t program τ f
      agrees : Agrees (lines_of program good.formed) (visits_of steps)
      finished : end.case ≡ t.index.cases

    planned : Planned
    unfolding lines_back
    planned =
        let lines = lines_of program good.formed in
        let held = lines-held program good.formed in
        let joined =
        ends-chain bytes t p program lines held {c = 0} (all_from bytes t program good.runs)
        (omega (arith, good.count, good.bound)) in
        let x =
        chain-follows (Inside b) (Taken bytes t) (taken-inside bytes t) (taken-filled bytes t) joined.chain
        (is_preset t) (preset_on bytes t) (presets-known) (presets-extended program good.formed) in
        record {
          last = x.last;
          end = joined.end;
          follows = x.follows;
          lines_are = x.lines_are;
          agrees = rw (chain-visits (is_preset t) τ) (chain-agrees (Taken bytes t) joined.chain);
          finished = joined.finished;
        }

    steps-count : length steps ≡ k
    steps-count = steps-length (is_preset t) τ ∙ good.count

    good-result : program_result bytes program ≡ accepted k (plan_of steps)
    good-result =
        followed-result program (lines_of program good.formed) (lines-held program good.formed)
        (presets-extended program good.formed) good.formed planned.follows planned.agrees planned.finished
        (omega (arith, steps-count, good.bound))
        ∙ ap (λ (n : ℕ). accepted n (plan_of steps)) steps-count

    -- the checker accepts it, and gives these lines back
    good-checks : (room : List ℕ) → program_size b ≤ length room
        → check bytes (plan_of steps) room
        ≡ record {
          verdict = Accepted k;
          buffer = program_of b (lines_back t program τ) ++ drop (program_size b) room;
        }
    good-checks room enough =
        (demand-2 bytes (plan_of steps) room k _).1
        (record {
          value = v;
          passes = e;
          room = enough;
          steps = steps;
          final = record { lines = planned.last; running = planned.end };
          form = refl;
          count = steps-count;
          bound = good.bound;
          solves = record { leads = follows-leads bytes t planned.follows; finished = planned.finished };
          program =
              ap (λ (l : List ℕ). l ++ drop (program_size b) room)
              (sym (program-same b planned.last (lines_back t program τ) planned.lines_are));
        })

pub first-half : FirstHalf
first-half bytes plan buffer k filled h =
    let x = (demand-2 bytes plan buffer k filled).0 h in
    let e = x.passes in
    subst (λ (program : List ℕ). GivesProgram bytes (read_task bytes).layout program plan k) (sym (filled-program bytes x.value e plan buffer k filled x))
    (solution-gives bytes x.value e plan buffer k filled x)

pub second-half : SecondHalf
second-half bytes program buffer v e enough =
    record {
      accepts = λ k. (
        λ h.
            let x = accepts-accepting bytes program buffer k h in
            run-good bytes v e program (passes-formed _ program (program-passes _ _ program x.value x.passes)) k x.plan x.runs,
        λ good.
            ap (λ (a : Answer). a.verdict)
            (steps-answer bytes program k (steps bytes v e program k good) (steps-count bytes v e program k good) (good-result bytes v e program k good) buffer
            (room k good)),
      );
      checks = λ k good lent fits.
          subst
          (λ (plan : List ℕ). check bytes plan lent
          ≡ record {
            verdict = Accepted k;
            buffer =
                program_of (read_task bytes).layout.index.bounds (lines_back (read_task bytes).layout program (end_to_end good.traces))
                ++ drop (program_size (read_task bytes).layout.index.bounds) lent;
          })
          (sym
          (filled-bytes bytes program k (steps bytes v e program k good) (steps-count bytes v e program k good) (good-result bytes v e program k good) buffer
          (room k good)))
          (good-checks bytes v e program k good lent (fits _ (record { value = v; passes = e; asks = refl })));
    }
  where
    room : (k : ℕ) → SolvesCases bytes (read_task bytes).layout program k → plan_size k ≤ length buffer
    room k good = enough (plan_size k) (record { steps = k; solves = good; asks = refl })

pub one-run : OneRun
one-run bytes t program c σ τ h k = ends-once bytes t.index t.offsets program h k

pub writer-refusal-keeps : WriterRefusalKeeps
unfolding write on_finish
writer-refusal-keeps bytes program buffer after question place h = finish-keeps buffer after (program_result bytes program) question place h
  where
    finish-keeps : (buffer after : List ℕ) (r : Outcome) (question place : ℕ) → on_finish buffer r ≡ record { verdict = Refused question place; buffer = after }
        → after ≡ buffer
    finish-keeps buffer after (refused q n) question place h = sym (ap (λ (a : Answer). a.buffer) h)
    finish-keeps buffer after (accepted k plan) question place h = answer_keeps _ buffer after _ question place h
