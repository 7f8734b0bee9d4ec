-- The writer's loop: the head and the callers beside it stand for a possible position, from which the run by the trace comes to what the whole run
-- comes to. One step more leads to such a head again, and a question's no or the last case's end to the verdict.
-- Assumes nothing.
use Prim.Native.Nat.{ℕ, ◌+◌, ◌-◌, ◌≤◌, ◌<◌}
use mathlib.Core.Path.{◌≡◌, refl, sym, ap, ◌∙◌}
use mathlib.Core.Bool.{true}
use mathlib.Core.List.{List, ◌++◌}
use native.Mathlib.Omega.{arith}
use Rattle.std.proofs.lemmas.List.{length-take-le, get_or-take}
use lib.ListN.{length, get_or, set, take, length-set}
use Rattle.records.specs.Loop.{stop, go}
use Rattle.records.specs.Record.{closing}
use Rattle.task.specs.Index.{case_at}
use Rattle.task.specs.Instruction.{allowed}
use Rattle.task.specs.Program.{line_offset, instruction_on, is_instruction, program_verdict}
use Rattle.task.specs.Reading.{read_task, reading}
use Rattle.task.specs.declared.index.Index.{Index}
use Rattle.task.specs.declared.index.Layout.{Layout}
use Rattle.std.specs.Prelude.{Some, Result, Ok, Err}
use Rattle.task.specs.declared.instruction.Instruction.{Instruction}
use Rattle.task.specs.Verdict.{Accepted, Refused, number, verdict}
use Rattle.task.specs.declared.questions.Question.{Question}
use Rattle.task.specs.declared.refusal.Refusal.{Refusal}
use Rattle.task.proofs.Laws.Bounds.{ranges}
use Rattle.task.proofs.Laws.Instruction.{decode-allowed}
use Rattle.task.proofs.Laws.Passed.{Passed}
use Rattle.task.proofs.Laws.Program.{program-passes, line-there, line-passes}
use Rattle.step.specs.Head as head
use Rattle.step.specs.Head.{Stands, Fits, starting_head, caller_of, counted_head, moved_head}
use Rattle.step.specs.Moved.{moved_by, performed_as}
use Rattle.step.specs.Perform.{perform, run_step}
use Rattle.step.specs.Position.{origin, top, counted, starting}
use Rattle.step.specs.Questions.{STEPS}
use Rattle.step.specs.Ready.{Held, Known, Room}
use Rattle.step.specs.declared.head.Head.{Head}
use Rattle.step.specs.declared.position.Frame.{Frame}
use Rattle.step.specs.declared.position.Position.{Position}
use Rattle.step.proofs.Laws.Answers.{steps-used, line-runs}
use Rattle.step.proofs.Laws.Head.{starting-stands}
use Rattle.step.proofs.Laws.Kept.{top-possible, run-possible, starting-possible}
use Rattle.step.proofs.Laws.Moved.{asked-no, asked-moves, asked-room}
use Rattle.step.proofs.Laws.Possible.{parts, case_open}
use Rattle.step.proofs.Laws.Ready.{passed-held, possible-depth}
use Rattle.checker.specs.Answer.{Answer, accepted}
use Rattle.checker.specs.Trace.{Spelled, records_after}
use Rattle.checker.specs.Write.{run, on_finish}
use Rattle.checker.proofs.Laws.Answer.{size-most}
use Rattle.checker.proofs.Laws.Stepping.{allowed-known, head-fits, step-stands}
use Rattle.checker.proofs.Laws.Trace.{traced, trace_on, trace-begins, trace-ends, trace-stops, trace-goes, trace-spelled, spelled_none, records-kept, spelled-kept}
use Rattle.checker.proofs.Laws.Turns.{Standing, read-passed}
use Rattle.checker.proofs.Laws.Write.{run_from}

-- what holds whenever the loop's test is reached; the last three, of the numbers that the loop's indices stay below
pub record Running (bytes : List ℕ) (t : Layout) (program : List ℕ) (trace : List Frame) (h : Head) (callers : List Frame) : Type 0 where
  pub read : reading (Ok t) ≡ read_task bytes
  pub accepts : program_verdict t.index t.presets program ≡ Accepted 0
  pub position : Position
  pub stands : Stands h callers position
  pub standing : Standing t.index position
  pub whole : run_from bytes t.index t.offsets program (traced t.index.bounds program t.presets trace position) ≡ run bytes t program
  pub spelled : Spelled t.index.bounds program trace position.steps
  pub room : length trace ≡ 4096
  pub kept : length callers ≡ 17
  pub most : t.index.bounds.steps ≤ 4096
  pub deep : h.depth ≤ 16
  pub above : h.case < t.index.cases → 0 < h.depth

module _ (bytes : List ℕ) (t : Layout) (program : List ℕ) (read : reading (Ok t) ≡ read_task bytes)
    (accepts : program_verdict t.index t.presets program ≡ Accepted 0) where
  passes : Passed bytes t
  passes = read-passed bytes t read

  runs-held : Held bytes t.index t.offsets
  runs-held = passed-held bytes t passes

  pub runs-first : t.index.first + 28 ≤ length bytes
  runs-first = omega (arith, passes.cases.0, runs-held.case)

  most : t.index.bounds.steps ≤ 4096
  most = (ranges t.index.bounds passes.bounded).steps.1

  deep : (h : Head) (callers : List Frame) (s : Position) → Stands h callers s → Standing t.index s → h.depth ≤ 16
  deep h callers s st p = omega (arith, st.depth, possible-depth t.index s runs-held.task p.0)

  framed : (h : Head) (callers : List Frame) (s : Position) → Stands h callers s → Standing t.index s → h.case < t.index.cases → 0 < h.depth
  framed h callers s st p c = omega (arith, st.depth, case_open t.index s (parts t.index s p.0).depth (omega (arith, st.case, c)))

  -- the first case from its start
  pub runs-begin : {h : Head} → h ≡ starting_head (case_at bytes t.index.first 0).start → (callers : List Frame)
      → length callers ≡ 17 → (trace : List Frame) → length trace ≡ 4096 → Running bytes t program trace h callers
  unfolding starting
  runs-begin e callers kept trace room =
      let first = starting 0 (case_at bytes t.index.first 0).start in
      let possible = starting-possible bytes t passes 0 passes.cases.0 in
      rw e
      (record {
        read = read;
        accepts = accepts;
        position = first;
        stands = starting-stands _ callers;
        standing = possible;
        whole = trace-begins bytes t.index t.offsets program t.presets trace;
        spelled = spelled_none _ program trace;
        room = room;
        kept = kept;
        most = most;
        deep = deep _ callers first (starting-stands _ callers) possible;
        above = framed _ callers first (starting-stands _ callers) possible;
      })

module _ {bytes : List ℕ} {t : Layout} {program : List ℕ} {trace : List Frame} {h : Head} {callers : List Frame}
    (r : Running bytes t program trace h callers) where
  abbrev i : Index
  i = t.index

  passed : Passed bytes t
  passed = read-passed bytes t r.read

  held : Held bytes i t.offsets
  held = passed-held bytes t passed

  abbrev s : Position
  s = r.position

  pub runs-count : h.steps ≤ length trace
  runs-count = omega (arith, (parts i s r.standing.0).steps, r.stands.steps, r.most, r.room)

  -- all cases are done: the lines of the steps spell instructions, and the run comes to their records
  module _ (ended : i.cases ≤ h.case) where
    -- the frames of the steps
    abbrev done : List Frame
    done = take h.steps trace

    count : length done ≡ h.steps
    count = length-take-le h.steps trace runs-count

    same : (k : ℕ) → k < h.steps → get_or done k origin ≡ get_or trace k origin
    same k l = get_or-take h.steps trace k origin l

    pub runs-spelled : (length done ≤ 4096) × (length program ≤ 768) × Spelled i.bounds program done (length done)
    runs-spelled =
        let size = (program-passes i t.presets program 0 r.accepts).size in (
          omega (arith, count, runs-count, r.room),
          omega (arith, size, size-most i.bounds passed.bounded),
          rw count (spelled-kept i.bounds program t.presets trace done h.steps same (rw r.stands.steps at r.spelled)),
        )

    pub runs-end : (buffer : List ℕ) (answer : Answer)
        → answer ≡ on_finish buffer (accepted (length done) (records_after i.bounds program t.presets done (length done) ++ closing))
        → answer ≡ on_finish buffer (run bytes t program)
    runs-end buffer answer e =
        let ends = trace-ends bytes i t.offsets program t.presets trace s (omega (arith, r.stands.case, ended)) in
        let records = records-kept i.bounds program t.presets trace done h.steps same h.steps (omega arith) in
        e ∙ ap (on_finish buffer) (rw (count, records) (rw r.stands.steps at (sym ends ∙ r.whole)))

  module _ (case : h.case < i.cases) where
    opened : s.case < i.cases
    opened = omega (arith, r.stands.case, case)

    stops : (question : ℕ) → run_step bytes i t.offsets program s ≡ stop question → (buffer : List ℕ)
        → ◌≡◌ {A = Answer} (record { verdict = Refused question h.steps; buffer = buffer }) (on_finish buffer (run bytes t program))
    unfolding on_finish
    stops question e buffer =
        rw (← r.stands.steps, ← r.whole, trace-stops bytes i t.offsets program t.presets trace s opened question e) refl

    -- question 14 says no
    pub runs-out : i.bounds.steps ≤ h.steps → (buffer : List ℕ)
        → ◌≡◌ {A = Answer} (record { verdict = Refused STEPS h.steps; buffer = buffer }) (on_finish buffer (run bytes t program))
    runs-out l = stops STEPS (sym (steps-used bytes i t.offsets program s (omega (arith, r.stands.steps, l))))

    above : 0 < s.depth
    above = omega (arith, r.stands.depth, r.above case)

    in-program : (h.procedure.0 < i.bounds.procedures) × (h.line.0 ≤ i.bounds.last)
    unfolding head.top_of
    in-program = rw r.stands.top at (top-possible bytes t passed s r.standing.0 above r.standing.1)

    pub runs-line : (line_offset i.bounds h.procedure h.line + 3 ≤ length program)
        × (is_instruction (instruction_on i program h.procedure h.line) ≡ true)
    runs-line =
        let p = program-passes i t.presets program 0 r.accepts in (
          line-there i t.presets program p h.procedure h.line in-program.0 in-program.1,
          line-passes i t.presets program p h.procedure h.line in-program.0 in-program.1,
        )

    pub runs-small : (h.procedure.0 < 8) × (h.line.0 < 32)
    runs-small = let r = ranges i.bounds passed.bounded in (omega (arith, in-program.0), omega (arith, in-program.1))

    few : h.steps < i.bounds.steps → s.steps < i.bounds.steps
    few left = omega (arith, r.stands.steps, left)

    -- a step is left, and `w` is the instruction on the top frame's line
    module _ (left : h.steps < i.bounds.steps) {w : Instruction} (here : instruction_on i program h.procedure h.line ≡ Some w) where
      allowed-here : allowed i.bounds i.actions h.line w ≡ true
      unfolding instruction_on
      allowed-here = decode-allowed i.bounds i.actions h.line _ w here

      pub runs-known : Known i w
      runs-known = allowed-known i h.line w allowed-here

      pub runs-fits : Fits h w
      runs-fits = head-fits i held.task h callers s r.stands r.standing opened (few left) w allowed-here

      -- `asked` is the answer to its questions
      module _ (asked : Result ℕ Question)
          (ea : (p : Position) → p.facts ≡ h.facts → p.case ≡ h.case → p.depth ≡ h.depth
          → performed_as bytes i p w asked ≡ perform bytes i t.offsets p w) where
        performs : performed_as bytes i s w asked ≡ perform bytes i t.offsets s w
        performs = ea s r.stands.facts r.stands.case r.stands.depth

        is-step : perform bytes i t.offsets s w ≡ run_step bytes i t.offsets program s
        unfolding head.top_of
        is-step = line-runs bytes i t.offsets program s (few left) (head.top_of h) (sym r.stands.top) _ refl w here

        -- one of them says no
        pub runs-stop : (refusal : Refusal) → (question : Question) × (asked ≡ Err question) × (refusal ≡ record { question = question; place = h.steps })
            → (buffer : List ℕ)
            → ◌≡◌ {A = Answer} (record { verdict = verdict (Err refusal); buffer = buffer }) (on_finish buffer (run bytes t program))
        runs-stop refusal k =
            rw k.2 (stops (number k.0) (sym (asked-no bytes i t.offsets s w asked performs k.0 k.1 ∙ is-step)))

        -- one step more
        pub runs_on : {facts : ℕ} → asked ≡ Ok facts → {frame : Frame} → frame ≡ head.top_of h → {caller : Frame} → caller ≡ caller_of h
            → {below : Frame} → below ≡ get_or (set callers h.depth caller) (h.depth - 1) origin
            → {n : Head} → n ≡ counted_head (moved_head bytes i h below facts w)
            → Running bytes t program (set trace h.steps frame) n (set callers h.depth caller)
        unfolding head.top_of
        runs_on {facts = facts} k {frame = frame} et ec {below = below} eb e =
            let q = counted (moved_by bytes i s facts w) in
            let ran : run_step bytes i t.offsets program s ≡ go q = sym (asked-moves bytes i t.offsets s w asked performs facts k ∙ is-step) in
            let room : s.steps < length trace = omega (arith, few left, r.most, r.room) in
            let free : Room i h.depth w = rw (← r.stands.depth) (asked-room bytes i t.offsets s w asked performs facts k) in
            let put : set trace h.steps frame ≡ trace_on trace s = cc (et, r.stands.top, r.stands.steps) in
            let stands =
            step-stands i held.task h callers s r.stands r.standing opened (few left) w allowed-here bytes below facts free r.kept
            (rw (← ec) eb) in
            let possible = run-possible bytes t passed s r.standing.0 above r.standing.1 program q ran in
            let there : line_offset i.bounds (top s).procedure (top s).line + 3 ≤ length program = rw r.stands.top runs-line.0 in
            rw (put, e, ec)
            (record {
              read = r.read;
              accepts = r.accepts;
              position = q;
              stands = stands;
              standing = possible;
              whole = sym (trace-goes bytes i t.offsets program t.presets trace s opened room q ran) ∙ r.whole;
              spelled = trace-spelled bytes i t.offsets program t.presets trace s opened room q ran there r.spelled;
              room = length-set trace s.steps (top s) ∙ r.room;
              kept = length-set callers h.depth (caller_of h) ∙ r.kept;
              most = r.most;
              deep = deep bytes t program r.read r.accepts _ _ q stands possible;
              above = framed bytes t program r.read r.accepts _ _ q stands possible;
            })
