-- A late case. If the call is accepted, its questions said yes, so the task with the case is well formed and the buffer begins with its file; steps on the old task
-- are steps on the longer one, one after the other; and a program that solves the longer task's cases is one that the writer accepts, whose steps are single steps
-- to the finish.
-- Assumes nothing.
use Prim.Native.Nat.{ℕ, zero, suc, ◌+◌, ◌-◌, ◌≤◌, ◌<◌}
use mathlib.Core.Path.{◌≡◌, refl, sym, ap, ◌∙◌}
use mathlib.Core.Bool.{true}
use mathlib.Core.List.{List, [], ◌∷◌, ◌++◌}
use native.Mathlib.Decide.{ℕ_discrete, dec_lt}
use native.Mathlib.Omega.{arith}
use lib.ListN.{length, take, drop, get_or, replicate, length-append, length-replicate, get_or-replicate, get_or-append}
use lib.Seq.{ext_get_or, get_or_at, take-append_seam, drop-append_seam}
use borrow.Author.Tests.{le-ltb, eqb-true}
use Rattle.records.specs.Loop.{go}
use Rattle.records.specs.Numbers.{AreBytes}
use Rattle.records.proofs.Laws.Tests.{both_true}
use Rattle.task.specs.Bounds.{program_size}
use Rattle.task.specs.Facts.{within, consistent, case_consistent}
use Rattle.task.specs.Program.{program_verdict}
use Rattle.task.specs.Reading.{read_task}
use Rattle.task.specs.Task.{with_case}
use Rattle.task.specs.TaskAt.{task_at, task_of}
use Rattle.task.specs.declared.bounds.Bounds.{Bounds}
use Rattle.task.specs.declared.index.Case.{Case}
use Rattle.task.specs.declared.index.Index.{Index}
use Rattle.task.specs.declared.index.Layout.{Layout}
use Rattle.task.specs.Verdict.{Verdict, Accepted, Refused}
use Rattle.task.proofs.Laws.Bounds.{ranges}
use Rattle.task.proofs.Laws.Passed.{passed}
use Rattle.task.proofs.Laws.Verdict.{refused-accepted}
use Rattle.task_file.proofs.TaskFile.{accepted-file, task-file}
use Rattle.task_file.proofs.Laws.Formed.{case-formed}
use Rattle.task_file.proofs.Laws.Located.{cases-counted}
use Rattle.step.specs.Perform.{Stepped, run_step, unchanged}
use Rattle.step.specs.Position.{origin, starting}
use Rattle.step.specs.Possible.{unused, frame_fits, possible}
use Rattle.step.specs.Run.{Visit, EndsCase}
use Rattle.step.specs.Single.{single_step}
use Rattle.step.specs.declared.position.Frame.{Frame}
use Rattle.step.specs.declared.position.Position.{Position}
use Rattle.step.proofs.Laws.Facts.{every-at}
use Rattle.step.proofs.Laws.Kept.{starting-possible}
use Rattle.step.proofs.Laws.Possible.{parts, case_open}
use Rattle.step.proofs.Laws.Single.{program-refused, single-made, single-possible}
use Rattle.late_case.specs.Late.{after_task, buffer_after, task_in, longer_file, add_verdict, added_buffer}
use Rattle.late_case.proofs.Laws.Late.{own-capped, part_bytes, late-good, parted, longer-length, accepted-yes}
use Rattle.checker.specs.Plan.{plan_size}
use Rattle.demands.specs.Demand3.{LongEnough, Inside, is_preset, end_to_end, WellFormedProgram, EndsAll, SolvesCases, Asked29}
use Rattle.demands.specs.LateCase.{Longer, LeadTo, CaseAdded, MayBeAdded, LateCases, begun, FinishesIn, LongerRuns}
use Rattle.demands.specs.SingleSteps.{repeated, steps_on, record_after, AllMade, Reaches}
use Rattle.demands.proofs.Demand3.{second-half}
use Rattle.demands.proofs.SingleSteps.{single-runs, single-steps-reach}
use Rattle.demands.proofs.Laws.Longer.{reopened, same-bounds, one-case-more, same_case, same-preset, same-instruction, same-verdict, still-possible, step_follows, same-run}

-- a program of which a single step is made passes questions 25 to 27
made-program : (bytes program : List ℕ) (s : Position) (v : ℕ) → (read_task bytes).verdict ≡ Accepted v → (single_step bytes program s).verdict ≡ Accepted 1
    → (w : Verdict) → program_verdict (read_task bytes).layout.index (read_task bytes).layout.presets program ≡ w → (p : ℕ) × (w ≡ Accepted p)
unfolding unchanged
made-program bytes program s v h made (Accepted p) g = (p, refl)
made-program bytes program s v h made (Refused question place) g =
    let e = ap (λ (r : Stepped). r.verdict) (program-refused bytes program s (read_task bytes) refl v h _ refl question place g) in
    absurd (refused-accepted (sym g ∙ e ∙ made))

module _ (old new : List ℕ) (c : Case) (longer : Longer old new c) (program : List ℕ) where
  abbrev t : Layout
  t = (read_task old).layout

  abbrev u : Layout
  u = (read_task new).layout

  -- a single step that is made on the old task is made on the longer one
  module _ (s : Position) (made : (single_step old program s).verdict ≡ Accepted 1) where
    abbrev v : Position
    v = (single_step old program s).position

    frame-there : 0 < s.depth
    frame-there = (single-made old program s made).unfinished

    made-too : (x : Position) → run_step new u.index u.offsets program s ≡ go x → single_step new program s ≡ record { verdict = Accepted 1; position = x }
    made-too x e =
        let m = single-made old program s made in
        let p = made-program old program s 0 longer.before.passes made _ refl in
        single-runs new program 0 p.0 longer.after.passes (same-verdict old new c longer program ∙ p.1) s x
        (still-possible old new c longer s m.possible m.unfinished) m.unfinished e

    step_same : 0 < v.depth → single_step new program s ≡ record { verdict = Accepted 1; position = v }
    step_same d =
        let m = single-made old program s made in
        made-too v ((step_follows old new c longer program s v m.possible m.unfinished m.ran).0 d)

    step-begins : v.depth ≡ 0 → single_step new program s ≡ record { verdict = Accepted 1; position = reopened c v }
    step-begins z =
        let m = single-made old program s made in
        made-too (reopened c v) ((step_follows old new c longer program s v m.possible m.unfinished m.ran).1 z)

  -- one step more
  more : (k : ℕ) (s x : Position) → LeadTo new program k s → single_step new program s ≡ record { verdict = Accepted 1; position = x }
      → LeadTo new program (suc k) x
  unfolding record_after
  more k s x l e =
      let here : single_step new program (record_after new program k) ≡ record { verdict = Accepted 1; position = x } = ap (single_step new program) l.to ∙ e in
      record { made = all here; to = ap (λ (r : Stepped). r.position) here }
    where
      all : single_step new program (record_after new program k) ≡ record { verdict = Accepted 1; position = x } → AllMade new program (suc k)
      all here j h =
          elim (ℕ_discrete j k) [
            | yes e ↦ rw e (ap (λ (r : Stepped). r.verdict) here)
            | no n ↦ l.made j (omega (arith, h, n))
          ]

  abbrev at : ℕ → Position
  at k = record_after old program k

  same-steps-of : (k : ℕ) → AllMade old program k → 0 < (at k).depth → LeadTo new program k (at k)
  unfolding record_after
  same-steps-of zero all d =
      record {
        made = λ j h. absurd (omega (arith, h));
        to = ap (λ (x : Case). starting 0 x.start) (same_case old new c longer 0 (passed old 0 longer.before.passes).cases.0);
      }
  same-steps-of (suc k) all d =
      let made = all k (omega arith) in
      more k (at k) (at (suc k)) (same-steps-of k (λ j h. all j (omega (arith, h))) (frame-there (at k) made)) (step_same (at k) made d)

  -- so what steps on the old task led to, if it has a frame, the same steps on the longer one lead to
  led : (k : ℕ) (s : Position) → LeadTo old program k s → 0 < s.depth → LeadTo new program k s
  led k s l d = rw l.to at (same-steps-of k l.made (rw l.to d))

  reopens : (k : ℕ) → AllMade old program k → (at k).depth ≡ 0 → LeadTo new program k (reopened c (at k))
  unfolding record_after starting
  reopens zero all z = absurd (omega (arith, z))
  reopens (suc k) all z =
      let made = all k (omega arith) in
      more k (at k) (reopened c (at (suc k))) (same-steps-of k (λ j h. all j (omega (arith, h))) (frame-there (at k) made)) (step-begins (at k) made z)

  -- every record on the way has a frame
  frame-before : (k j : ℕ) → AllMade old program k → 0 < (at k).depth → j ≤ k → 0 < (at j).depth
  frame-before k j all d h =
      elim (ℕ_discrete j k) [
        | yes e ↦ rw e d
        | no n ↦ frame-there (at j) (all j (omega (arith, h, n)))
      ]

-- a record that steps led to is possible
record Standing (bytes program : List ℕ) (k : ℕ) : Type 0 where
  possible : possible (read_task bytes).layout.index (record_after bytes program k) ≡ true
  frames : length (record_after bytes program k).frames ≡ 16
  steps : (record_after bytes program k).steps ≡ k

stands : (bytes program : List ℕ) (v : ℕ) → (read_task bytes).verdict ≡ Accepted v → (k : ℕ) → AllMade bytes program k → Standing bytes program k
unfolding record_after starting
stands bytes program v h zero all =
    let p = passed bytes v h in
    let start = starting-possible bytes (read_task bytes).layout p 0 p.cases.0 in
    record { possible = start.0; frames = length-replicate 16 origin; steps = refl }
stands bytes program v h (suc k) all =
    let before = stands bytes program v h k (λ j l. all j (omega (arith, l))) in
    let next = single-possible bytes program (record_after bytes program k) before.frames (all k (omega arith)) in
    record { possible = next.0; frames = next.1; steps = omega (arith, next.2, before.steps) }

-- the finish: its case is the number of cases, and every frame is (0, 0)
record Finish (i : Index) (s : Position) : Type 0 where
  case : s.case ≡ i.cases
  frames : s.frames ≡ replicate 16 origin

finish : (i : Index) (s : Position) → possible i s ≡ true → length s.frames ≡ 16 → s.depth ≡ 0 → Finish i s
unfolding frame_fits unused origin
finish i s h size z =
    let p = parts i s h in
    record {
      case = grind (arith, case_open i s p.depth);
      frames =
          ext_get_or origin s.frames (replicate 16 origin) (size ∙ sym (length-replicate 16 origin))
          (λ k l.
          let few : k < 16 = omega (arith, l, size) in
          let fits = every-at (frame_fits i.bounds s) 16 p.frames k few in
          let zeros = both_true _ _ (rw (le-ltb k s.depth (omega (arith, z))) at fits) in
          zero-frame (get_or s.frames k origin) (eqb-true _ 0 zeros.0) (eqb-true _ 0 zeros.1) ∙ sym (get_or-replicate 16 k origin origin few));
    }
  where
    zero-frame : (f : Frame) → f.procedure.0 ≡ 0 → f.line.0 ≡ 0 → f ≡ origin
    zero-frame f p l = λ i. record { procedure = record { 0 = p i }; line = record { 0 = l i } }

-- so the new case begins at its start
module _ (old new : List ℕ) (c : Case) (longer : Longer old new c) (program : List ℕ) where
  begins-of : (k : ℕ) → AllMade old program k → (record_after old program k).depth ≡ 0
      → LeadTo new program k (begun c (read_task old).layout.index.cases k)
  unfolding begun reopened
  begins-of k all z =
      let l = reopens old new c longer program k all z in
      let st = stands old program 0 longer.before.passes k all in
      let f = finish (read_task old).layout.index (record_after old program k) st.possible st.frames z in
      record {
        made = l.made;
        to = l.to ∙ λ i. record { facts = c.start; steps = st.steps i; case = f.case i; depth = 1; frames = f.frames i };
      }

-- what an accepted call leaves
call-adds : (buffer : List ℕ) (given : ℕ) (c : Case) (run : Position) → AreBytes buffer → (value : ℕ) → add_verdict buffer given c run ≡ Accepted value
    → CaseAdded buffer given c run value
unfolding longer_file case_consistent task_of task_at
call-adds buffer given c run are value e =
    let old = task_in buffer given in
    let longer = longer_file buffer given c in
    let x = accepted-yes buffer given c run value e in
    let size = longer-length buffer given c _ (own-capped buffer given) are x.value x.passes in
    let file = accepted-file old x.value x.passes (part_bytes buffer are given) in
    let good = both_true (within (task_of old).bounds.facts c.start) (consistent (task_of old).bounds.facts c.goal) x.yes.sets in
    let formed = case-formed (task_of old) file.formed c (omega (arith, x.yes.few, cases-counted old)) good in
    let first : take value (added_buffer buffer given c run) ≡ longer =
    ap (take value) x.after ∙ ap (λ (n : ℕ). take n (longer ++ drop (length longer) buffer)) x.yes.value ∙ take-append_seam longer _ in
    let files : Longer old (take value (added_buffer buffer given c run)) c =
    record {
      before = (task-file old (task_of old)).1 file;
      after = rw first ((task-file longer (with_case (task_of old) c)).1 (record { formed = formed; form = refl }));
    } in
    let cap = own-capped buffer given in
    let p = parted buffer given c _ cap are x.value x.passes in
    record {
      possible = x.yes.possible;
      unfinished = x.yes.above;
      size = x.yes.value ∙ size;
      fits = omega (arith, x.yes.value, size, x.yes.room, cap.most);
      longer = files;
      records = p.records;
      closed = p.form;
      put = first ∙ p.longer;
      beyond =
          ap (drop value) x.after
          ∙ ap (λ (n : ℕ). drop n (longer ++ drop (length longer) buffer)) x.yes.value
          ∙ drop-append_seam longer _
          ∙ ap (λ (n : ℕ). drop n buffer) (sym x.yes.value);
      same-steps = λ program k l. led old (take value (added_buffer buffer given c run)) c files program k run l x.yes.above;
    }

-- an open run that steps led to passes 31 and 32
call-accepts : (buffer : List ℕ) (given : ℕ) (c : Case) (run : Position) → AreBytes buffer → (program : List ℕ) (k : ℕ)
    → MayBeAdded buffer given c run program k → add_verdict buffer given c run ≡ Accepted (length (task_in buffer given) + 28)
unfolding add_verdict after_task
call-accepts buffer given c run are program k m =
    let old = task_in buffer given in
    let there = rw m.reached.to at (stands old program 0 m.passes k m.reached.made).possible in
    let good =
    late-good (read_task old).layout.index run (length buffer - length old) c (length (longer_file buffer given c)) there m.unfinished m.few
    (omega (arith, m.room)) m.sets in
    rw m.passes (sym good ∙ ap Accepted (longer-length buffer given c _ (own-capped buffer given) are 0 m.passes))

pub late-cases : LateCases
unfolding added_buffer buffer_after
late-cases buffer given c run are =
    record {
      adds = call-adds buffer given c run are;
      accepts = call-accepts buffer given c run are;
      keeps = λ question place e. rw e refl;
    }

-- the record after k single steps, and j more
steps-on : (bytes program : List ℕ) (j k : ℕ) → steps_on bytes program j (record_after bytes program k) ≡ record_after bytes program (k + j)
unfolding repeated record_after
steps-on bytes program zero k = let e : k ≡ k + 0 = omega arith in ap (record_after bytes program) e
steps-on bytes program (suc j) k = let e : suc k + j ≡ k + suc j = omega arith in steps-on bytes program j (suc k) ∙ ap (record_after bytes program) e

-- single steps make the steps of a program that solves the cases
solves-reaches : (bytes program : List ℕ) (v n : ℕ) → (read_task bytes).verdict ≡ Accepted v → SolvesCases bytes (read_task bytes).layout program n → Reaches bytes program n
unfolding plan_size
solves-reaches bytes program v n h solves =
    let buffer = replicate {A = ℕ} 36868 0 in
    let most = (ranges (read_task bytes).layout.index.bounds (passed bytes v h).bounded).steps.1 in
    let enough : LongEnough (Asked29 bytes (read_task bytes).layout program) buffer =
    λ size a. omega (arith, a.asks, a.solves.bound, most, length-replicate {A = ℕ} 36868 0) in
    single-steps-reach bytes program buffer n (((second-half bytes program buffer v h enough).accepts n).1 solves)

goes_on : (old new : List ℕ) (c : Case) → Longer old new c → (program : List ℕ) (k n : ℕ) → AllMade old program k → 0 < (record_after old program k).depth
    → SolvesCases new (read_task new).layout program n → (k < n) × FinishesIn new program (n - k) (record_after old program k)
goes_on old new c longer program k n all d solves =
    let r = solves-reaches new program 0 n longer.after.passes solves in
    let l = same-steps-of old new c longer program k all d in
    let less : k < n = before r in
    let before-it = stands old program 0 longer.before.passes k all in
    let reached : (j : ℕ) → steps_on new program j (record_after old program k) ≡ record_after new program (k + j) =
    λ j. ap (steps_on new program j) (sym l.to) ∙ steps-on new program j k in
    let end : k + (n - k) ≡ n = omega (arith, less) in (
      less,
      record {
        made = λ j h. ap (λ (s : Position). (single_step new program s).verdict) (reached j) ∙ r.made (k + j) (omega (arith, h, less));
        case = ap (λ (s : Position). s.case) (reached (n - k) ∙ ap (record_after new program) end) ∙ r.case;
        depth = ap (λ (s : Position). s.depth) (reached (n - k) ∙ ap (record_after new program) end) ∙ r.depth;
        steps = ap (λ (s : Position). s.steps) (reached (n - k) ∙ ap (record_after new program) end) ∙ r.steps ∙ omega (arith, before-it.steps, less);
      },
    )
  where
    before : Reaches new program n → k < n
    before r =
        elim (dec_lt k n) [
          | yes h ↦ h
          | no m ↦
              let f = frame-before old new c longer program k n all d (omega (arith, m)) in
              let l = same-steps-of old new c longer program n (λ j h. all j (omega (arith, h, m))) f in
              absurd (omega (arith, f, ap (λ (s : Position). s.depth) l.to, r.depth))
        ]

-- one trace more, laid end to end
end_more : (traces : List (List Visit)) (trace : List Visit) → length (end_to_end (traces ++ (trace ∷ []))) ≡ length (end_to_end traces) + length trace
unfolding end_to_end
end_more [] trace = length-append trace [] ∙ omega arith
end_more (σ ∷ traces) trace =
    length-append σ (end_to_end (traces ++ (trace ∷ []))) ∙ omega (arith, end_more traces trace, length-append σ (end_to_end traces))

-- the longer task's cases, each by itself
module _ (old new : List ℕ) (c : Case) (longer : Longer old new c) (program : List ℕ) where
  solves-formed : WellFormedProgram (read_task old).layout program → WellFormedProgram (read_task new).layout program
  unfolding is_preset
  solves-formed f =
      let b = same-bounds old new c longer in
      let t = (read_task old).layout in
      record {
        size = f.size ∙ ap program_size (sym b);
        lines =
            λ g inside.
            rw (same-instruction old new c longer program g.procedure g.line) (f.lines g (rw b at inside));
        presets =
            λ g inside preset.
            let within : Inside t.index.bounds g = rw b at inside in
            let same = same-preset old new c longer g.procedure g.line within.line in
            rw (b, same) (f.presets g within (rw (b, same) at preset));
      }

  module _ (traces : List (List Visit)) (trace : List Visit) (runs : EndsAll old (read_task old).layout program traces)
      (ends : EndsCase new (read_task new).layout.index (read_task new).layout.offsets program (read_task old).layout.index.cases trace) where
    each-ends : (n : ℕ) → n < (read_task new).layout.index.cases
        → EndsCase new (read_task new).layout.index (read_task new).layout.offsets program n (get_or (traces ++ (trace ∷ [])) n [])
    unfolding starting
    each-ends n h =
        elim (dec_lt n (read_task old).layout.index.cases) [
          | yes l ↦
              rw (get_or-append traces (trace ∷ []) [] n (omega (arith, l, runs.cases)), same_case old new c longer n l)
              (same-run old new c longer program (runs.ends n l) l (omega arith))
          | no m ↦
              let e : n ≡ (read_task old).layout.index.cases = omega (arith, h, m, one-case-more old new c longer) in
              rw (e, get_or_at traces trace [] [] (read_task old).layout.index.cases runs.cases) ends
        ]

pub longer-runs : LongerRuns
longer-runs old new c program longer =
    record {
      same_step =
          λ s made d.
          step_same old new c longer program s made d
          ∙ sym (whole-answer old program s made);
      same-steps = λ k s l d. led old new c longer program k s l (omega (arith, d));
      new-case-begins = λ k s l z. begins-of old new c longer program k l.made (rw l.to z);
      solves-longer =
          λ k trace solves ends bound.
          record {
            formed = solves-formed old new c longer program solves.formed;
            traces = solves.traces ++ (trace ∷ []);
            runs =
                record {
                  cases = length-append solves.traces (trace ∷ []) ∙ omega (arith, solves.runs.cases, one-case-more old new c longer);
                  ends = each-ends old new c longer program solves.traces trace solves.runs ends;
                };
            count = end_more solves.traces trace ∙ ap (λ (n : ℕ). n + length trace) solves.count;
            bound = omega (arith, bound, ap (λ (b : Bounds). b.steps) (same-bounds old new c longer));
          };
      run-goes-on =
          λ k n s l d solves.
          let on = goes_on old new c longer program k n l.made (rw l.to d) solves in
          (on.0, rw l.to at on.1);
    }
  where
    -- an answer is its verdict and its position
    whole-answer : (bytes program : List ℕ) (s : Position) → (single_step bytes program s).verdict ≡ Accepted 1
        → single_step bytes program s ≡ record { verdict = Accepted 1; position = (single_step bytes program s).position }
    whole-answer bytes program s e = λ i. record { verdict = e i; position = (single_step bytes program s).position }
