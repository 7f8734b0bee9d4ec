-- A run through all cases, cut into the runs on each case by itself, and these runs laid end to end. A step of the compiled task is a step of the program whose
-- bytes hold the lines, and the other way round; a step closes a case exactly if the case's number grows, and then the next case begins at its start, where its
-- run by itself begins too, or the last case is finished and no step follows.
-- Assumes nothing.
use Prim.Native.Nat.{ℕ, zero, suc, ◌+◌, ◌≤◌, ◌<◌}
use mathlib.Core.Path.{◌≡◌, refl, sym, ap, ◌∙◌, subst}
use mathlib.Core.List.{List, [], ◌∷◌, ◌++◌}
use mathlib.Core.Logic.{inl, inr}
use native.Mathlib.Decide.{dec_lt}
use native.Mathlib.Omega.{arith}
use lib.ListN.{length, get_or, length-append}
use Rattle.task.specs.Program.{instruction_on}
use Rattle.task.specs.declared.index.Layout.{Layout}
use Rattle.std.specs.Prelude.{Some}
use Rattle.task.specs.declared.instruction.Instruction.{Instruction}
use Rattle.task.proofs.Laws.Passed.{Passed}
use Rattle.step.specs.Position.{starting}
use Rattle.step.specs.Run.{Visit, visit, Ends, last, then, EndsCase}
use Rattle.step.specs.declared.position.Frame.{Frame}
use Rattle.step.specs.declared.position.Position.{Position}
use Rattle.step.proofs.Laws.Perform.{case-closes}
use Rattle.demands.specs.Compiled.{Running, started, Runs, acts, jumps, continues, calls, returns, begins, finishes}
use Rattle.demands.specs.Demand3.{Inside, end_to_end, EndsAll}
use Rattle.demands.proofs.Laws.Heart as heart
use Rattle.demands.proofs.Laws.Heart.{Chain, chain-append}
use Rattle.demands.proofs.Laws.Leads.{Taken}
use Rattle.demands.proofs.Laws.Runs.{running_of, starting-started, runs-above}
use Rattle.demands.proofs.Laws.Makes.{start_of, Midway, midway-open, starts-midway, closes-or-stays, next-midway, next-finished, Made, taken-makes, makes-taken}

module _ (bytes : List ℕ) (t : Layout) (program : List ℕ) where
  -- a program ends the cases from number c on, each by itself
  pub data EndsFrom : ℕ → List (List Visit) → Type 0 where
    done : {c : ℕ} → c ≡ t.index.cases → EndsFrom c []
    and : {c : ℕ} {trace : List Visit} {rest : List (List Visit)} → EndsCase bytes t.index t.offsets program c trace → c < t.index.cases
        → EndsFrom (c + 1) rest → EndsFrom c (trace ∷ rest)

  -- the steps of a run through the cases from number c on, cut into those of each case by itself
  pub record Cut (c : ℕ) (τ : List Visit) : Type 0 where
    pub traces : List (List Visit)
    pub ends : EndsFrom c traces
    pub whole : end_to_end traces ≡ τ

  -- the cases from number c on by numbers: trace number k is of case c + k
  record EndsEach (c : ℕ) (traces : List (List Visit)) : Type 0 where
    count : c + length traces ≡ t.index.cases
    each : (k d : ℕ) → c + k ≡ d → k < length traces → EndsCase bytes t.index t.offsets program d (get_or traces k [])

  from_each : {c : ℕ} {traces : List (List Visit)} → EndsFrom c traces → EndsEach c traces
  from_each (done e) = record { count = omega (arith, e); each = λ k d f h. absurd (omega arith) }
  from_each {c} (and {trace = trace} {rest} ends l more) =
      let x = from_each more in record { count = omega (arith, x.count); each = at x.each }
    where
      at : ((k d : ℕ) → c + 1 + k ≡ d → k < length rest → EndsCase bytes t.index t.offsets program d (get_or rest k []))
          → (k d : ℕ) → c + k ≡ d → k < suc (length rest) → EndsCase bytes t.index t.offsets program d (get_or (trace ∷ rest) k [])
      at others zero d e h = let f : d ≡ c = omega arith in rw f ends
      at others (suc k) d e h = others k d (omega arith) (omega arith)

  each_from : (traces : List (List Visit)) (c : ℕ) → EndsEach c traces → EndsFrom c traces
  each_from [] c x = done {c = c} (omega (arith, x.count))
  each_from (trace ∷ rest) c x =
      and (x.each 0 c (omega arith) (omega arith)) (omega (arith, x.count))
      (each_from rest (c + 1) (record { count = omega (arith, x.count); each = λ k d e h. x.each (suc k) d (omega arith) (omega arith) }))

  pub from_all : {traces : List (List Visit)} → EndsFrom 0 traces → EndsAll bytes t program traces
  from_all h =
      let x = from_each h in
      record { cases = omega (arith, x.count); ends = λ c l. x.each c c (omega arith) (omega (arith, x.count)) }

  pub all_from : {traces : List (List Visit)} → EndsAll bytes t program traces → EndsFrom 0 traces
  all_from {traces} x =
      each_from traces 0
      (record {
        count = omega (arith, x.cases);
        each = λ k d e h. let f : d ≡ k = omega arith in rw f (x.ends k (omega (arith, x.cases)));
      })

  -- the same from a position in the run of a case: what is left of that case, and the other cases
  record Walked (s : Position) (τ : List Visit) : Type 0 where
    trace : List Visit
    ends : Ends bytes t.index t.offsets program s trace
    rest : List Visit
    others : Cut (s.case + 1) rest
    whole : trace ++ rest ≡ τ

  walked-cut : (c : ℕ) {τ : List Visit} → c < t.index.cases → Walked (start_of bytes t c) τ → Cut c τ
  unfolding end_to_end starting
  walked-cut c l x =
      record {
        traces = x.trace ∷ x.others.traces;
        ends = and x.ends l x.others.ends;
        whole = ap (λ (σ : List Visit). x.trace ++ σ) x.others.whole ∙ x.whole;
      }

-- a step of the compiled task that makes the case's number grow begins the next case at its start, if there is one
next-started : (bytes : List ℕ) (t : Layout) {f : Frame} {w : Instruction} {r r' : Running} → Runs bytes t f w r r' → (c : ℕ) → r.case + 1 ≡ c
    → r'.case ≡ c → c < t.index.cases → r' ≡ started bytes t c
next-started bytes t (acts h) c e g l = absurd (omega arith)
next-started bytes t (jumps h) c e g l = absurd (omega arith)
next-started bytes t (continues h) c e g l = absurd (omega arith)
next-started bytes t (calls h) c e g l = absurd (omega arith)
next-started bytes t returns c e g l = absurd (omega arith)
next-started bytes t (begins h k) c e g l = ap (started bytes t) e
next-started bytes t (finishes h k) c e g l = absurd (omega arith)

-- runs on each case by itself, laid end to end: a run of the compiled task from r on that finishes
pub record Joined (bytes : List ℕ) (t : Layout) (lines : Frame → Instruction) (r : Running) (traces : List (List Visit)) : Type 0 where
  pub end : Running
  pub chain : Chain (Taken bytes t) lines r (end_to_end traces) end
  pub finished : end.case ≡ t.index.cases

-- a program whose bytes hold these lines
module _ (bytes : List ℕ) (t : Layout) (passed : Passed bytes t) (program : List ℕ) (lines : Frame → Instruction)
    (held : (f : Frame) → Inside t.index.bounds f → instruction_on t.index program f.procedure f.line ≡ Some (lines f)) where
  -- no step follows at a position without a frame
  none_left : {r end : Running} {τ : List Visit} → Chain (Taken bytes t) lines r τ end → (s : Position) → running_of s ≡ r → (0 < s.depth → ⊥) → [] ≡ τ
  none_left heart.none s e n = refl
  none_left (heart.then same step more) s e n = absurd (n (runs-above bytes t s (rw (← e) at step.1)))

  module _ (s : Position) (left : ℕ) (h : Midway t.index s (suc left)) {f : Frame} {w : Instruction} {r end : Running} {rest : List Visit}
      (same : lines f ≡ w) (step : Taken bytes t f w (running_of s) r) (more : Chain (Taken bytes t) lines r rest end)
      (again : (next : Position) → running_of next ≡ r → Midway t.index next left → Walked bytes t program next rest) where
    made : Made bytes t program s f w r
    made = taken-makes bytes t passed program lines held s left h same step

    -- the step closes the case: the next one begins at its start, or the last one is finished
    closes_cut : made.next.case ≡ s.case + 1 → Cut bytes t program (s.case + 1) rest
    unfolding end_to_end
    closes_cut grows =
        elim (dec_lt (s.case + 1) t.index.cases) [
          | yes l ↦
              let begins : r ≡ started bytes t (s.case + 1) =
              next-started bytes t step.1 (s.case + 1) refl (ap (λ (u : Running). u.case) (sym made.running) ∙ grows) l in
              walked-cut bytes t program (s.case + 1) l
              (again _ (starting-started bytes t (s.case + 1) ∙ sym begins) (starts-midway bytes t passed (s.case + 1) left l (omega (arith, h.steps))))
          | no n ↦
              let e : s.case + 1 ≡ t.index.cases = omega (arith, midway-open t.index s _ h) in
              record {
                traces = [];
                ends = done e;
                whole = none_left more made.next made.running (next-finished bytes t passed s left h w made.next made.does made.fits (grows ∙ e));
              }
        ]

    step-walked : Walked bytes t program s (record { frame = f; instruction = w } ∷ rest)
    step-walked =
        rw made.here
        (elim (closes-or-stays bytes t passed s left h w made.next made.does) [
          | inl c ↦ record { trace = visit s w ∷ []; ends = last made.makes c.0; rest = rest; others = closes_cut c.1; whole = refl }
          | inr c ↦
              let y = again made.next made.running (next-midway bytes t passed s left h w made.next made.does made.fits c.1) in
              record {
                trace = visit s w ∷ y.trace;
                ends = then made.makes c.0 y.ends;
                rest = y.rest;
                others = subst (λ (n : ℕ). Cut bytes t program (n + 1) y.rest) c.1 y.others;
                whole = ap (λ (σ : List Visit). visit s w ∷ σ) y.whole;
              }
        ])

  walk : {r end : Running} {τ : List Visit} → Chain (Taken bytes t) lines r τ end → end.case ≡ t.index.cases
      → (s : Position) → running_of s ≡ r → Midway t.index s (length τ) → Walked bytes t program s τ
  walk heart.none finished s e h = absurd (omega (arith, midway-open t.index s _ h, ap (λ (u : Running). u.case) e))
  walk (heart.then same step more) finished s e h =
      step-walked s _ h same (rw (← e) at step) more (λ next f k. walk more finished next f k)

  pub chain-ends : {c : ℕ} {τ : List Visit} {end : Running} → Chain (Taken bytes t) lines (started bytes t c) τ end → end.case ≡ t.index.cases
      → c < t.index.cases → length τ ≤ t.index.bounds.steps → Cut bytes t program c τ
  chain-ends {c} chain finished l h =
      walked-cut bytes t program c l (walk chain finished _ (starting-started bytes t c) (starts-midway bytes t passed c _ l h))

  -- the run on case c by itself, as steps of the compiled task: they lead to the next case's start, if there is one
  record CaseRun (c : ℕ) (s : Position) (trace : List Visit) : Type 0 where
    end : Running
    chain : Chain (Taken bytes t) lines (running_of s) trace end
    case : end.case ≡ c + 1
    next : c + 1 < t.index.cases → end ≡ started bytes t (c + 1)

  ends-run : {s : Position} {trace : List Visit} → Ends bytes t.index t.offsets program s trace → (c : ℕ) → s.case ≡ c
      → Midway t.index s (length trace) → CaseRun c s trace
  ends-run (last {s} {next} {w} makes closes) c e h =
      let x = makes-taken bytes t passed program lines held s 0 h makes in
      let grows = case-closes bytes t.index t.offsets s next (rw closes.0 at x.does) closes.1 in
      let case : next.case ≡ c + 1 = omega (arith, grows) in
      record {
        end = running_of next;
        chain = heart.then x.same x.taken heart.none;
        case = case;
        next = next-started bytes t x.taken.1 (c + 1) (omega arith) case;
      }
  ends-run (then {s} {next} {w} {rest} makes stays_open more) c e h =
      let x = makes-taken bytes t passed program lines held s _ h makes in
      let stays : next.case ≡ s.case =
      elim (closes-or-stays bytes t passed s _ h w next x.does) [ inl z ↦ absurd (stays_open z.0) | inr z ↦ z.1 ] in
      let y = ends-run more c (stays ∙ e) (next-midway bytes t passed s _ h w next x.does x.fits stays) in
      record { end = y.end; chain = heart.then x.same x.taken y.chain; case = y.case; next = y.next }

  join : {c : ℕ} {trace : List Visit} {rest : List (List Visit)} (x : CaseRun c (start_of bytes t c) trace)
      → Joined bytes t lines x.end rest → Joined bytes t lines (started bytes t c) (trace ∷ rest)
  unfolding end_to_end
  join {c} x y =
      record {
        end = y.end;
        chain = rw (← starting-started bytes t c) (chain-append (Taken bytes t) x.chain y.chain);
        finished = y.finished;
      }

  ends-joined : {c : ℕ} {traces : List (List Visit)} → EndsFrom bytes t program c traces → length (end_to_end traces) ≤ t.index.bounds.steps
      → (r : Running) → r.case ≡ c → (c < t.index.cases → r ≡ started bytes t c) → Joined bytes t lines r traces
  unfolding end_to_end starting
  ends-joined (done e) h r same start = record { end = r; chain = heart.none; finished = same ∙ e }
  ends-joined (and {c} {trace} {rest} ends l more) h r same start =
      let n = length-append trace (end_to_end rest) in
      let x = ends-run ends c refl (starts-midway bytes t passed c (length trace) l (omega arith)) in
      rw (start l) (join x (ends-joined more (omega arith) x.end x.case x.next))

  pub ends-chain : {c : ℕ} {traces : List (List Visit)} → EndsFrom bytes t program c traces → length (end_to_end traces) ≤ t.index.bounds.steps
      → Joined bytes t lines (started bytes t c) traces
  ends-chain ends h = ends-joined ends h _ refl (λ l. refl)
