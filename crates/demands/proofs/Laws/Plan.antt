-- A plan's steps and its bytes, both ways: what the checker reads where a step's record or the closing one is, and the bytes that are there
-- where it reads one. The kind tells a write from a repeat and three bytes spell one instruction at most, so what is read is one step, and
-- the bytes of a plan determine its steps.
-- Assumes nothing.
use Prim.Native.Nat.{ℕ, zero, suc, ◌+◌, ◌^◌, ◌≤◌, ◌<◌}
use mathlib.Core.Path.{◌≡◌, refl, sym, ap, ◌∙◌}
use mathlib.Core.Bool.{true, false, or-false}
use mathlib.Core.List.{List, [], ◌∷◌, ◌++◌, flat_map, append_assoc}
use native.Mathlib.Nat.{add-zero}
use native.Mathlib.Omega.{arith}
use lib.Dec.{eqb}
use lib.ListN.{length, take, drop, length-drop}
use borrow.Author.Tests.{leb-true, eqb-true, eqb-false}
use Rattle.std.proofs.lemmas.Option.{same_Some}
use Rattle.records.specs.Numbers.{byte_at, u16_at, number_bytes}
use Rattle.records.specs.Record.{record_at, record_bytes, closing}
use Rattle.records.specs.declared.record.Record.{Record}
use Rattle.records.proofs.Laws.Record.{found_record, record-ends}
use Rattle.records.proofs.Laws.Bytes.{byte-behind, record-read, body-read, rest_read, record-written, closing-written}
use Rattle.records.proofs.Laws.Numbers.{there}
use Rattle.records.proofs.Laws.Tests.{both_true, cond_either}
use Rattle.task.specs.Instruction.{encode, encode_for, triple_at}
use Rattle.task.specs.declared.instruction.Instruction.{Instruction}
use Rattle.checker.proofs.Laws.Check.{step-instruction}
use Rattle.checker.specs.Plan.{PlanStep, instruction_of, kind_of, step_of, is_kind, length_fits, frame_at, record_of, plan_of}
use Rattle.checker.specs.declared.plan.Step.{Step}
use Rattle.checker.specs.declared.plan.Step.TheVariants.{Write, Repeat}
use Rattle.task_file.proofs.Laws.Rows.{flat-more}
use Rattle.demands.specs.Demand2.{OneToOne}
use Rattle.task.proofs.Laws.Triple.{spelled-encode, triple-behind, five-bytes}

-- the steps' records, without the closing one
abbrev pub step_records : List PlanStep → List ℕ
step_records σ = flat_map record_of σ

pub plan-records : (σ : List PlanStep) → plan_of σ ≡ step_records σ ++ closing
unfolding plan_of flat_map
plan-records [] = refl
plan-records (a ∷ σ) = rw (plan-records σ, append_assoc)

-- the steps before an offset, and the record of one more there
pub records-more : (plan : List ℕ) (at next : ℕ) (σ : List PlanStep) (a : PlanStep) → plan ≡ step_records σ ++ drop at plan
    → drop at plan ≡ record_of a ++ drop next plan → plan ≡ step_records (σ ++ (a ∷ [])) ++ drop next plan
records-more plan at next σ a e h = cc (flat-more record_of σ a, append_assoc (step_records σ) (record_of a) (drop next plan))

-- a step is made of its kind and its instruction
pub step-again : (s : Step) → step_of (kind_of s) (instruction_of s) ≡ s
unfolding step_of kind_of instruction_of
step-again (Write w) = refl
step-again (Repeat w) = refl

step-kinds : (kind : ℕ) → is_kind kind ≡ true → eqb kind 5 ≡ false → (16 ≤ kind) × (kind ≤ 17)
unfolding is_kind
step-kinds kind h k = let e = both_true _ _ (rw (k, or-false) at h) in (leb-true _ _ e.0, leb-true _ _ e.1)

kind-again : (kind : ℕ) (w : Instruction) → is_kind kind ≡ true → eqb kind 5 ≡ false → kind_of (step_of kind w) ≡ kind
unfolding step_of kind_of
kind-again kind w h k =
    let e = step-kinds kind h k in
    cond_either (λ s. kind_of s ≡ kind) (eqb kind 16) (Write w) (Repeat w)
    (λ y. sym (eqb-true kind 16 y))
    (λ n. let m = eqb-false kind 16 n in omega arith)

-- a step of the plan passes questions 12 and 13, and does not close the plan
step-asked : (s : Step) → (is_kind (kind_of s) ≡ true) × (length_fits (kind_of s) 5 ≡ true) × (eqb (kind_of s) 5 ≡ false)
unfolding is_kind length_fits kind_of
step-asked (Write w) = (refl, refl, refl)
step-asked (Repeat w) = (refl, refl, refl)

kind-small : (s : Step) → kind_of s < 2 ^ 16
unfolding kind_of
kind-small (Write w) = omega arith
kind-small (Repeat w) = omega arith

-- the head bytes of a record whose kind and length are below 256: a number of two bytes that is below 256 has both bytes below 256
module _ (plan : List ℕ) where
  two-small : (at v : ℕ) → v < 256 → v ≡ u16_at plan at → at + 2 ≤ length plan → (byte_at plan at < 256) × (byte_at plan (at + 1) < 256)
  unfolding u16_at
  two-small at v small e h = let two = e ∙ sym (there 2 plan at _ h) in omega arith

  four-small : (at : ℕ) → (byte_at plan at < 256) × (byte_at plan (at + 1) < 256) → (byte_at plan (at + 2) < 256) × (byte_at plan (at + 2 + 1) < 256)
      → (k : ℕ) → k < 4 → byte_at plan (at + k) < 256
  four-small at low high zero l = rw (add-zero at) low.0
  four-small at low high (suc zero) l = low.1
  four-small at low high (suc (suc zero)) l = high.0
  four-small at low high (suc (suc (suc zero))) l = let e : at + 3 ≡ at + 2 + 1 = omega arith in rw e high.1
  four-small at low high (suc (suc (suc (suc k)))) l = absurd (omega arith)

  head_small : (at kind start size next : ℕ) → record_at plan at ≡ found_record kind start size next → kind < 256 → size < 256
      → (k : ℕ) → k < 4 → byte_at plan (at + k) < 256
  head_small at kind start size next h small few =
      let e = record-ends plan at kind start size next h in
      four-small at (two-small at size few e.3 (omega arith)) (two-small (at + 2) kind small e.4 (omega arith))

frame-behind : (plan : List ℕ) (at : ℕ) → frame_at plan at ≡ frame_at (drop at plan) 0
unfolding frame_at
frame-behind plan at = cc (byte-behind plan at 0, byte-behind plan at 1, add-zero at)

-- what the checker reads at an offset where a step's record is: it passes questions 12 and 13, does not close the plan, names the step's
-- frame and spells its instruction; then come the bytes behind it
pub record Reads (plan : List ℕ) (at : ℕ) (a : PlanStep) (rest : List ℕ) : Type 0 where
  pub body : ℕ
  pub size : ℕ
  pub next : ℕ
  pub found : record_at plan at ≡ found_record (kind_of a.step) body size next
  pub kind : is_kind (kind_of a.step) ≡ true
  pub fits : length_fits (kind_of a.step) size ≡ true
  pub more : eqb (kind_of a.step) 5 ≡ false
  pub frame : frame_at plan body ≡ a.frame
  pub triple : triple_at plan (body + 2) ≡ encode (instruction_of a.step)
  pub behind : drop next plan ≡ rest

pub step-read : (plan : List ℕ) (at : ℕ) (a : PlanStep) (rest : List ℕ) → drop at plan ≡ record_of a ++ rest → Reads plan at a rest
unfolding record_of frame_at triple_at
step-read plan at a rest h =
    let kind = kind_of a.step in
    let body = encode_for a.frame.procedure a.frame.line (instruction_of a.step) in
    let asked = step-asked a.step in
    let there = body-read plan at kind body rest h in
    record {
      body = at + 4;
      size = 5;
      next = at + 4 + 5;
      found = record-read plan at kind body rest h (kind-small a.step) (omega arith);
      kind = asked.0;
      fits = asked.1;
      more = asked.2;
      frame = frame-behind plan (at + 4) ∙ ap (λ (l : List ℕ). frame_at l 0) there;
      triple = triple-behind plan (at + 4) 2 ∙ ap (λ (l : List ℕ). triple_at l 2) there;
      behind = rest_read plan at kind body rest h;
    }

-- conversely: the bytes of a record that is read, of a length that fits its kind
module _ (plan : List ℕ) (at kind body size next : ℕ) (found : record_at plan at ≡ found_record kind body size next)
    (fits : length_fits kind size ≡ true) where
  pub step-written : is_kind kind ≡ true → eqb kind 5 ≡ false → (w : Instruction) → triple_at plan (body + 2) ≡ encode w
      → drop at plan ≡ record_of (record { frame = frame_at plan body; step = step_of kind w }) ++ drop next plan
  unfolding length_fits record_of frame_at
  step-written h k w t =
      let five = eqb-true size 5 (rw k at fits) in
      let ends = record-ends plan at kind body size next found in
      let range = step-kinds kind h k in
      record-written plan at kind body size next found (head_small plan at kind body size next found (omega arith) (omega arith))
      ∙ cc (
        kind-again kind w h k,
        step-instruction kind w,
        add-zero body,
        byte-behind plan body 0,
        byte-behind plan body 1,
        triple-behind plan body 2,
        ap (take 5) (five-bytes (drop body plan) (omega (arith, length-drop body plan))),
      )

  pub end-written : eqb kind 5 ≡ true → next ≡ length plan → drop at plan ≡ closing
  unfolding length_fits
  end-written k end =
      let zero = eqb-true size 0 (rw k at fits) in
      let five = eqb-true kind 5 k in
      closing-written plan at body next (rw (zero, five) at found) (head_small plan at kind body size next found (omega arith) (omega arith)) end

-- what is read at an offset is one step, and one list of bytes behind it
read-once : (plan : List ℕ) (at : ℕ) (a b : PlanStep) (l m : List ℕ) → Reads plan at a l → Reads plan at b m → (a ≡ b) × (l ≡ m)
read-once plan at a b l m r q =
    let e = same_Some _ _ (sym r.found ∙ q.found) in
    let k = ap (λ (found : Record). found.kind) e in
    let body = ap (λ (found : Record). found.body) e in
    let next = ap (λ (found : Record). found.next) e in
    let f : a.frame ≡ b.frame = cc in
    let u = spelled-encode (instruction_of a.step) in
    let v = spelled-encode (instruction_of b.step) in
    let w : instruction_of a.step ≡ instruction_of b.step = cc in
    let s : a.step ≡ b.step = cc (step-again a.step, step-again b.step) in
    (λ i. record { frame = f i; step = s i }, cc)

pub one-to-one : OneToOne
unfolding plan_of closing record_of record_bytes number_bytes
one-to-one [] [] h = refl
one-to-one [] (b ∷ τ) h = cc
one-to-one (a ∷ σ) [] h = cc
one-to-one (a ∷ σ) (b ∷ τ) h =
    let e = read-once _ 0 a b _ _ (step-read _ 0 a (plan_of σ) refl) (step-read _ 0 b (plan_of τ) h) in
    cc (e.0, one-to-one σ τ e.1)
