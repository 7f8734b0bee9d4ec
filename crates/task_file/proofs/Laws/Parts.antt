-- The bytes of each part of a task, and what is read where they stand, both ways. From the bytes of a part the part is read, because its numbers fit; and the
-- bytes of a record that is read are those of the part that is read, because each is below 256. And the pass over an action's body.
-- Assumes nothing.
use Prim.Native.Nat.{ℕ, zero, suc, ◌+◌, ◌*◌, ◌/◌, ◌%◌, ◌^◌, ◌≤◌, ◌<◌}
use mathlib.Core.Path.{◌≡◌, refl, sym, ap, ◌∙◌}
use mathlib.Core.Bool.{true}
use mathlib.Core.Logic.{◌↔◌}
use mathlib.Core.List.{List, [], ◌∷◌, ◌++◌, flat_map, append-nil, append_assoc}
use native.Mathlib.Nat.{add-zero}
use native.Mathlib.Omega.{arith}
use lib.ListN.{length, take, drop, length-append, length-drop}
use lib.Seq.{drop-drop, take_at}
use Rattle.records.specs.Numbers.{byte_at, u16_at, u64_at, u16_bytes, u64_bytes, number_bytes, AreBytes}
use Rattle.records.specs.Record.{record_at, record_bytes}
use Rattle.records.proofs.Laws.Record.{found_record, record-ends}
use Rattle.records.proofs.Laws.Bytes.{length-number, byte-behind, behind, u16-read, u64-read, u16-written, u64-written, record-read, body-read, rest_read, record-written}
use Rattle.task.specs.Bounds.{bounds_at}
use Rattle.task.specs.Facts.{literals_at, consistent, pair_consistent, pairs_before_fault_at, pairs_before_fault}
use Rattle.task.specs.Index.{row_from, action_at, effect_at, effects_of}
use Rattle.task.specs.Instruction.{encode, encode_for, triple_at}
use Rattle.task.specs.Task.{Action, Preset}
use Rattle.task.specs.TaskAt.{action_of}
use Rattle.task.specs.declared.bounds.Bounds.{Bounds}
use Rattle.task.specs.declared.facts.Literals.{Literals}
use Rattle.task.specs.declared.index.Case.{Case}
use Rattle.task.specs.declared.index.Effect.{Effect}
use Rattle.task.specs.declared.instruction.Instruction.{Instruction}
use Rattle.task.proofs.Laws.Triple.{triple-behind, five-bytes}
use Rattle.task_file.specs.Bytes.{pair_bytes, effect_pairs, action_pairs, action_body, bounds_record, action_record, preset_record, case_record}
use Rattle.task_file.specs.Pairs.{before_no, PairFits, SetsFit}
use Rattle.task_file.specs.WellFormed.{Every}
use Rattle.task_file.proofs.Laws.Rows.{flat-length, row-length, row-found, before-full, row_cut, row_read}

-- the pairs that stand in a row, counted before the first that fails
pairs-counted : (facts : ℕ) (bytes : List ℕ) (start count : ℕ)
    → pairs_before_fault_at facts bytes start count ≡ before_no (consistent facts) (row_from (λ k. literals_at bytes (start + 16 * k)) 0 count)
unfolding pairs_before_fault_at pair_consistent
pairs-counted facts bytes start count = row-found (consistent facts) (λ k. literals_at bytes (start + 16 * k)) count

-- the pairs of the action at an offset stand in a row, and question 6 is asked of each
module _ (bytes : List ℕ) (at : ℕ) where
  abbrev pair_at : ℕ → Literals
  pair_at k = literals_at bytes (at + 4 + 16 * k)

  effects-row : (left e : ℕ) → flat_map effect_pairs (row_from (effect_at bytes at) e left) ≡ row_from pair_at (1 + 2 * e) (2 * left)
  unfolding flat_map row_from effect_pairs effect_at literals_at
  effects-row zero e = refl
  effects-row (suc left) e =
      let n : 2 * suc left ≡ suc (suc (2 * left)) = omega arith in
      let m : 1 + 2 * suc e ≡ suc (suc (1 + 2 * e)) = omega arith in
      let c : at + (20 + 32 * e) ≡ at + 4 + 16 * (1 + 2 * e) = omega arith in
      let r : at + (36 + 32 * e) ≡ at + 4 + 16 * suc (1 + 2 * e) = omega arith in
      let w : at + (44 + 32 * e) ≡ at + 4 + 16 * suc (1 + 2 * e) + 8 = omega arith in
      rw (n, c, r, w, effects-row left (suc e), m) refl

  action-pairs : action_pairs (action_of bytes at) ≡ row_from pair_at 0 (1 + 2 * (action_at bytes at).effects)
  unfolding action_pairs action_of effects_of action_at row_from
  action-pairs =
      let n : 1 + 2 * (u16_at bytes at / 32) ≡ suc (2 * (u16_at bytes at / 32)) = omega arith in
      let z : at + 4 + 16 * 0 ≡ at + 4 = omega arith in
      rw (n, z) (ap (λ (l : List Literals). literals_at bytes (at + 4) ∷ l) (effects-row (u16_at bytes at / 32) 0))

  -- the count of the pairs before the first that fails is full exactly if every pair passes
  pub pairs-asked : (facts count : ℕ) → count ≡ 1 + 2 * (action_at bytes at).effects
      → (pairs_before_fault_at facts bytes (at + 4) count ≡ count) ↔ Every (λ (l : Literals). consistent facts l ≡ true) (action_pairs (action_of bytes at))
  pairs-asked facts count e =
      let full = before-full (consistent facts) (row_from pair_at 0 count) in
      rw (action-pairs, ← e, pairs-counted facts bytes (at + 4) count) (rw (row-length pair_at 0 count) at full)

  pub effects-count : length (action_of bytes at).effects ≡ (action_at bytes at).effects
  unfolding action_of effects_of
  effects-count = row-length (effect_at bytes at) 0 (action_at bytes at).effects

pair-length : (l : Literals) → length (pair_bytes l) ≡ 16
unfolding pair_bytes
pair-length l = length-append (u64_bytes l.positive) (u64_bytes l.negative) ∙ omega (arith, length-number 8 l.positive, length-number 8 l.negative)

-- an action has 1 + 2 * e pairs, and its record a body of 16 + 32 * e bytes
pairs-count : (a : Action) → length (action_pairs a) ≡ 1 + 2 * length a.effects
unfolding action_pairs effect_pairs
pairs-count a = omega (arith, flat-length effect_pairs 2 (λ e. refl) a.effects)

body-length : (a : Action) → length (action_body a) ≡ 16 + 32 * length a.effects
body-length a = omega (arith, flat-length pair_bytes 16 pair-length (action_pairs a), pairs-count a)

-- an action is determined by its pairs
effects-same : (l m : List Effect) → flat_map effect_pairs l ≡ flat_map effect_pairs m → l ≡ m
unfolding flat_map effect_pairs
effects-same [] [] h = refl
effects-same [] (f ∷ m) h = cc
effects-same (e ∷ l) [] h = cc
effects-same (e ∷ l) (f ∷ m) h =
    let condition : e.condition ≡ f.condition = cc in
    let changes : ◌≡◌ {A = Literals} (record { positive = e.raised; negative = e.lowered }) (record { positive = f.raised; negative = f.lowered }) = cc in
    let rest = effects-same l m cc in
    let same : e ≡ f =
    λ i. record { condition = condition i; raised = (changes i).positive; lowered = (changes i).negative } in
    cc (same, rest)

action-same : (a b : Action) → action_pairs a ≡ action_pairs b → a ≡ b
unfolding action_pairs
action-same a b h =
    let p : a.precondition ≡ b.precondition = cc in
    let e = effects-same a.effects b.effects cc in
    λ i. record { precondition = p i; effects = e i }

-- a case's record has 28 bytes, 24 of them its body
case-length : (c : Case) → length (case_record c) ≡ 28
unfolding case_record record_bytes number_bytes
case-length c = simp pair-length

abbrev case_body : Case → List ℕ
case_body c = drop 4 (case_record c)

case-body : (c : Case) → length (case_body c) ≡ 24
case-body c = omega (arith, case-length c, length-drop 4 (case_record c))

pub action-length : (a : Action) → length (action_record a) ≡ 4 + (16 + 32 * length a.effects)
unfolding action_record record_bytes number_bytes
action-length a = omega (arith, body-length a)

module _ (bytes : List ℕ) where
  -- a pair whose bytes stand at an offset
  module _ (at : ℕ) (l : Literals) (rest : List ℕ) (h : drop at bytes ≡ pair_bytes l ++ rest) where
    pair_read : PairFits l → literals_at bytes at ≡ l
    unfolding literals_at pair_bytes
    pair_read fits =
        let here = h ∙ append_assoc (u64_bytes l.positive) (u64_bytes l.negative) rest in
        let there = rw (length-number 8 l.positive) at (behind bytes at (u64_bytes l.positive) _ here) in
        let p = u64-read bytes at l.positive _ (omega (arith, fits.0)) here in
        let n = u64-read bytes (at + 8) l.negative rest (omega (arith, fits.1)) there in
        λ i. record { positive = p i; negative = n i }

  -- pairs whose bytes stand one behind the other from an offset on
  pairs-read : (start : ℕ) (l : List Literals) (rest : List ℕ) → Every PairFits l → drop start bytes ≡ flat_map pair_bytes l ++ rest
      → row_from (λ k. literals_at bytes (start + 16 * k)) 0 (length l) ≡ l
  pairs-read start l rest fits h =
      let from : start + 16 * 0 ≡ start = omega arith in
      row_read bytes pair_bytes PairFits (λ k. literals_at bytes (start + 16 * k)) (λ k. start + 16 * k) (λ k l. omega (arith, pair-length l))
      (λ k l more good here. pair_read (start + 16 * k) l more here good) l 0 rest fits (rw from h)

  -- the body that is cut out of a file, given the bytes that stand there
  cut_out : (at size : ℕ) (body rest : List ℕ) → length body ≡ size → drop at bytes ≡ body ++ rest → take size (drop at bytes) ≡ body
  cut_out at size body rest n h = ap (take size) h ∙ take_at body rest size n

  -- an action whose record stands at an offset
  module _ (at : ℕ) (a : Action) (rest : List ℕ) (few : length a.effects ≤ 8) (h : drop at bytes ≡ action_record a ++ rest) where
    small : length (action_body a) < 2 ^ 16
    small = omega (arith, body-length a)

    pub action-found : record_at bytes at ≡ found_record 2 (at + 4) (16 + 32 * length a.effects) (at + 4 + (16 + 32 * length a.effects))
    unfolding action_record
    action-found = rw (← (body-length a)) (record-read bytes at 2 (action_body a) rest h (omega arith) small)

    pub action-behind : drop (at + 4 + (16 + 32 * length a.effects)) bytes ≡ rest
    unfolding action_record
    action-behind = rw (← (body-length a)) (rest_read bytes at 2 (action_body a) rest h)

    pub action-body : take (16 + 32 * length a.effects) (drop (at + 4) bytes) ≡ action_body a
    unfolding action_record
    action-body = cut_out (at + 4) _ (action_body a) rest (body-length a) (body-read bytes at 2 (action_body a) rest h)

    action-size : u16_at bytes at ≡ 16 + 32 * length a.effects
    action-size = sym (record-ends bytes at 2 _ _ _ action-found).3

    pub action-read : SetsFit a → action_of bytes at ≡ a
    unfolding action_record action_at
    action-read fits =
        let count : 1 + 2 * (action_at bytes at).effects ≡ length (action_pairs a) = omega (arith, action-size, pairs-count a) in
        let row = pairs-read (at + 4) (action_pairs a) rest fits (body-read bytes at 2 (action_body a) rest h) in
        action-same (action_of bytes at) a (action-pairs bytes at ∙ ap (row_from (pair_at bytes at) 0) count ∙ row)

  -- a case whose record stands at an offset
  module _ (at : ℕ) (c : Case) (rest : List ℕ) (h : drop at bytes ≡ case_record c ++ rest) where
    pub case-found : record_at bytes at ≡ found_record 4 (at + 4) 24 (at + 4 + 24)
    unfolding case_record record_bytes number_bytes
    case-found = rw (← (case-body c)) (record-read bytes at 4 (case_body c) rest h (omega arith) (omega (arith, case-body c)))

    pub case-behind : drop (at + 4 + 24) bytes ≡ rest
    unfolding case_record record_bytes number_bytes
    case-behind = rw (← (case-body c)) (rest_read bytes at 4 (case_body c) rest h)

    case-start : drop (at + 4) bytes ≡ u64_bytes c.start ++ (pair_bytes c.goal ++ rest)
    unfolding case_record record_bytes number_bytes
    case-start =
        let body : drop (at + 4) bytes ≡ u64_bytes c.start ++ pair_bytes c.goal ++ rest = body-read bytes at 4 (case_body c) rest h in
        body ∙ append_assoc (u64_bytes c.start) (pair_bytes c.goal) rest

    pub case-read : c.start < 2 ^ 64 → PairFits c.goal → (u64_at bytes (at + 4) ≡ c.start) × (literals_at bytes (at + 4 + 8) ≡ c.goal)
    case-read start goal = (
      u64-read bytes (at + 4) c.start _ start case-start,
      pair_read (at + 4 + 8) c.goal rest (rw (length-number 8 c.start) at (behind bytes (at + 4) (u64_bytes c.start) _ case-start)) goal,
    )

  -- a preset whose record stands at an offset
  module _ (at : ℕ) (p : Preset) (rest : List ℕ) (h : drop at bytes ≡ preset_record p ++ rest) where
    abbrev preset-body : List ℕ
    preset-body = encode_for p.procedure p.line p.instruction

    pub preset-found : record_at bytes at ≡ found_record 3 (at + 4) 5 (at + 4 + 5)
    unfolding preset_record
    preset-found = record-read bytes at 3 preset-body rest h (omega arith) (omega arith)

    pub preset-behind : drop (at + 4 + 5) bytes ≡ rest
    unfolding preset_record
    preset-behind = rest_read bytes at 3 preset-body rest h

    preset-there : drop (at + 4) bytes ≡ preset-body ++ rest
    unfolding preset_record
    preset-there = body-read bytes at 3 preset-body rest h

    preset-byte : (k : ℕ) → byte_at bytes (at + 4 + k) ≡ byte_at (preset-body ++ rest) k
    preset-byte k = byte-behind bytes (at + 4) k ∙ ap (λ (l : List ℕ). byte_at l k) preset-there

    pub preset-read : (byte_at bytes (at + 4) ≡ p.procedure.0) × (byte_at bytes (at + 4 + 1) ≡ p.line.0) × (triple_at bytes (at + 4 + 2) ≡ encode p.instruction)
    unfolding triple_at
    preset-read = (
      rw add-zero at (preset-byte 0),
      preset-byte 1,
      triple-behind bytes (at + 4) 2 ∙ ap (λ (l : List ℕ). triple_at l 2) preset-there,
    )

  -- bounds whose record stands first
  module _ (b : Bounds) (rest : List ℕ) (h : bytes ≡ bounds_record b ++ rest) where
    abbrev bounds-body : List ℕ
    bounds-body = b.facts ∷ b.procedures ∷ b.last ∷ b.stack ∷ u16_bytes b.steps

    pub bounds-found : record_at bytes 0 ≡ found_record 1 4 6 10
    unfolding bounds_record number_bytes
    bounds-found = record-read bytes 0 1 bounds-body rest h (omega arith) (omega arith)

    pub bounds-behind : drop 10 bytes ≡ rest
    unfolding bounds_record number_bytes
    bounds-behind = rest_read bytes 0 1 bounds-body rest h

    pub bounds-read : b.steps < 2 ^ 16 → bounds_at bytes 4 ≡ b
    unfolding bounds_record number_bytes bounds_at
    bounds-read steps =
        let there = body-read bytes 0 1 bounds-body rest h in
        let byte : (k : ℕ) → byte_at bytes (4 + k) ≡ byte_at (bounds-body ++ rest) k = λ k. byte-behind bytes 4 k ∙ ap (λ (l : List ℕ). byte_at l k) there in
        let s = u16-read bytes 8 b.steps rest steps (sym (drop-drop 4 4 bytes) ∙ ap (drop 4) there) in
        λ i. record { facts = byte 0 i; procedures = byte 1 i; last = byte 2 i; stack = byte 3 i; steps = s i }

  -- conversely: the bytes of a record that is read
  module _ (are : AreBytes bytes) where
    pair-written : (at : ℕ) → at + 16 ≤ length bytes → drop at bytes ≡ pair_bytes (literals_at bytes at) ++ drop (at + 16) bytes
    unfolding literals_at pair_bytes
    pair-written at h =
        let e : at + 8 + 8 ≡ at + 16 = omega arith in
        let first = u64-written bytes at (omega arith) (λ k l. are (at + k)) in
        let second = rw e at (u64-written bytes (at + 8) (omega arith) (λ k l. are (at + 8 + k))) in
        cc (first, second, append_assoc (u64_bytes (u64_at bytes at)) (u64_bytes (u64_at bytes (at + 8))) (drop (at + 16) bytes))

    pairs-written : (at left k : ℕ) → at + 4 + 16 * (k + left) ≤ length bytes
        → drop (at + 4 + 16 * k) bytes ≡ flat_map pair_bytes (row_from (pair_at bytes at) k left) ++ drop (at + 4 + 16 * (k + left)) bytes
    unfolding row_from flat_map
    pairs-written at zero k h = rw add-zero
    pairs-written at (suc left) k h =
        let n : at + 4 + 16 * k + 16 ≡ at + 4 + 16 * suc k = omega arith in
        let m : k + suc left ≡ suc k + left = omega arith in
        let first = rw n at (pair-written (at + 4 + 16 * k) (omega arith)) in
        let rest = pairs-written at left (suc k) (omega arith) in
        rw m (cc (
          first,
          rest,
          append_assoc (pair_bytes (pair_at bytes at k)) (flat_map pair_bytes (row_from (pair_at bytes at) (suc k) left)) (drop (at + 4 + 16 * (suc k + left)) bytes),
        ))

    -- a record that is read, given the bytes of its body
    part-written : (at kind size next : ℕ) (body rest : List ℕ) → record_at bytes at ≡ found_record kind (at + 4) size next → length body ≡ size
        → drop (at + 4) bytes ≡ body ++ rest → drop at bytes ≡ record_bytes kind body ++ drop next bytes
    part-written at kind size next body rest found n h =
        record-written bytes at kind (at + 4) size next found (λ k l. are (at + k))
        ∙ ap (λ (l : List ℕ). record_bytes kind l ++ drop next bytes) (cut_out (at + 4) size body rest n h)

    pub action-written : (at size : ℕ) → record_at bytes at ≡ found_record 2 (at + 4) size (at + (4 + size)) → size % 32 ≡ 16
        → drop at bytes ≡ action_record (action_of bytes at) ++ drop (at + (4 + size)) bytes
    unfolding action_record action_at
    action-written at size found m =
        let ends = record-ends bytes at 2 _ size _ found in
        let count = 1 + 2 * (u16_at bytes at / 32) in
        let from : at + 4 + 16 * 0 ≡ at + 4 = omega arith in
        let there = rw (from, ← (action-pairs bytes at)) at (pairs-written at count 0 (omega arith)) in
        part-written at 2 size _ (action_body (action_of bytes at)) _ found (body-length (action_of bytes at) ∙ omega (arith, effects-count bytes at)) there

    pub case-written : (at : ℕ) → record_at bytes at ≡ found_record 4 (at + 4) 24 (at + 28)
        → drop at bytes ≡ case_record (record { start = u64_at bytes (at + 4); goal = literals_at bytes (at + 4 + 8) }) ++ drop (at + 28) bytes
    unfolding case_record
    case-written at found =
        let ends = record-ends bytes at 4 _ 24 _ found in
        let start = u64-written bytes (at + 4) (omega arith) (λ k l. are (at + 4 + k)) in
        let goal = pair-written (at + 4 + 8) (omega arith) in
        let a = u64_bytes (u64_at bytes (at + 4)) in
        let b = pair_bytes (literals_at bytes (at + 4 + 8)) in
        part-written at 4 24 _ (a ++ b) (drop (at + 4 + 8 + 16) bytes) found
        (length-append a b ∙ omega (arith, length-number 8 (u64_at bytes (at + 4)), pair-length (literals_at bytes (at + 4 + 8))))
        (cc (start, goal, append_assoc a b (drop (at + 4 + 8 + 16) bytes)))

    pub preset-written : (at : ℕ) (w : Instruction) → record_at bytes at ≡ found_record 3 (at + 4) 5 (at + 9) → triple_at bytes (at + 4 + 2) ≡ encode w
        → drop at bytes
        ≡ preset_record (record { procedure = record { 0 = byte_at bytes (at + 4) }; line = record { 0 = byte_at bytes (at + 4 + 1) }; instruction = w })
        ++ drop (at + 9) bytes
    unfolding preset_record
    preset-written at w found t =
        let ends = record-ends bytes at 3 _ 5 _ found in
        let l = drop (at + 4) bytes in
        part-written at 3 5 _ _ (drop 5 l) found refl
        (cc (
          five-bytes l (omega (arith, length-drop (at + 4) bytes)),
          t,
          triple-behind bytes (at + 4) 2,
          add-zero (at + 4),
          byte-behind bytes (at + 4) 0,
          byte-behind bytes (at + 4) 1,
        ))

    pub bounds-written : record_at bytes 0 ≡ found_record 1 4 6 10 → bytes ≡ bounds_record (bounds_at bytes 4) ++ drop 10 bytes
    unfolding bounds_record bounds_at number_bytes row_from
    bounds-written found =
        let ends = record-ends bytes 0 1 _ 6 _ found in
        let steps = u16-written bytes 8 (omega arith) (λ k l. are (8 + k)) in
        part-written 0 1 6 10 _ (drop 10 bytes) found refl (cc (row_cut bytes 4 4 (omega arith), steps))

-- the pass over an action's body
module _ (facts : ℕ) (a : Action) (fits : SetsFit a) where
  pub body-counted : pairs_before_fault facts (action_body a) ≡ before_no (consistent facts) (action_pairs a)
  unfolding pairs_before_fault
  body-counted =
      let n : length (action_body a) / 16 ≡ length (action_pairs a) = omega (arith, body-length a, pairs-count a) in
      let row = pairs-read (action_body a) 0 (action_pairs a) [] fits (sym (append-nil (action_body a))) in
      rw n (pairs-counted facts (action_body a) 0 (length (action_pairs a)) ∙ ap (before_no (consistent facts)) row)

  pub body-full : (pairs_before_fault facts (action_body a) ≡ 1 + 2 * length a.effects) ↔ Every (λ (l : Literals). consistent facts l ≡ true) (action_pairs a)
  body-full =
      let all = before-full (consistent facts) (action_pairs a) in
      (λ h. all.0 (omega (arith, body-counted, pairs-count a)), λ h. omega (arith, body-counted, pairs-count a, all.1 h))
