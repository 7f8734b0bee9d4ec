-- The bytes of a well-formed task are read: at each of its records the parts before it are read, every question says yes, and the reading goes on with this
-- part read too; and the closing record ends it.
-- Assumes nothing.
use Prim.Native.Nat.{ℕ, ◌+◌, ◌*◌, ◌/◌, ◌%◌, ◌≤◌, ◌<◌}
use mathlib.Core.Path.{◌≡◌, refl, sym, ap, ◌∙◌}
use mathlib.Core.Bool.{true}
use mathlib.Core.List.{List, [], ◌∷◌, ◌++◌, flat_map, append-nil, append_assoc}
use native.Mathlib.Nat.{add_assoc}
use native.Mathlib.Omega.{arith}
use lib.Dec.{ltb, eqb}
use lib.ListN.{length, drop, length-append}
use lib.Seq.{append_snoc}
use borrow.Author.Tests.{le-leb, lt-ltb, eq-eqb}
use Rattle.std.specs.Prelude.{Some}
use Rattle.records.specs.Loop.{go, ask}
use Rattle.records.specs.Record.{closing}
use Rattle.records.proofs.Laws.Bytes.{closing-read}
use Rattle.records.proofs.Laws.Loop.{ask-yes}
use Rattle.records.proofs.Laws.Record.{record-ends}
use Rattle.records.specs.Numbers.{byte_at, u64_at}
use Rattle.task.specs.Bounds.{in_range}
use Rattle.task.specs.Facts.{literals_at, case_consistent, pairs_before_fault}
use Rattle.task.specs.Instruction.{or_empty, spelled, decode_for, triple_at}
use Rattle.task.specs.Program.{line_offset}
use Rattle.task.specs.Outcome.{with_record}
use Rattle.task.specs.Questions.{SETS}
use Rattle.task.specs.Reading.{State, begin, no_layout, accepted, refused, by_kind, may_stand, length_fits, header_turn, action_turn, on_preset, preset_turn, case_turn, close_turn, kind_turn, on_record, turn_of, read_task}
use Rattle.task.specs.Task.{Action, Preset, Task, with_case}
use Rattle.task.specs.declared.bounds.Bounds.{Bounds}
use Rattle.task.specs.declared.index.Case.{Case}
use Rattle.task.specs.declared.instruction.Line.{Line}
use Rattle.task.specs.declared.instruction.Proc.{Proc}
use Rattle.task.proofs.Laws.Bounds.{ranges, line-within}
use Rattle.task.proofs.Laws.Facts.{pairs-part}
use Rattle.task.proofs.Laws.Instruction.{for-decoded}
use Rattle.task.proofs.Laws.Kept.{least, greatest, may-stand, There}
use Rattle.task.proofs.Laws.Triple.{spelled-encode}
use Rattle.task.proofs.Laws.Turns.{from, from-begin, from_next, from-stop}
use Rattle.task_file.specs.Bytes.{bounds_record, action_body, action_record, preset_record, case_record, task_bytes}
use Rattle.task_file.specs.Pairs.{AtAction}
use Rattle.task_file.specs.WellFormed.{Every, On}
use Rattle.task_file.proofs.Laws.Formed.{ActionGood, CaseGood, PresetGood, line-most, Formed, within-is, set-fits, pair_fits}
use Rattle.task_file.proofs.Laws.Every.{every-gives, every-at, every_first, every-both, once-at}
use Rattle.task_file.proofs.Laws.Parts.{body-full, action-length, action-found, action-body, action-behind, action-read, preset-found, preset-behind, preset-read, case-found, case-behind, case-read, bounds-found, bounds-behind, bounds-read}
use Rattle.task_file.proofs.Laws.Presets.{preset_number, apart-free, number-on}
use Rattle.task_file.proofs.Laws.SoFar.{SoFar, layout_of, with_action, with_preset, state_behind, action_state, preset_state, case_state, bounds-so-far, action-so-far, preset-so-far, case-so-far}

module _ (bytes : List ℕ) where
  -- a record of a kind that may stand here and has its length: what its kind asks
  record-turn : (s : State) (kind size : ℕ) → There bytes s kind size → may_stand s.progress.last kind ≡ true → length_fits kind size ≡ true
      → kind_turn bytes s kind (s.progress.at + 4) size (s.progress.at + (4 + size)) ≡ turn_of bytes s
  unfolding turn_of on_record
  record-turn s kind size r stands fits = rw r (ask-yes _ _ _ fits ∙ ask-yes _ _ _ stands)

  kind-turn : (s : State) (kind size : ℕ) → There bytes s kind size → least s.progress.last ≤ kind → kind ≤ greatest s.progress.last
      → length_fits kind size ≡ true → kind_turn bytes s kind (s.progress.at + 4) size (s.progress.at + (4 + size)) ≡ turn_of bytes s
  kind-turn s kind size r l g fits = record-turn s kind size r (may-stand s.progress.last kind l g) fits

  -- the record of an action to which questions 1 to 4 say yes: question 6, by the pass over its body
  pub action-turn : (s : State) (x : Action) (more : List ℕ) → AtAction bytes s x more
      → ask (eqb (pairs_before_fault s.progress.index.bounds.facts (action_body x)) (1 + 2 * length x.effects)) (refused SETS s.progress.at)
      (go (action_state bytes s (s.progress.at + (4 + (16 + 32 * length x.effects)))))
      ≡ turn_of bytes s
  unfolding kind_turn by_kind action_turn length_fits with_record
  action-turn s x more r =
      let at = s.progress.at in
      let size = 16 + 32 * length x.effects in
      let few : length x.effects ≤ 8 = omega (arith, r.effects) in
      let found = action-found bytes at x more few r.there in
      let ends = record-ends bytes at 2 _ size _ found in
      let body = action-body bytes at x more few r.there in
      let part = pairs-part s.progress.index.bounds.facts bytes (at + 4) size (omega arith) in
      let count = rw body at part in
      let n : 1 + 2 * length x.effects ≡ size / 16 = omega arith in
      let fits : length_fits 2 size ≡ true = simp (le-leb size 272 (omega arith), eq-eqb (size % 32) 16 (omega arith)) in
      rw (count, n) (
      ask-yes _ _ _ (lt-ltb s.progress.index.actions 64 r.actions)
      ∙ record-turn s 2 size (rw (add_assoc at 4 size) at found) r.stands fits
      )

  -- the reading has read a task so far, and what it reads from there is what the file is read as; the next record may have the kinds from `a` to `b`
  record Stage (t : Task) (a b : ℕ) (s : State) : Type 0 where
    so_far : SoFar bytes s t
    reads : from bytes s ≡ read_task bytes
    low : least s.progress.last ≤ a
    high : b ≤ greatest s.progress.last

  -- the state that it goes on to, with another task read, and the bytes that are left
  record Goes (t : Task) (a b : ℕ) (more : List ℕ) : Type 0 where
    state : State
    stage : Stage t a b state
    left : drop state.progress.at bytes ≡ more

  module _ (t : Task) (bounds : in_range t.bounds ≡ true) (a b : ℕ) (s : State) (stage : Stage t a b s) where
    abbrev at : ℕ
    at = s.progress.at

    abbrev F : ℕ
    F = t.bounds.facts

    goes : (u : State) → go u ≡ turn_of bytes s → from bytes u ≡ read_task bytes
    goes u e = from_next bytes s stage.reads u e

    few-facts : F ≤ 64
    few-facts = (ranges t.bounds bounds).facts.1

    action-goes : (x : Action) (more : List ℕ) → t.presets ≡ [] → t.cases ≡ [] → length t.actions < 64 → ActionGood F x → a ≤ 2 → 2 ≤ b
        → drop at bytes ≡ action_record x ++ more → Goes (with_action t x) 2 4 more
    action-goes x more p c few good low high h =
        let size = 16 + 32 * length x.effects in
        let next = at + (4 + size) in
        let fits = every-gives (pair_fits F few-facts) good.1 in
        let read = action-read bytes at x more good.0 h fits in
        let behind = rw (add_assoc at 4 size) at (action-behind bytes at x more good.0 h) in
        let ends = (record-ends bytes at 2 _ size _ (action-found bytes at x more good.0 h)).3 in
        let here : AtAction bytes s x more =
        record {
          there = h;
          stands = may-stand s.progress.last 2 (omega (arith, stage.low)) (omega (arith, stage.high));
          effects = omega (arith, good.0);
          actions = omega (arith, stage.so_far.counted);
        } in
        let full = rw (← stage.so_far.bounds) at ((body-full F x fits).1 good.1) in
        record {
          state = action_state bytes s next;
          stage =
              record {
                so_far = action-so-far bytes s t stage.so_far next x p c few read (omega (arith, action-length x)) (omega arith);
                reads = goes (action_state bytes s next) (ask-yes _ _ _ (eq-eqb _ _ full) ∙ action-turn s x more here);
                low = omega arith;
                high = omega arith;
              };
          left = behind;
        }

    preset-goes : (p : Preset) (more : List ℕ) → t.cases ≡ [] → PresetGood t.bounds (length t.actions) p
        → Every (PresetGood t.bounds (length t.actions)) t.presets → Every (λ q. On p.procedure p.line q → ⊥) t.presets → a ≤ 3 → 3 ≤ b
        → drop at bytes ≡ preset_record p ++ more → Goes (with_preset t p) 3 4 more
    unfolding kind_turn by_kind preset_turn on_preset length_fits line_offset with_record
    preset-goes p more c good all once low high h =
        let next = at + 9 in
        let line = line-most t.bounds (length t.actions) in
        let found = rw (add_assoc at 4 5) at (preset-found bytes at p more h) in
        let behind = rw (add_assoc at 4 5) at (preset-behind bytes at p more h) in
        let read = preset-read bytes at p more h in
        let apart : Every (λ (q : Preset). preset_number t.bounds q ≡ preset_number t.bounds p → ⊥) t.presets =
        every-gives (λ q g e. g.1 (number-on t.bounds p.procedure p.line q (line p good) (line q g.0) e)) (every-both all once) in
        let free = apart-free t.bounds t.presets s.presets stage.so_far.program p apart in
        let turn = kind-turn s 3 5 found (omega (arith, stage.low)) (omega (arith, stage.high)) refl in
        let j : Proc = record { 0 = byte_at bytes (at + 4) } in
        let i : Line = record { 0 = byte_at bytes (at + 4 + 1) } in
        let same : record { procedure = j; line = i; instruction = p.instruction } ≡ p =
        λ k. record { procedure = record { 0 = read.0 k }; line = record { 0 = read.1 k }; instruction = p.instruction } in
        let decoded = for-decoded t.bounds (length t.actions) p.procedure p.line p.instruction good.procedure good.line good.nonempty in
        let is : decode_for s.progress.index.bounds s.progress.index.actions j i (triple_at bytes (at + 4 + 2)) ≡ Some p.instruction =
        rw (read.0, read.1, read.2, stage.so_far.bounds, stage.so_far.counted) decoded in
        let first : eqb (byte_at s.presets (line_offset s.progress.index.bounds j i)) 0 ≡ true =
        rw (read.0, read.1, stage.so_far.bounds) (eq-eqb _ 0 free) in
        let passed : go (preset_state bytes s next p) ≡ preset_turn bytes s (at + 4) next =
        ap (λ (q : Preset). go (preset_state bytes s next q)) (sym same) ∙ ask-yes _ _ _ first ∙ ap (on_preset bytes s (at + 4) next) (sym is) in
        record {
          state = preset_state bytes s next p;
          stage =
              record {
                so_far =
                    preset-so-far bytes s t stage.so_far next p c apart (line-within t.bounds p.procedure p.line bounds good.procedure (line p good)) refl
                    (read.0, read.1, ap or_empty (ap spelled read.2 ∙ spelled-encode p.instruction));
                reads = goes (preset_state bytes s next p) (passed ∙ turn);
                low = omega arith;
                high = omega arith;
              };
          left = behind;
        }

    case_goes : (x : Case) (more : List ℕ) → length t.cases < 32 → CaseGood F x → a ≤ 4 → 4 ≤ b
        → drop at bytes ≡ case_record x ++ more → Goes (with_case t x) 4 5 more
    unfolding kind_turn by_kind case_turn length_fits with_record case_consistent
    case_goes x more few good low high h =
        let next = at + 28 in
        let found = rw (add_assoc at 4 24) at (case-found bytes at x more h) in
        let behind = rw (add_assoc at 4 24) at (case-behind bytes at x more h) in
        let read = case-read bytes at x more h (set-fits F few-facts _ (within-is F x.start good.0)) (pair_fits F few-facts x.goal good.1) in
        let turn = kind-turn s 4 24 found (omega (arith, stage.low)) (omega (arith, stage.high)) refl in
        let counted : ltb s.progress.index.cases 32 ≡ true = lt-ltb s.progress.index.cases 32 (omega (arith, stage.so_far.cased)) in
        let facts = s.progress.index.bounds.facts in
        let passed : case_consistent facts (u64_at bytes (at + 4)) (literals_at bytes (at + 4 + 8)) ≡ true =
        rw (stage.so_far.bounds, read.0, read.1) (simp (good.0, good.1)) in
        record {
          state = case_state bytes s next;
          stage =
              record {
                so_far = case-so-far bytes s t stage.so_far next x refl read;
                reads = goes (case_state bytes s next) (ask-yes _ _ _ passed ∙ ask-yes _ _ _ counted ∙ turn);
                low = omega arith;
                high = omega arith;
              };
          left = behind;
        }

    close-stops : a ≤ 5 → 5 ≤ b → drop at bytes ≡ closing → accepted (layout_of s) ≡ read_task bytes
    unfolding kind_turn by_kind close_turn length_fits
    close-stops low high h =
        let there = closing-read bytes at h in
        from-stop bytes s stage.reads _
        (ask-yes _ _ _ (eq-eqb (at + 4) (length bytes) there.1) ∙ kind-turn s 5 0 there.0 (omega (arith, stage.low)) (omega (arith, stage.high)) refl)

  weaker : {t : Task} {a b : ℕ} {s : State} (c d : ℕ) → a ≤ c → d ≤ b → Stage t a b s → Stage t c d s
  weaker c d l m stage =
      record { so_far = stage.so_far; reads = stage.reads; low = omega (arith, stage.low); high = omega (arith, stage.high) }

  -- the records of a list, one after the other: behind the first of them the kinds up to `c` may stand, and not only those up to `b`
  module _ {A : Type 0} (record_of : A → List ℕ) (total : List A) (task : List A → Task) (a b c : ℕ) (wider : b ≤ c)
      (one : (done : List A) (x : A) (rest : List A) (more : List ℕ) (s : State) → total ≡ done ++ (x ∷ rest) → Stage (task done) a b s
      → drop s.progress.at bytes ≡ record_of x ++ more → Goes (task (done ++ (x ∷ []))) a c more) where
    all_go : (left done : List A) (more : List ℕ) (s : State) → total ≡ done ++ left → Stage (task done) a c s
        → drop s.progress.at bytes ≡ flat_map record_of left ++ more → Goes (task total) a c more
    unfolding flat_map
    all_go [] done more s e stage h = rw (e, append-nil) (record { state = s; stage = stage; left = h })
    all_go (x ∷ left) done more s e stage h =
        let here = h ∙ append_assoc (record_of x) (flat_map record_of left) more in
        let g = one done x left (flat_map record_of left ++ more) s e (weaker a b (omega arith) wider stage) here in
        all_go left (done ++ (x ∷ [])) more g.state (e ∙ sym (append_snoc done x left)) g.stage g.left

    some_go : (l : List A) → total ≡ l → 1 ≤ length l → (more : List ℕ) (s : State) → Stage (task []) a b s
        → drop s.progress.at bytes ≡ flat_map record_of l ++ more → Goes (task total) a c more
    unfolding flat_map
    some_go [] e some more s stage h = absurd (omega arith)
    some_go (x ∷ left) e some more s stage h =
        let here = h ∙ append_assoc (record_of x) (flat_map record_of left) more in
        let g = one [] x left (flat_map record_of left ++ more) s e stage here in
        all_go left (x ∷ []) more g.state e g.stage g.left

  -- what is read of a file: it is accepted, with the layout of a state in which the task is read
  pub record FileRead (t : Task) : Type 0 where
    pub state : State
    pub so_far : SoFar bytes state t
    pub reads : accepted (layout_of state) ≡ read_task bytes

  module _ (t : Task) (formed : Formed t) where
    abbrev b : Bounds
    b = t.bounds

    -- its parts so far
    abbrev parts : List Action → List Preset → List Case → Task
    parts actions presets cases = record { bounds = b; actions = actions; presets = presets; cases = cases }

    bounds-go : (more : List ℕ) → bytes ≡ bounds_record b ++ more → Goes (parts [] [] []) 2 2 more
    unfolding begin no_layout header_turn kind_turn by_kind length_fits with_record
    bounds-go more h =
        let r = ranges b formed.bounds in
        let found = bounds-found bytes b more h in
        let read = bounds-read bytes b more h (omega (arith, r.steps)) in
        let behind = bounds-behind bytes b more h in
        let turn = kind-turn begin 1 6 found (omega arith) (omega arith) refl in
        let first = state_behind bytes begin 1 10 begin.offsets begin.presets in
        record {
          state = first;
          stage =
              record {
                so_far = bounds-so-far bytes b read;
                reads =
                    from_next bytes begin (from-begin bytes) first (ask-yes _ _ _ (rw read formed.bounds) ∙ turn);
                low = omega arith;
                high = omega arith;
              };
          left = behind;
        }

    few : {A : Type 0} (total done : List A) (x : A) (rest : List A) → total ≡ done ++ (x ∷ rest) → length done < length total
    few total done x rest e = omega (arith, ap length e, length-append done (x ∷ rest))

    actions-go : (more : List ℕ) (s : State) → 1 ≤ length t.actions → Stage (parts [] [] []) 2 2 s
        → drop s.progress.at bytes ≡ flat_map action_record t.actions ++ more → Goes (parts t.actions [] []) 2 4 more
    actions-go more s some stage h =
        some_go action_record t.actions (λ done. parts done [] []) 2 2 4 (omega arith)
        (λ done x rest more s e stage h.
        action-goes (parts done [] []) formed.bounds 2 2 s stage x more refl refl (omega (arith, few t.actions done x rest e, formed.few-actions))
        (every-at done x rest (rw e at formed.actions)) (omega arith) (omega arith) h)
        t.actions refl some more s stage h

    presets-go : (more : List ℕ) (s : State) → Stage (parts t.actions [] []) 3 4 s
        → drop s.progress.at bytes ≡ flat_map preset_record t.presets ++ more → Goes (parts t.actions t.presets []) 3 4 more
    presets-go more s stage h =
        all_go preset_record t.presets (λ done. parts t.actions done []) 3 4 4 (omega arith)
        (λ done x rest more s e stage h.
        let good = rw e at formed.presets in
        preset-goes (parts t.actions done []) formed.bounds 3 4 s stage x more refl (every-at done x rest good) (every_first done (x ∷ rest) good)
        (once-at done x rest (rw e at formed.once)) (omega arith) (omega arith) h)
        t.presets [] more s refl stage h

    cases-go : (more : List ℕ) (s : State) → 1 ≤ length t.cases → Stage (parts t.actions t.presets []) 4 4 s
        → drop s.progress.at bytes ≡ flat_map case_record t.cases ++ more → Goes t 4 5 more
    cases-go more s one stage h =
        some_go case_record t.cases (λ done. parts t.actions t.presets done) 4 4 5 (omega arith)
        (λ done x rest more s e stage h.
        case_goes (parts t.actions t.presets done) formed.bounds 4 4 s stage x more (omega (arith, few t.cases done x rest e, formed.few-cases))
        (every-at done x rest (rw e at formed.cases)) (omega arith) (omega arith) h)
        t.cases refl one more s stage h

    pub file-read : 1 ≤ length t.actions → 1 ≤ length t.cases → bytes ≡ task_bytes t → FileRead t
    unfolding task_bytes
    file-read some one h =
        let a = flat_map action_record t.actions in
        let p = flat_map preset_record t.presets in
        let c = flat_map case_record t.cases in
        let split : bytes ≡ bounds_record b ++ (a ++ (p ++ (c ++ closing))) = h ∙ simp append_assoc in
        let g₁ = bounds-go (a ++ (p ++ (c ++ closing))) split in
        let g₂ = actions-go (p ++ (c ++ closing)) g₁.state some g₁.stage g₁.left in
        let g₃ = presets-go (c ++ closing) g₂.state (weaker {s = g₂.state} 3 4 (omega arith) (omega arith) g₂.stage) g₂.left in
        let g₄ = cases-go closing g₃.state one (weaker {s = g₃.state} 4 4 (omega arith) (omega arith) g₃.stage) g₃.left in
        record {
          state = g₄.state;
          so_far = g₄.stage.so_far;
          reads = close-stops t formed.bounds 4 5 g₄.state g₄.stage (omega arith) (omega arith) g₄.left;
        }
