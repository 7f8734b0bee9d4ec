-- What the reading accepts is the file of a well-formed task: with every record that passes, it has read a task with this record's part too, whose rules the
-- questions have asked; and the closing record ends the file.
-- Assumes nothing.
use Prim.Native.Nat.{ℕ, ◌+◌, ◌/◌, ◌%◌, ◌≤◌, ◌<◌}
use mathlib.Core.Path.{◌≡◌, refl, sym, ap, ◌∙◌}
use mathlib.Core.Bool.{Bool, true}
use mathlib.Core.List.{List, [], ◌∷◌, ◌++◌, flat_map, append-nil, append_assoc}
use native.Mathlib.Omega.{arith}
use lib.ListN.{length, drop, length-append}
use borrow.Author.Tests.{ltb-true, eqb-true}
use Rattle.std.specs.Prelude.{Option, Some, None}
use Rattle.records.specs.Loop.{Turn, ask}
use Rattle.records.specs.Numbers.{AreBytes, byte_at, u64_at}
use Rattle.records.specs.Record.{closing}
use Rattle.records.proofs.Laws.Bytes.{closing-written}
use Rattle.records.proofs.Laws.Loop.{Keeps}
use Rattle.records.proofs.Laws.Record.{record-ends}
use Rattle.records.proofs.Laws.Tests.{both_true}
use Rattle.task.specs.Bounds.{bounds_at}
use Rattle.task.specs.Facts.{literals_at, within, consistent, case_consistent}
use Rattle.task.specs.Index.{action_at}
use Rattle.task.specs.Instruction.{or_empty, spelled, decode_for, encode, triple_at}
use Rattle.task.specs.Program.{line_offset}
use Rattle.task.specs.Outcome.{with_record}
use Rattle.task.specs.Reading.{State, Reading, by_kind, no_layout, begin, refused, accepted, header_turn, action_turn, on_preset, preset_turn, case_turn, close_turn, read_task}
use Rattle.task.specs.Task.{Action, Preset, Task, with_case}
use Rattle.task.specs.TaskAt.{action_of, task_at}
use Rattle.task.specs.Verdict.{Accepted}
use Rattle.task.specs.declared.index.Case.{Case}
use Rattle.task.specs.declared.index.Layout.{Layout}
use Rattle.task.specs.declared.instruction.Instruction.{Instruction}
use Rattle.task.specs.declared.instruction.Line.{Line}
use Rattle.task.specs.declared.instruction.Proc.{Proc}
use Rattle.task.specs.declared.instruction.Triple.{Triple}
use Rattle.task.proofs.Laws.Bounds.{line-within}
use Rattle.task.proofs.Laws.Instruction.{decoded-for}
use Rattle.task.proofs.Laws.Kept.{least, greatest, Follows, There, Kinds, IfAccepted, refused-vacuous, ask-if-accepted, reading-keeps}
use Rattle.task.proofs.Laws.Triple.{spelled-encode}
use Rattle.task_file.specs.Bytes.{bounds_record, action_record, preset_record, case_record, task_bytes}
use Rattle.task_file.specs.TaskFile.{HoldsPresets}
use Rattle.task_file.specs.WellFormed.{none, Once, WellFormed}
use Rattle.task_file.proofs.Laws.Formed.{Formed, line-most, parts-formed}
use Rattle.task_file.proofs.Laws.Every.{every_more, every-gives, once_more}
use Rattle.task_file.proofs.Laws.Rows.{flat-more}
use Rattle.task_file.proofs.Laws.Parts.{action-length, pairs-asked, effects-count, action-written, preset-written, case-written, bounds-written}
use Rattle.task_file.proofs.Laws.Presets.{free-apart, on-number, held-presets}
use Rattle.task_file.proofs.Laws.SoFar.{SoFar, bounds_alone, with_action, with_preset, bounds-so-far, action-so-far, preset-so-far, case-so-far, task-there}

-- the records of a task's parts, without the closing one
records_of : Task → List ℕ
records_of t = bounds_record t.bounds ++ flat_map action_record t.actions ++ flat_map preset_record t.presets ++ flat_map case_record t.cases

-- a part is added behind all others
action-last : (t : Task) (a : Action) → t.presets ≡ [] → t.cases ≡ [] → records_of (with_action t a) ≡ records_of t ++ action_record a
unfolding records_of flat_map
action-last t a p c = rw (p, c, flat-more action_record t.actions a) (simp (append-nil, append_assoc))

preset-last : (t : Task) (p : Preset) → t.cases ≡ [] → records_of (with_preset t p) ≡ records_of t ++ preset_record p
unfolding records_of flat_map
preset-last t p c = rw (c, flat-more preset_record t.presets p) (simp (append-nil, append_assoc))

case-last : (t : Task) (c : Case) → records_of (with_case t c) ≡ records_of t ++ case_record c
unfolding records_of
case-last t c = rw (flat-more case_record t.cases c) (simp append_assoc)

-- so the file of a task with a case added last has the case's record before the closing one
pub case-added : (t : Task) (c : Case)
    → (records : List ℕ) × (task_bytes t ≡ records ++ closing) × (task_bytes (with_case t c) ≡ records ++ (case_record c ++ closing))
unfolding task_bytes records_of
case-added t c = (records_of t, refl, ap (λ (l : List ℕ). l ++ closing) (case-last t c) ∙ append_assoc (records_of t) (case_record c) closing)

module _ (bytes : List ℕ) where
  -- the reading has read a task whose parts pass; by the kind of its last record, which parts there may be
  record With (s : State) (t : Task) : Type 0 where
    so_far : SoFar bytes s t
    formed : Formed t
    form : AreBytes bytes → bytes ≡ records_of t ++ drop s.progress.at bytes
    begun : 2 ≤ least s.progress.last
    presets : least s.progress.last ≤ 2 → t.presets ≡ []
    cases : least s.progress.last ≤ 3 → t.cases ≡ []
    some : 3 ≤ greatest s.progress.last → 1 ≤ length t.actions
    one : 5 ≤ greatest s.progress.last → 1 ≤ length t.cases

  -- a state that it comes to
  data Come (s : State) : Type 0 where
    starts : s ≡ begin → Come s
    reads : (t : Task) → With s t → Come s

  -- what an answer that accepts has: a well-formed task, which stands where the layout says, and whose presets are in the preset program; and where each number
  -- is below 256, they are its file
  pub record Meant (l : Layout) : Type 0 where
    pub task : Task
    pub formed : WellFormed task
    pub there : task_at bytes l ≡ task
    pub program : HoldsPresets task.bounds task.presets l.presets
    pub form : AreBytes bytes → bytes ≡ task_bytes task

  -- a turn that goes to such a state, or whose answer has such a task if it accepts
  abbrev Kept : Turn State Reading → Type 0
  Kept = Keeps Come (IfAccepted Meant)

  ask-kept : (answer : Bool) (question place : ℕ) (rest : Turn State Reading) → (answer ≡ true → Kept rest)
      → Kept (ask answer (refused question place) rest)
  ask-kept = ask-if-accepted Come Meant

  -- the bounds come first
  header-kept : There bytes begin 1 6 → Kept (header_turn bytes begin 4 10)
  unfolding header_turn begin no_layout records_of flat_map with_record by_kind Once
  header-kept r =
      ask-kept _ _ _ _ λ h.
      reads (bounds_alone (bounds_at bytes 4))
      (record {
        so_far = bounds-so-far bytes (bounds_at bytes 4) refl;
        formed =
            record {
              bounds = h;
              few-actions = omega arith;
              few-cases = omega arith;
              actions = none;
              presets = none;
              once = tt;
              cases = none;
            };
        form = λ are. bounds-written bytes are r ∙ simp append-nil;
        begun = omega arith;
        presets = λ l. refl;
        cases = λ l. refl;
        some = λ l. absurd (omega arith);
        one = λ l. absurd (omega arith);
      })

  module _ (s : State) (t : Task) (w : With s t) where
    abbrev at : ℕ
    at = s.progress.at

    -- the records with one more
    more-form : (u : Task) (next : ℕ) (r : List ℕ) → records_of u ≡ records_of t ++ r → AreBytes bytes → drop at bytes ≡ r ++ drop next bytes
        → bytes ≡ records_of u ++ drop next bytes
    more-form u next r e are h = rw e (cc (w.form are, h, append_assoc (records_of t) r (drop next bytes)))

    action-kept : (size : ℕ) → Follows s.progress.last 2 → There bytes s 2 size → size ≤ 272 → size % 32 ≡ 16
        → Kept (action_turn bytes s (at + 4) size (at + (4 + size)))
    unfolding action_turn action_at with_record by_kind
    action-kept size f r few m =
        ask-kept _ _ _ _ λ h.
        ask-kept _ _ _ _ λ k.
        let a = action_of bytes at in
        let p = w.presets f.low in
        let c = w.cases (omega (arith, f.low)) in
        let read = (record-ends bytes at 2 _ size _ r).3 in
        let count = effects-count bytes at in
        let free : length t.actions < 64 = omega (arith, ltb-true s.progress.index.actions 64 h, w.so_far.counted) in
        let good = (pairs-asked bytes at s.progress.index.bounds.facts (size / 16) (omega arith)).0 (eqb-true _ _ k) in
        let more = length-append t.actions (a ∷ []) in
        reads (with_action t a)
        (record {
          so_far = action-so-far bytes s t w.so_far (at + (4 + size)) a p c free refl (omega (arith, action-length a)) (omega arith);
          form = λ are. more-form (with_action t a) (at + (4 + size)) (action_record a) (action-last t a p c) are (action-written bytes are at size r m);
          formed =
              record {
                bounds = w.formed.bounds;
                few-actions = omega arith;
                few-cases = w.formed.few-cases;
                actions = every_more w.formed.actions (omega arith, rw w.so_far.bounds at good);
                presets = rw p none;
                once = w.formed.once;
                cases = w.formed.cases;
              };
          begun = omega arith;
          presets = λ l. p;
          cases = λ l. c;
          some = λ l. omega arith;
          one = λ l. absurd (omega arith);
        })

    -- the preset that stands at the offset, if its instruction is decoded
    abbrev procedure : Proc
    procedure = record { 0 = byte_at bytes (at + 4) }

    abbrev line : Line
    line = record { 0 = byte_at bytes (at + 4 + 1) }

    abbrev triple : Triple
    triple = triple_at bytes (at + 4 + 2)

    on-preset-kept : Follows s.progress.last 3 → There bytes s 3 5 → (d : Option Instruction)
        → decode_for s.progress.index.bounds s.progress.index.actions procedure line triple ≡ d → Kept (on_preset bytes s (at + 4) (at + 9) d)
    unfolding on_preset line_offset encode with_record by_kind
    on-preset-kept f r None e = refused-vacuous Meant _ _
    on-preset-kept f r (Some v) e =
        ask-kept _ _ _ _ λ h.
        let b = t.bounds in
        let p : Preset = record { procedure = procedure; line = line; instruction = v } in
        let c = w.cases f.low in
        let d = decoded-for b (length t.actions) procedure line triple v (rw (w.so_far.bounds, w.so_far.counted) at e) in
        let nonempty = every-gives (λ (q : Preset) g. g.nonempty) w.formed.presets in
        let free = eqb-true (byte_at s.presets (line_offset b procedure line)) 0 (rw w.so_far.bounds at h) in
        let apart = free-apart b t.presets s.presets w.so_far.program p nonempty free in
        reads (with_preset t p)
        (record {
          so_far =
              preset-so-far bytes s t w.so_far (at + 9) p c apart (line-within b procedure line w.formed.bounds d.procedure d.line) refl
              (refl, refl, ap (λ (x : Triple). or_empty (spelled x)) (sym d.encodes) ∙ ap or_empty (spelled-encode v));
          form = λ are. more-form (with_preset t p) (at + 9) (preset_record p) (preset-last t p c) are (preset-written bytes are at v r (sym d.encodes));
          formed =
              record {
                bounds = w.formed.bounds;
                few-actions = w.formed.few-actions;
                few-cases = w.formed.few-cases;
                actions = w.formed.actions;
                presets =
                    every_more w.formed.presets
                    (record {
                      procedure = d.procedure;
                      line = d.allowed;
                      nonempty = d.nonempty;
                    });
                once = once_more t.presets p w.formed.once (every-gives (λ q n on. n (on-number b procedure line q on)) apart);
                cases = w.formed.cases;
              };
          begun = omega arith;
          presets = λ l. absurd (omega arith);
          cases = λ l. c;
          some = λ l. w.some (omega (arith, f.high));
          one = λ l. absurd (omega arith);
        })

    preset-kept : Follows s.progress.last 3 → There bytes s 3 5 → Kept (preset_turn bytes s (at + 4) (at + 9))
    unfolding preset_turn
    preset-kept f r = on-preset-kept f r _ refl

    case-kept : Follows s.progress.last 4 → There bytes s 4 24 → Kept (case_turn bytes s (at + 4) (at + 28))
    unfolding case_turn case_consistent with_record by_kind
    case-kept f r =
        ask-kept _ _ _ _ λ h.
        ask-kept _ _ _ _ λ k.
        let c : Case = record { start = u64_at bytes (at + 4); goal = literals_at bytes (at + 4 + 8) } in
        let more = length-append t.cases (c ∷ []) in
        let good = both_true (within t.bounds.facts c.start) (consistent t.bounds.facts c.goal) (rw w.so_far.bounds at k) in
        let free : length t.cases < 32 = omega (arith, ltb-true s.progress.index.cases 32 h, w.so_far.cased) in
        reads (with_case t c)
        (record {
          so_far = case-so-far bytes s t w.so_far (at + 28) c refl (refl, refl);
          form = λ are. more-form (with_case t c) (at + 28) (case_record c) (case-last t c) are (case-written bytes are at r);
          formed =
              record {
                bounds = w.formed.bounds;
                few-actions = w.formed.few-actions;
                few-cases = omega arith;
                actions = w.formed.actions;
                presets = w.formed.presets;
                once = w.formed.once;
                cases = every_more w.formed.cases good;
              };
          begun = omega arith;
          presets = λ l. absurd (omega arith);
          cases = λ l. absurd (omega arith);
          some = λ l. w.some (omega (arith, f.high));
          one = λ l. omega arith;
        })

    close-kept : Follows s.progress.last 5 → There bytes s 5 0 → Kept (close_turn bytes s (at + 4))
    unfolding close_turn accepted records_of task_bytes
    close-kept f r =
        ask-kept _ _ _ _ λ h v e.
        let some = w.some (omega (arith, f.high)) in
        let one = w.one f.high in
        let lines = every-gives (line-most t.bounds (length t.actions)) w.formed.presets in
        record {
          task = t;
          formed = parts-formed t w.formed some one;
          there = task-there bytes s t w.so_far some one;
          program = held-presets t.bounds t.presets s.presets w.so_far.program lines;
          form = λ are. w.form are ∙ ap (λ (l : List ℕ). records_of t ++ l) (closing-written bytes at _ _ r (λ k l. are (at + k)) (eqb-true _ _ h));
        }

  kinds_kept : (s : State) → Come s → Kinds Come (IfAccepted Meant) bytes s
  unfolding begin
  kinds_kept s (starts e) =
      rw e (record {
        refusal = λ question number. refused-vacuous Meant question _;
        header = λ f r. header-kept r;
        action = λ size f r l m. absurd (omega (arith, f.high));
        preset = λ f r. absurd (omega (arith, f.high));
        case = λ f r. absurd (omega (arith, f.high));
        close = λ f r. absurd (omega (arith, f.high));
      })
  kinds_kept s (reads t w) =
      record {
        refusal = λ question number. refused-vacuous Meant question _;
        header = λ f r. absurd (omega (arith, f.low, w.begun));
        action = λ size f r l m. action-kept s t w size f r l m;
        preset = λ f r. preset-kept s t w f r;
        case = λ f r. case-kept s t w f r;
        close = λ f r. close-kept s t w f r;
      }

  pub reading-meant : (v : ℕ) → (read_task bytes).verdict ≡ Accepted v → Meant (read_task bytes).layout
  reading-meant = reading-keeps Come (IfAccepted Meant) bytes (starts refl) kinds_kept
