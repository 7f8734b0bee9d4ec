-- What holds of a task that passes: its bounds are in range, its counts are what question 4 admits, with at least one case, its actions and
-- cases, read where the layout says that they stand, are all there, and their pairs and sets pass question 6. A turn that goes on has asked this of its
-- record, so every state has it of what was read so far; and only the closing record, which follows a case, ends with a task that passes.
-- Assumes nothing.
use Prim.Native.Nat.{ℕ, ◌+◌, ◌*◌, ◌/◌, ◌%◌, ◌≤◌, ◌<◌}
use mathlib.Core.Path.{◌≡◌, sym}
use mathlib.Core.Bool.{Bool, true, cond}
use mathlib.Core.List.{List}
use native.Mathlib.Decide.{ℕ_discrete}
use native.Mathlib.Omega.{arith}
use lib.ListN.{length, set, get_or, length-set, length-replicate}
use lib.Seq.{get_or-set_same, get_or-set_other}
use lib.Dec.{eqb}
use borrow.Author.Tests.{ltb-true, eqb-true, eq-eqb, ne_eqb}
use Rattle.task.specs.Outcome.{state}
use Rattle.records.specs.Loop.{Turn, ask, go}
use Rattle.records.specs.Numbers.{byte_at, u16_at, u64_at}
use Rattle.records.proofs.Laws.Loop.{Keeps}
use Rattle.records.proofs.Laws.Record.{record-ends}
use Rattle.records.proofs.Laws.Tests.{both_true}
use Rattle.task.proofs.Laws.Facts.{pairs-consistent}
use Rattle.task.proofs.Laws.Instruction.{put-length}
use Rattle.task.proofs.Laws.Kept.{least, greatest, Follows, There, Kinds, IfAccepted, refused-vacuous, ask-if-accepted, reading-keeps, turn-keeps, follows}
use Rattle.task.specs.Bounds.{in_range}
use Rattle.task.specs.Facts.{literals_at, within, consistent, case_consistent, pairs_before_fault_at}
use Rattle.task.specs.Index.{action_at, effect_at, case_at}
use Rattle.task.specs.Instruction.{encode}
use Rattle.task.specs.Program.{line_offset}
use Rattle.task.specs.Reading.{State, no_index, no_layout, begin, refused, accepted, header_turn, action_turn, on_preset, preset_turn, case_turn, close_turn, read_task, turn_of, may_stand, Reading, Progress}
use Rattle.task.specs.declared.index.Index.{Index}
use Rattle.task.specs.declared.index.Layout.{Layout}
use Rattle.std.specs.Prelude.{Option, Some, None}
use Rattle.task.specs.declared.instruction.Instruction.{Instruction}
use Rattle.task.specs.Verdict.{Accepted}

-- an action whose pairs pass question 6: its precondition, and the condition and the effect of each of its effects
pub record ActionSound (facts : ℕ) (bytes : List ℕ) (at : ℕ) : Type 0 where
  pub precondition : consistent facts (action_at bytes at).precondition ≡ true
  pub condition : (e : ℕ) → e < (action_at bytes at).effects → consistent facts (effect_at bytes at e).condition ≡ true
  pub effect : (e : ℕ) → e < (action_at bytes at).effects
      → consistent facts (record { positive = (effect_at bytes at e).raised; negative = (effect_at bytes at e).lowered }) ≡ true

-- a case whose start and goal pass question 6
abbrev pub CaseSound : ℕ → List ℕ → ℕ → ℕ → Type 0
CaseSound facts bytes first c = (within facts (case_at bytes first c).start ≡ true) × (consistent facts (case_at bytes first c).goal ≡ true)

-- an action whose record is all there: its head, its precondition and its effects
abbrev pub ActionThere : List ℕ → ℕ → Type 0
ActionThere bytes at = at + (20 + 32 * (action_at bytes at).effects) ≤ length bytes

-- the layout of a task that passes
pub record Passed (bytes : List ℕ) (t : Layout) : Type 0 where
  pub bounded : in_range t.index.bounds ≡ true
  pub actions : t.index.actions ≤ 64
  pub cases : (1 ≤ t.index.cases) × (t.index.cases ≤ 32)
  pub offsets : length t.offsets ≡ 64
  pub presets : length t.presets ≡ 768
  pub action : (a : ℕ) → a < t.index.actions → ActionSound t.index.bounds.facts bytes (get_or t.offsets a 0)
  pub case : (c : ℕ) → c < t.index.cases → CaseSound t.index.bounds.facts bytes t.index.first c
  pub held : (a : ℕ) → a < t.index.actions → ActionThere bytes (get_or t.offsets a 0)
  pub cased : t.index.first + 28 * t.index.cases ≤ length bytes

-- an action of 16 + 32 * e bytes has 1 + 2 * e pairs
action-sound : (facts : ℕ) (bytes : List ℕ) (at size : ℕ) → size ≡ u16_at bytes at → size % 32 ≡ 16
    → pairs_before_fault_at facts bytes (at + 4) (size / 16) ≡ size / 16 → ActionSound facts bytes at
unfolding action_at effect_at literals_at
action-sound facts bytes at size e m h =
    let pair = pairs-consistent facts bytes (at + 4) (size / 16) h in
    record {
      precondition = pair 0 (omega arith) (at + 4) (omega arith);
      condition = λ n l. pair (1 + 2 * n) (omega arith) (at + (20 + 32 * n)) (omega arith);
      effect =
          λ n l.
          let f : at + (44 + 32 * n) ≡ at + (36 + 32 * n) + 8 = omega arith in
          rw f (pair (2 + 2 * n) (omega arith) (at + (36 + 32 * n)) (omega arith));
    }

action-there : (bytes : List ℕ) (at size : ℕ) → size ≡ u16_at bytes at → size % 32 ≡ 16 → at + (4 + size) ≤ length bytes → ActionThere bytes at
unfolding action_at
action-there bytes at size e m h = omega arith

case-sound : (facts : ℕ) (bytes : List ℕ) (at first c : ℕ) → at ≡ first + 28 * c
    → case_consistent facts (u64_at bytes (at + 4)) (literals_at bytes (at + 4 + 8)) ≡ true → CaseSound facts bytes first c
unfolding case_at case_consistent
case-sound facts bytes at first c e h =
    let s : first + (4 + 28 * c) ≡ at + 4 = omega arith in
    let g : first + (12 + 28 * c) ≡ at + 4 + 8 = omega arith in
    rw (s, g) (both_true _ _ h)

-- the first case's offset with one case more: cases that stand one behind the other still do
module _ (at first cases : ℕ) where
  abbrev noted : ℕ
  noted = cond (eqb cases 0) at first

  noted-kept : 1 ≤ cases → noted ≡ first
  noted-kept h = simp (ne_eqb cases 0 (omega arith))

  pub noted-placed : (1 ≤ cases → at ≡ first + 28 * cases) → at ≡ noted + 28 * cases
  noted-placed h =
      elim (ℕ_discrete cases 0) [
        | yes e ↦ simp (eq-eqb cases 0 e) (omega arith)
        | no n ↦ let k : 1 ≤ cases = omega arith in rw (noted-kept k) (h k)
      ]

-- what holds of so many numbers and of the next one holds of one more
one_more : (R : ℕ → Type 0) (count : ℕ) → ((k : ℕ) → k < count → R k) → R count → (k : ℕ) → k < count + 1 → R k
one_more R count before last k h = elim (ℕ_discrete k count) [ yes e ↦ rw e last | no n ↦ before k (omega arith) ]

-- the counts of a state that the reading may come to: no case before the records of kind 4 and at least one among them, the cases one
-- behind the other up to the reading's offset
pub record Counted (s : State) : Type 0 where
  pub offsets : length s.offsets ≡ 64
  pub presets : length s.presets ≡ 768
  pub actions : s.progress.index.actions ≤ 64
  pub cases : s.progress.index.cases ≤ 32
  pub none : least s.progress.last ≤ 3 → s.progress.index.cases ≡ 0
  pub some : 5 ≤ greatest s.progress.last → 1 ≤ s.progress.index.cases
  pub placed : 1 ≤ s.progress.index.cases → s.progress.at ≡ s.progress.index.first + 28 * s.progress.index.cases

-- such a state: its bounds, actions and cases, once read, are as those of a task that passes
pub record Reached (bytes : List ℕ) (s : State) : Type 0 where
  pub counted : Counted s
  pub bounded : 2 ≤ greatest s.progress.last → in_range s.progress.index.bounds ≡ true
  pub action : (a : ℕ) → a < s.progress.index.actions → ActionSound s.progress.index.bounds.facts bytes (get_or s.offsets a 0)
  pub case : (c : ℕ) → c < s.progress.index.cases → CaseSound s.progress.index.bounds.facts bytes s.progress.index.first c
  pub held : (a : ℕ) → a < s.progress.index.actions → ActionThere bytes (get_or s.offsets a 0)
  pub cased : s.progress.index.first + 28 * s.progress.index.cases ≤ length bytes

-- an index whose fields are all 0
zeros : (facts procedures last stack steps actions cases first : ℕ) → facts ≡ 0 → procedures ≡ 0 → last ≡ 0 → stack ≡ 0 → steps ≡ 0 → actions ≡ 0 → cases ≡ 0
    → first ≡ 0
    → record {
      bounds = record { facts = facts; procedures = procedures; last = last; stack = stack; steps = steps };
      actions = actions;
      cases = cases;
      first = first;
    }
    ≡ no_index
unfolding no_index
zeros facts procedures last stack steps actions cases first a b c d e f g h = rw (a, b, c, d, e, f, g, h)

pub zeros-index : (i : Index)
    → ((i.bounds.facts ≡ 0) × ((i.bounds.procedures ≡ 0) × ((i.bounds.last ≡ 0) × ((i.bounds.stack ≡ 0) × (i.bounds.steps ≡ 0)))))
    × ((i.actions ≡ 0) × ((i.cases ≡ 0) × (i.first ≡ 0)))
    → i ≡ no_index
zeros-index i h = zeros _ _ _ _ _ _ _ _ h.0.0 h.0.1.0 h.0.1.1.0 h.0.1.1.1.0 h.0.1.1.1.1 h.1.0 h.1.1.0 h.1.1.1

module _ (bytes : List ℕ) where
  pub begin-reached : Reached bytes begin
  unfolding begin no_layout no_index
  begin-reached =
      record {
        counted = omega (arith, length-replicate {A = ℕ} 64 0, length-replicate {A = ℕ} 768 0);
        bounded = λ h. absurd (omega arith);
        action = λ a h. absurd (omega arith);
        case = λ c h. absurd (omega arith);
        held = λ a h. absurd (omega arith);
        cased = omega arith;
      }

  -- a turn that goes to such a state, or whose answer has the layout of a task that passes if it accepts
  abbrev Kept : Turn State Reading → Type 0
  Kept = Keeps (Reached bytes) (IfAccepted (Passed bytes))

  ask-kept : (answer : Bool) (question place : ℕ) (rest : Turn State Reading) → (answer ≡ true → Kept rest)
      → Kept (ask answer (refused question place) rest)
  ask-kept = ask-if-accepted (Reached bytes) (Passed bytes)

  module _ (s : State) (reached : Reached bytes s) where
    header-kept : (body next : ℕ) → Kept (header_turn bytes s body next)
    unfolding header_turn
    header-kept body next =
        ask-kept _ _ _ _ λ h.
        record {
          counted = omega arith;
          bounded = λ l. h;
          action = λ a l. absurd (omega arith);
          case = λ c l. absurd (omega arith);
          held = λ a l. absurd (omega arith);
          cased = omega arith;
        }

    action-kept : (size next : ℕ) → Follows s.progress.last 2 → There bytes s 2 size → size % 32 ≡ 16
        → Kept (action_turn bytes s (s.progress.at + 4) size next)
    unfolding action_turn
    action-kept size next f stands m =
        ask-kept _ _ _ _ λ h.
        ask-kept _ _ _ _ λ k.
        let ends = record-ends bytes s.progress.at 2 _ size _ stands in
        let n = s.progress.index.actions in
        let o = s.offsets in
        let few : n < 64 = ltb-true n 64 h in
        let here = get_or-set_same o n s.progress.at 0 (omega arith) in
        record {
          counted = omega (arith, reached.counted.none (omega arith), length-set o n s.progress.at);
          bounded = λ l. reached.bounded (omega arith);
          action =
              one_more (λ (a : ℕ). ActionSound s.progress.index.bounds.facts bytes (get_or (set o n s.progress.at) a 0)) n
              (λ a l. rw (get_or-set_other o n a s.progress.at 0 (omega arith)) (reached.action a l))
              (rw here (action-sound _ bytes s.progress.at size ends.3 m (eqb-true _ _ k)));
          case = reached.case;
          held =
              one_more (λ (a : ℕ). ActionThere bytes (get_or (set o n s.progress.at) a 0)) n
              (λ a l. rw (get_or-set_other o n a s.progress.at 0 (omega arith)) (reached.held a l))
              (rw here (action-there bytes s.progress.at size ends.3 m ends.2));
          cased = reached.cased;
        }

    on-preset-kept : (body next : ℕ) → Follows s.progress.last 3 → (d : Option Instruction) → Kept (on_preset bytes s body next d)
    unfolding on_preset
    on-preset-kept body next f None = refused-vacuous (Passed bytes) _ _
    on-preset-kept body next f (Some w) =
        ask-kept _ _ _ _ λ h.
        let line = line_offset s.progress.index.bounds (record { 0 = byte_at bytes body }) (record { 0 = byte_at bytes (body + 1) }) in
        record {
          counted = omega (arith, reached.counted.none (omega arith), put-length s.presets line (encode w));
          bounded = λ l. reached.bounded (omega arith);
          action = reached.action;
          case = reached.case;
          held = reached.held;
          cased = reached.cased;
        }

    preset-kept : (body next : ℕ) → Follows s.progress.last 3 → Kept (preset_turn bytes s body next)
    unfolding preset_turn
    preset-kept body next f = on-preset-kept body next f _

    case-kept : Follows s.progress.last 4 → There bytes s 4 24 → Kept (case_turn bytes s (s.progress.at + 4) (s.progress.at + 28))
    unfolding case_turn
    case-kept f stands =
        ask-kept _ _ _ _ λ h.
        ask-kept _ _ _ _ λ k.
        let n = s.progress.index.cases in
        let few : n < 32 = ltb-true n 32 h in
        let behind = noted-placed s.progress.at s.progress.index.first n reached.counted.placed in
        record {
          counted = omega (arith, behind);
          bounded = λ l. reached.bounded (omega arith);
          action = reached.action;
          case =
              one_more (CaseSound s.progress.index.bounds.facts bytes (noted s.progress.at s.progress.index.first n)) n
              (λ c l. rw (noted-kept s.progress.at s.progress.index.first n (omega arith)) (reached.case c l))
              (case-sound _ bytes s.progress.at _ n behind k);
          held = reached.held;
          cased = omega (arith, behind, (record-ends bytes s.progress.at 4 _ 24 _ stands).2);
        }

    close-kept : (next : ℕ) → Follows s.progress.last 5 → Kept (close_turn bytes s next)
    unfolding close_turn accepted
    close-kept next f =
        ask-kept _ _ _ _ λ h v e.
        record {
          bounded = reached.bounded (omega arith);
          actions = reached.counted.actions;
          cases = (reached.counted.some (omega arith), reached.counted.cases);
          offsets = reached.counted.offsets;
          presets = reached.counted.presets;
          action = reached.action;
          case = reached.case;
          held = reached.held;
          cased = reached.cased;
        }

    kinds_kept : Kinds (Reached bytes) (IfAccepted (Passed bytes)) bytes s
    kinds_kept =
        record {
          refusal = λ question number. refused-vacuous (Passed bytes) question _;
          header = λ f r. header-kept _ _;
          action = λ size f r l m. action-kept size _ f r m;
          preset = λ f r. preset-kept _ _ f;
          case = case-kept;
          close = λ f r. close-kept _ f;
        }

-- a turn that goes on goes to such a state again
pub next-reached : (bytes : List ℕ) (s t : State) → Reached bytes s → go t ≡ turn_of bytes s → Reached bytes t
next-reached bytes s t r e = rw (sym e) at (turn-keeps (Reached bytes) (IfAccepted (Passed bytes)) bytes s (kinds_kept bytes s r))

-- the bounds are in range where any other record than the first may stand
pub next-bounded : (bytes : List ℕ) (p : Progress) (o q : List ℕ) → Reached bytes (state p o q) → (kind : ℕ) → may_stand p.last kind ≡ true → 2 ≤ kind
    → in_range p.index.bounds ≡ true
next-bounded bytes p o q reached kind h k = reached.bounded (omega (arith, (follows p.last kind h).high))

pub passed : (bytes : List ℕ) (v : ℕ) → (read_task bytes).verdict ≡ Accepted v → Passed bytes (read_task bytes).layout
passed bytes = reading-keeps (Reached bytes) (IfAccepted (Passed bytes)) bytes (begin-reached bytes) (kinds_kept bytes)
