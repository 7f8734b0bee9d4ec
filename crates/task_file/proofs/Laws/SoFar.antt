-- What the reading has when it has read the records of a task so far: its offset is behind them, their parts stand where it noted them, and its preset program
-- holds the presets. One record more, and it has the task with this part too; and with all of them, the task that stands where the layout says is this task.
-- Assumes nothing.
use Prim.Native.Nat.{ℕ, ◌+◌, ◌-◌, ◌*◌, ◌/◌, ◌≤◌, ◌<◌}
use mathlib.Core.Path.{◌≡◌, refl, sym, ap, ◌∙◌}
use mathlib.Core.List.{List, [], ◌∷◌, ◌++◌, map, flat_map, map-append}
use native.Mathlib.Numerals.{add-one}
use native.Mathlib.Omega.{arith}
use lib.ListN.{length, take, set, length-append, length-set, length-replicate}
use lib.Seq.{take-suc-set, get_or-set_same}
use Rattle.records.specs.Numbers.{byte_at, u16_at, u64_at}
use Rattle.task.specs.Bounds.{bounds_at}
use Rattle.task.specs.Facts.{literals_at}
use Rattle.task.specs.Index.{row_from, case_at}
use Rattle.task.specs.Instruction.{or_empty, spelled, encode, triple_at, with_triple}
use Rattle.task.specs.Program.{line_offset}
use Rattle.task.specs.Outcome.{state, with_record}
use Rattle.task.specs.Reading.{State, begin, by_kind, no_layout}
use Rattle.task.specs.Task.{Action, Preset, Task, with_case}
use Rattle.task.specs.TaskAt.{action_of, preset_at, first_preset, task_at}
use Rattle.task.specs.declared.bounds.Bounds.{Bounds}
use Rattle.task.specs.declared.index.Case.{Case}
use Rattle.task.specs.declared.index.Layout.{Layout}
use Rattle.task.proofs.Laws.Instruction.{put-length}
use Rattle.task.proofs.Laws.Passed.{noted-placed}
use Rattle.task_file.specs.Bytes.{action_record}
use Rattle.task_file.proofs.Laws.Rows.{flat-more, row-grows}
use Rattle.task_file.proofs.Laws.Presets.{preset_number, HeldByNumber, Apart, none-held, one-held}

-- where the presets begin, and where the cases do: the bounds' record has 10 bytes, a preset's 9 and a case's 28
abbrev pub behind_actions : Task → ℕ
behind_actions t = 10 + length (flat_map action_record t.actions)

abbrev pub behind_presets : Task → ℕ
behind_presets t = behind_actions t + 9 * length t.presets

-- the layout of what was read
abbrev pub layout_of : State → Layout
layout_of s = record { index = s.progress.index; offsets = s.offsets; presets = s.presets }

pub record SoFar (bytes : List ℕ) (s : State) (t : Task) : Type 0 where
  -- the reading is behind the task's records, and the index counts its parts
  pub at : s.progress.at ≡ behind_presets t + 28 * length t.cases
  pub bounds : s.progress.index.bounds ≡ t.bounds
  pub counted : s.progress.index.actions ≡ length t.actions
  pub cased : s.progress.index.cases ≡ length t.cases
  -- its parts stand where the layout says
  pub room : length s.offsets ≡ 64
  pub actions : map (action_of bytes) (take s.progress.index.actions s.offsets) ≡ t.actions
  pub ends : 1 ≤ length t.actions → first_preset bytes (layout_of s) ≡ behind_actions t
  pub presets : row_from (preset_at bytes (behind_actions t)) 0 (length t.presets) ≡ t.presets
  pub first : 1 ≤ length t.cases → s.progress.index.first ≡ behind_presets t
  pub cases : row_from (case_at bytes (behind_presets t)) 0 (length t.cases) ≡ t.cases
  -- and the preset program holds its presets
  pub space : length s.presets ≡ 768
  pub program : HeldByNumber t.bounds t.presets s.presets

-- a task of bounds alone, and one with a part more
abbrev pub bounds_alone : Bounds → Task
bounds_alone b = record { bounds = b; actions = []; presets = []; cases = [] }

abbrev pub with_action : Task → Action → Task
with_action t a = record { bounds = t.bounds; actions = t.actions ++ (a ∷ []); presets = t.presets; cases = t.cases }

abbrev pub with_preset : Task → Preset → Task
with_preset t p = record { bounds = t.bounds; actions = t.actions; presets = t.presets ++ (p ∷ []); cases = t.cases }

-- the state behind a record of a kind, with the arrays as they are then
abbrev pub state_behind : List ℕ → State → ℕ → ℕ → List ℕ → List ℕ → State
state_behind bytes s kind next offsets presets =
    state (record { at = next; last = kind; index = with_record bytes s.progress.index kind s.progress.at (s.progress.at + 4) }) offsets presets

abbrev pub action_state : List ℕ → State → ℕ → State
action_state bytes s next = state_behind bytes s 2 next (set s.offsets s.progress.index.actions s.progress.at) s.presets

abbrev pub preset_state : List ℕ → State → ℕ → Preset → State
preset_state bytes s next p =
    state_behind bytes s 3 next s.offsets (with_triple s.presets (line_offset s.progress.index.bounds p.procedure p.line) (encode p.instruction))

abbrev pub case_state : List ℕ → State → ℕ → State
case_state bytes s next = state_behind bytes s 4 next s.offsets s.presets

-- the bounds are read
pub bounds-so-far : (bytes : List ℕ) (b : Bounds) → bounds_at bytes 4 ≡ b → SoFar bytes (state_behind bytes begin 1 10 begin.offsets begin.presets) (bounds_alone b)
unfolding flat_map row_from with_record by_kind begin no_layout
bounds-so-far bytes b e =
    record {
      at = refl;
      bounds = e;
      counted = refl;
      cased = refl;
      room = length-replicate {A = ℕ} 64 0;
      actions = refl;
      ends = λ k. absurd (omega arith);
      presets = refl;
      first = λ k. absurd (omega arith);
      cases = refl;
      space = length-replicate {A = ℕ} 768 0;
      program = none-held b;
    }

module _ (bytes : List ℕ) (s : State) (t : Task) (so_far : SoFar bytes s t) (next : ℕ) where
  abbrev at : ℕ
  at = s.progress.at

  -- one action more is read
  module _ (a : Action) (p : t.presets ≡ []) (c : t.cases ≡ []) (few : length t.actions < 64) (read : action_of bytes at ≡ a)
      (n : next ≡ at + length (action_record a)) (m : next ≡ at + (4 + u16_at bytes at)) where
    pub action-so-far : SoFar bytes (action_state bytes s next) (with_action t a)
    unfolding first_preset row_from with_record by_kind
    action-so-far =
        let i = s.progress.index in
        let o = s.offsets in
        let there : i.actions < length o = omega (arith, so_far.counted, so_far.room) in
        let last : i.actions + 1 - 1 ≡ i.actions = omega arith in
        let no-preset = ap (λ (l : List Preset). length l) p in
        let no-case = ap (λ (l : List Case). length l) c in
        let size = ap length (flat-more action_record t.actions a) ∙ length-append (flat_map action_record t.actions) (action_record a) in
        let behind : next ≡ behind_actions (with_action t a) = omega (arith, so_far.at) in
        record {
          at = omega (arith, behind);
          bounds = so_far.bounds;
          counted = omega (arith, so_far.counted, length-append t.actions (a ∷ []));
          cased = so_far.cased;
          room = length-set o i.actions at ∙ so_far.room;
          actions =
              rw (add-one i.actions, take-suc-set o i.actions at there, map-append (action_of bytes) (take i.actions o) (at ∷ []))
              (cc (so_far.actions, read));
          ends = λ k. rw (last, get_or-set_same o i.actions at 0 there) (sym m ∙ behind);
          presets = rw p refl;
          first = λ k. absurd (omega (arith, k));
          cases = rw c refl;
          space = so_far.space;
          program = so_far.program;
        }

  -- one preset more is read, on a line that none before it names
  module _ (p : Preset) (c : t.cases ≡ []) (apart : Apart t.bounds t.presets s.presets so_far.program p)
      (inside : 3 * preset_number t.bounds p + 3 ≤ 768) (n : next ≡ at + 9)
      (read : (byte_at bytes (at + 4) ≡ p.procedure.0) × (byte_at bytes (at + 4 + 1) ≡ p.line.0)
      × (or_empty (spelled (triple_at bytes (at + 4 + 2))) ≡ p.instruction)) where
    preset-there : preset_at bytes (behind_actions t) (length t.presets) ≡ p
    unfolding preset_at
    preset-there =
        let first = behind_actions t in
        let k = length t.presets in
        let no-case = ap (λ (l : List Case). length l) c in
        let a : first + (4 + 9 * k) ≡ at + 4 = omega (arith, so_far.at) in
        let b : first + (5 + 9 * k) ≡ at + 4 + 1 = omega (arith, so_far.at) in
        let w : first + (6 + 9 * k) ≡ at + 4 + 2 = omega (arith, so_far.at) in
        let procedure : byte_at bytes (first + (4 + 9 * k)) ≡ p.procedure.0 = rw a read.0 in
        let line : byte_at bytes (first + (5 + 9 * k)) ≡ p.line.0 = rw b read.1 in
        let instruction : or_empty (spelled (triple_at bytes (first + (6 + 9 * k)))) ≡ p.instruction = rw w read.2 in
        λ i. record { procedure = record { 0 = procedure i }; line = record { 0 = line i }; instruction = instruction i }

    pub preset-so-far : SoFar bytes (preset_state bytes s next p) (with_preset t p)
    unfolding first_preset row_from with_record by_kind
    preset-so-far =
        let no-case = ap (λ (l : List Case). length l) c in
        let count : length (t.presets ++ (p ∷ [])) ≡ length t.presets + 1 = length-append t.presets (p ∷ []) in
        record {
          at = omega (arith, so_far.at);
          bounds = so_far.bounds;
          counted = so_far.counted;
          cased = so_far.cased;
          room = so_far.room;
          actions = so_far.actions;
          ends = so_far.ends;
          presets = row-grows (preset_at bytes (behind_actions t)) t.presets p so_far.presets preset-there;
          first = λ k. absurd (omega (arith, k));
          cases = rw c refl;
          space = put-length s.presets _ (encode p.instruction) ∙ so_far.space;
          program = rw so_far.bounds (one-held t.bounds t.presets s.presets so_far.program p (omega (arith, so_far.space)) apart);
        }

  -- one case more is read
  module _ (c : Case) (n : next ≡ at + 28) (read : (u64_at bytes (at + 4) ≡ c.start) × (literals_at bytes (at + 4 + 8) ≡ c.goal)) where
    case-there : case_at bytes (behind_presets t) (length t.cases) ≡ c
    unfolding case_at
    case-there =
        let first = behind_presets t in
        let k = length t.cases in
        let a : first + (4 + 28 * k) ≡ at + 4 = omega (arith, so_far.at) in
        let b : first + (12 + 28 * k) ≡ at + 4 + 8 = omega (arith, so_far.at) in
        let start : u64_at bytes (first + (4 + 28 * k)) ≡ c.start = rw a read.0 in
        let goal : literals_at bytes (first + (12 + 28 * k)) ≡ c.goal = rw b read.1 in
        λ i. record { start = start i; goal = goal i }

    pub case-so-far : SoFar bytes (case_state bytes s next) (with_case t c)
    unfolding first_preset with_record by_kind
    case-so-far =
        let count : length (t.cases ++ (c ∷ [])) ≡ length t.cases + 1 = length-append t.cases (c ∷ []) in
        let placed : 1 ≤ s.progress.index.cases → at ≡ s.progress.index.first + 28 * s.progress.index.cases =
        λ some. omega (arith, so_far.first (omega (arith, so_far.cased)), so_far.at, so_far.cased) in
        record {
          at = omega (arith, so_far.at);
          bounds = so_far.bounds;
          counted = so_far.counted;
          cased = omega (arith, so_far.cased);
          room = so_far.room;
          actions = so_far.actions;
          ends = so_far.ends;
          presets = so_far.presets;
          first = λ k. omega (arith, noted-placed at s.progress.index.first s.progress.index.cases placed, so_far.at, so_far.cased);
          cases = row-grows (case_at bytes (behind_presets t)) t.cases c so_far.cases case-there;
          space = so_far.space;
          program = so_far.program;
        }

-- with all records read, the task that stands where the layout says
pub task-there : (bytes : List ℕ) (s : State) (t : Task) → SoFar bytes s t → 1 ≤ length t.actions → 1 ≤ length t.cases → task_at bytes (layout_of s) ≡ t
unfolding task_at
task-there bytes s t so_far some one =
    let first = so_far.first one in
    let ends = so_far.ends some in
    let count : (s.progress.index.first - first_preset bytes (layout_of s)) / 9 ≡ length t.presets = omega (arith, first, ends) in
    let p : row_from (preset_at bytes (first_preset bytes (layout_of s))) 0 ((s.progress.index.first - first_preset bytes (layout_of s)) / 9) ≡ t.presets =
    rw (count, ends) so_far.presets in
    let c : row_from (case_at bytes s.progress.index.first) 0 s.progress.index.cases ≡ t.cases = rw (so_far.cased, first) so_far.cases in
    λ i. record { bounds = so_far.bounds i; actions = so_far.actions i; presets = p i; cases = c i }
