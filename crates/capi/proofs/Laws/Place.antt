-- A task's answer is a number of 32 bits, because the offsets that the reading comes to are small. Questions 4 and 8 admit 64 actions,
-- 32 cases and one preset for each of 256 lines, question 3 bounds the length of each record, and question 2 has kind 1 stand first alone.
-- So the bytes read so far, and as many as the records still admitted may have, stay within one number, turn by turn; and a file that is accepted is read to its end.
-- Assumes nothing.
use Prim.Native.Nat.{ℕ, zero, suc, ◌+◌, ◌-◌, ◌*◌, ◌^◌, ◌≤◌, ◌<◌, zero-le}
use mathlib.Core.Path.{◌≡◌, refl, ap}
use mathlib.Core.Bool.{Bool, true}
use mathlib.Core.List.{List}
use native.Mathlib.Decide.{le_ind}
use native.Mathlib.Nat.{mul-le-mul}
use native.Mathlib.Omega.{arith}
use lib.ListN.{length, replicate, length-replicate}
use borrow.Author.Tests.{ltb-true, eqb-true}
use Rattle.records.specs.Loop.{Turn, ask}
use Rattle.records.specs.Numbers.{byte_at}
use Rattle.records.proofs.Laws.Loop.{Keeps, ask-keeps}
use Rattle.task.proofs.Laws.Bounds.{ranges}
use Rattle.task.proofs.Laws.Instruction.{op-above, decoded-for, put-length}
use Rattle.task.proofs.Laws.Triple.{put-here, put_other}
use Rattle.task.proofs.Laws.Kept.{least, Kinds, reading-keeps}
use Rattle.task.proofs.Laws.Verdict.{refused-accepted}
use Rattle.task.specs.Questions.{PRESET}
use Rattle.task.specs.Bounds.{bounds_at}
use Rattle.task.specs.Instruction.{decode_for, encode, triple_at, with_triple}
use Rattle.task.specs.Program.{line_offset}
use Rattle.task.specs.Reading.{State, no_index, no_layout, begin, refused, accepted, header_turn, action_turn, on_preset, preset_turn, case_turn, close_turn, read_task, Reading}
use Rattle.task.specs.Verdict.{value_of, Accepted}
use Rattle.task.specs.declared.bounds.Bounds.{Bounds}
use Rattle.task.specs.declared.instruction.Triple.{Triple}
use Rattle.std.specs.Prelude.{Option, Some, None}
use Rattle.task.specs.declared.instruction.Instruction.{Instruction}

-- how many of the first so many lines of a preset program are not preset
free : List ℕ → ℕ → ℕ
free presets zero = 0
free presets (suc k) = free presets k + (1 - byte_at presets (3 * k))

free-most : (presets : List ℕ) (k : ℕ) → free presets k ≤ k
unfolding free
free-most presets zero = zero-le
free-most presets (suc k) = omega (arith, free-most presets k)

-- three bytes put on a line that was not preset, the first of them not zero
module _ (presets : List ℕ) (line : ℕ) (w : Triple) where
  abbrev put : List ℕ
  put = with_triple presets (3 * line) w

  op-here : 3 * line + 3 ≤ length presets → byte_at put (3 * line) ≡ w.op
  unfolding triple_at
  op-here h = ap (λ (t : Triple). t.op) (put-here presets line w h)

  op-other : (k : ℕ) → (k ≡ line → ⊥) → byte_at put (3 * k) ≡ byte_at presets (3 * k)
  unfolding triple_at
  op-other k h = ap (λ (t : Triple). t.op) (put_other presets line w k h)

  free-before : (k : ℕ) → k ≤ line → free put k ≡ free presets k
  unfolding free
  free-before zero h = refl
  free-before (suc k) h = omega (arith, free-before k (omega arith), op-other k (omega arith))

  module _ (h : 3 * line + 3 ≤ length presets) (e : byte_at presets (3 * line) ≡ 0) (f : 0 < w.op) where
    free-fewer : (k : ℕ) → line < k → suc (free put k) ≡ free presets k
    unfolding free
    free-fewer =
        le_ind (λ (k : ℕ). suc (free put k) ≡ free presets k)
        (omega (arith, free-before line (omega arith), op-here h))
        (λ k l i. omega (arith, op-other k (omega arith)))

-- a line that a preset names is one of 256
line-below : (b : Bounds) (procedure line : ℕ) → b.procedures ≤ 8 → b.last ≤ 31 → procedure < b.procedures → line ≤ b.last
    → procedure * (b.last + 1) + line < 256
line-below b procedure line p l h k = omega (arith, mul-le-mul {n₁ = procedure} {m₁ = b.last + 1} {n₂ = 7} {m₂ = 32} (omega arith) (omega arith))

-- the bytes of a header, 256 presets, 64 actions and 32 cases, each as long as it may be
abbrev most : ℕ
most = 10 + 9 * 256 + 276 * 64 + 28 * 32

-- a state that the reading may come to
record Small (s : State) : Type 0 where
  size : length s.presets ≡ 768
  procedures : s.progress.index.bounds.procedures ≤ 8
  last : s.progress.index.bounds.last ≤ 31
  first : least s.progress.last ≤ 1 → s.progress.at ≡ 0
  room : s.progress.at + 9 * free s.presets 256 + 276 * (64 - s.progress.index.actions) + 28 * (32 - s.progress.index.cases) ≤ most

begin-small : Small begin
unfolding begin no_layout no_index
begin-small =
    record {
      size = length-replicate {A = ℕ} 768 0;
      procedures = omega arith;
      last = omega arith;
      first = omega arith;
      room = omega (arith, free-most (replicate 768 0) 256);
    }

-- an answer of 32 bits; and bytes that are accepted are at most those that the records admitted have, and the closing one's
record Near (bytes : List ℕ) (r : Reading) : Type 0 where
  value : value_of r.verdict < 2 ^ 32
  size : (v : ℕ) → r.verdict ≡ Accepted v → length bytes ≤ most + 4

-- a refusal, by its place
refused-near : (bytes : List ℕ) (question place : ℕ) → place < 2 ^ 32 → Near bytes (refused question place)
unfolding refused
refused-near bytes question place h = record { value = h; size = λ v e. absurd (refused-accepted e) }

-- a turn that gives such an answer, or such a state
abbrev Good : List ℕ → Turn State Reading → Type 0
Good bytes = Keeps Small (Near bytes)

ask-good : (bytes : List ℕ) (answer : Bool) (question place : ℕ) (rest : Turn State Reading) → place < 2 ^ 32 → (answer ≡ true → Good bytes rest)
    → Good bytes (ask answer (refused question place) rest)
ask-good bytes answer question place rest h k = ask-keeps Small (Near bytes) answer _ rest (refused-near bytes question place h) k

module _ (bytes : List ℕ) (s : State) (small : Small s) where
  here : s.progress.at < 2 ^ 32
  here = omega arith

  module _ (start next : ℕ) where
    header-good : next ≡ s.progress.at + 10 → s.progress.at ≡ 0 → Good bytes (header_turn bytes s start next)
    unfolding header_turn
    header-good n z =
        ask-good bytes _ _ _ _ here λ h.
        let r = ranges (bounds_at bytes start) h in
        omega (arith, free-most s.presets 256)

    action-good : (size : ℕ) → next ≤ s.progress.at + 276 → Good bytes (action_turn bytes s start size next)
    unfolding action_turn
    action-good size n =
        ask-good bytes _ _ _ _ here λ h. ask-good bytes _ _ _ _ here λ k. omega (arith, ltb-true s.progress.index.actions 64 h)

    case-good : next ≡ s.progress.at + 28 → Good bytes (case_turn bytes s start next)
    unfolding case_turn
    case-good n =
        ask-good bytes _ _ _ _ here λ h. ask-good bytes _ _ _ _ here λ k. omega (arith, ltb-true s.progress.index.cases 32 h)

    on-preset-good : next ≡ s.progress.at + 9 → (d : Option Instruction)
        → decode_for s.progress.index.bounds s.progress.index.actions (record { 0 = byte_at bytes start }) (record { 0 = byte_at bytes (start + 1) }) (triple_at bytes (start + 2))
        ≡ d
        → Good bytes (on_preset bytes s start next d)
    unfolding on_preset line_offset
    on-preset-good n None e = refused-near bytes PRESET s.progress.at here
    on-preset-good n (Some w) e =
        ask-good bytes _ _ _ _ here λ h.
        let d = decoded-for _ _ _ _ _ w e in
        let b = s.progress.index.bounds in
        let line = byte_at bytes start * (b.last + 1) + byte_at bytes (start + 1) in
        let below = line-below b (byte_at bytes start) (byte_at bytes (start + 1)) small.procedures small.last d.procedure d.line in
        let written = op-above w d.nonempty in
        let fewer = free-fewer s.presets line (encode w) (omega arith) (eqb-true _ 0 h) written 256 below in
        omega (arith, put-length s.presets (3 * line) (encode w))

    preset-good : next ≡ s.progress.at + 9 → Good bytes (preset_turn bytes s start next)
    unfolding preset_turn
    preset-good n = on-preset-good n _ refl

  close-good : (next : ℕ) → next ≡ s.progress.at + 4 → Good bytes (close_turn bytes s next)
  unfolding close_turn accepted
  close-good next n =
      ask-good bytes _ _ _ _ (omega arith) (λ h. record { value = omega arith; size = λ v e. omega (arith, eqb-true next (length bytes) h, n, small.room) })

  kinds-good : Kinds Small (Near bytes) bytes s
  kinds-good =
      record {
        refusal = λ question number. refused-near bytes question s.progress.at here;
        header = λ f r. header-good _ _ refl (small.first f.low);
        action = λ size f r l m. action-good _ _ size (omega arith);
        preset = λ f r. preset-good _ _ refl;
        case = λ f r. case-good _ _ refl;
        close = λ f r. close-good _ refl;
      }

near : (bytes : List ℕ) → Near bytes (read_task bytes)
near bytes = reading-keeps Small (Near bytes) bytes begin-small (kinds-good bytes)

pub place-small : (bytes : List ℕ) → value_of (read_task bytes).verdict < 2 ^ 32
place-small bytes = (near bytes).value

-- a task that passes has, with 28 bytes more, fewer than 2 ^ 32
pub task-small : (bytes : List ℕ) (v : ℕ) → (read_task bytes).verdict ≡ Accepted v → length bytes + 28 < 2 ^ 32
task-small bytes v e = omega (arith, (near bytes).size v e)
