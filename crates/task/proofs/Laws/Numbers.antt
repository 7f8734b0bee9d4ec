-- A task's answer has a number of at most 9, and a value of at most the file's length: a place is an offset of the file, since a record that passes
-- question 1 ends in it.
-- Assumes nothing.
use Prim.Native.Nat.{ℕ, ◌+◌, ◌≤◌}
use mathlib.Core.List.{List}
use native.Mathlib.Omega.{arith}
use lib.ListN.{length}
use Rattle.records.specs.Loop.{Turn}
use Rattle.records.proofs.Laws.Loop.{Keeps, ask-keeps}
use Rattle.records.proofs.Laws.Record.{record-ends}
use Rattle.task.proofs.Laws.Kept.{There, Kinds, reading-keeps}
use Rattle.task.specs.Reading.{State, begin, refused, accepted, header_turn, action_turn, on_preset, preset_turn, case_turn, close_turn, read_task, Reading}
use Rattle.task.specs.Verdict.{number_of, value_of}
use Rattle.std.specs.Prelude.{Option, Some, None}
use Rattle.task.specs.declared.instruction.Instruction.{Instruction}

module _ (bytes : List ℕ) where
  -- a reading that is still in the file, and its answer
  abbrev In : State → Type 0
  In s = s.progress.at ≤ length bytes

  abbrev Said : Reading → Type 0
  Said r = (number_of r.verdict ≤ 9) × (value_of r.verdict ≤ length bytes)

  abbrev Kept : Turn State Reading → Type 0
  Kept = Keeps In Said

  no : (question place : ℕ) → question ≤ 9 → place ≤ length bytes → Said (refused question place)
  unfolding refused
  no question place q p = (q, p)

  module _ (s : State) (here : In s) (body size next : ℕ) (ends : next ≤ length bytes) where
    header-said : Kept (header_turn bytes s body next)
    unfolding header_turn
    header-said = ask-keeps In Said _ _ _ (no _ _ (omega arith) here) (λ e. ends)

    action-said : Kept (action_turn bytes s body size next)
    unfolding action_turn
    action-said = ask-keeps In Said _ _ _ (no _ _ (omega arith) here) (λ e. ask-keeps In Said _ _ _ (no _ _ (omega arith) here) (λ f. ends))

    decoded-said : (d : Option Instruction) → Kept (on_preset bytes s body next d)
    unfolding on_preset
    decoded-said None = no _ _ (omega arith) here
    decoded-said (Some w) = ask-keeps In Said _ _ _ (no _ _ (omega arith) here) (λ e. ends)

    preset-said : Kept (preset_turn bytes s body next)
    unfolding preset_turn
    preset-said = decoded-said _

    case-said : Kept (case_turn bytes s body next)
    unfolding case_turn
    case-said = ask-keeps In Said _ _ _ (no _ _ (omega arith) here) (λ e. ask-keeps In Said _ _ _ (no _ _ (omega arith) here) (λ f. ends))

    close-said : Kept (close_turn bytes s next)
    unfolding close_turn accepted
    close-said = ask-keeps In Said _ _ _ (no _ _ (omega arith) ends) (λ e. omega arith)

  kinds-said : (s : State) → In s → Kinds In Said bytes s
  kinds-said s here =
      let ends : (kind size : ℕ) → There bytes s kind size → s.progress.at + (4 + size) ≤ length bytes
      = λ kind size r. (record-ends bytes _ kind _ size _ r).2 in
      record {
        refusal = λ question number. no question _ number here;
        header = λ f r. header-said s here _ 0 _ (ends 1 6 r);
        action = λ size f r l m. action-said s here _ size _ (ends 2 size r);
        preset = λ f r. preset-said s here _ 0 _ (ends 3 5 r);
        case = λ f r. case-said s here _ 0 _ (ends 4 24 r);
        close = λ f r. close-said s here 0 0 _ (ends 5 0 r);
      }

  pub task-said : (number_of (read_task bytes).verdict ≤ 9) × (value_of (read_task bytes).verdict ≤ length bytes)
  unfolding begin
  task-said = reading-keeps In Said bytes (omega arith) kinds-said
