-- A task file to its verdict and what it says. The records are read one after the other, each asked questions 1 to 9 in their order; the
-- first no ends the reading, with the record's offset as the place (for 9 the offset after the closing record).
use Rattle.std.specs.Prelude.{ℕ, ◌+◌, ◌-◌, ◌/◌, ◌%◌, List, Bool, cond, ◌&&◌, length, set, replicate, leb, ltb, eqb, Option, Some, None, Result, Ok, Err}
use Rattle.records.specs.Loop.{Turn, stop, go, ask, loop}
use Rattle.records.specs.Numbers.{byte_at, u64_at}
use Rattle.records.specs.Record.{record_at}
use Rattle.records.specs.declared.record.Record.{Record}
use Rattle.task.specs.Bounds.{bounds_at, between, in_range}
use Rattle.task.specs.Facts.{literals_at, case_consistent, pairs_before_fault_at}
use Rattle.task.specs.Instruction.{decode_for, encode, triple_at, with_triple}
use Rattle.task.specs.Program.{line_offset}
use Rattle.task.specs.Questions.{WHOLE, KIND, LENGTH, COUNT, BOUNDS, SETS, PRESET, REPEATED, CLOSED}
use Rattle.task.specs.declared.index.Index.{Index}
use Rattle.task.specs.declared.index.Layout.{Layout}
use Rattle.task.specs.declared.instruction.Instruction.{Instruction}
use Rattle.task.specs.declared.instruction.Line.{Line}
use Rattle.task.specs.declared.instruction.Proc.{Proc}
use Rattle.task.specs.Verdict.{Verdict, Accepted, Refused, number}
use Rattle.task.specs.declared.refusal.Refusal.{Refusal}

-- a task's verdict, and where the task stands; `no_layout` where it is turned down
pub record Reading : Type 0 where
  pub verdict : Verdict
  pub layout : Layout

-- the index of no task: all zeros
unfoldable pub no_index : Index
no_index = record { bounds = record { facts = 0; procedures = 0; last = 0; stack = 0; steps = 0 }; actions = 0; cases = 0; first = 0 }

-- the layout of no task: that index, and arrays of zeros
unfoldable pub no_layout : Layout
no_layout = record { index = no_index; offsets = replicate 64 0; presets = replicate 768 0 }

-- how far the reading is: the next record's offset, the kind of the record before it, 0 at the start, and the index so far
pub record Progress : Type 0 where
  pub at : ℕ
  pub last : ℕ
  pub index : Index

-- where the reading stands: how far it is; the actions' offsets so far, 64 places; the preset program so far, 768 bytes
pub record State : Type 0 where
  pub progress : Progress
  pub offsets : List ℕ
  pub presets : List ℕ

-- it begins at the first byte with nothing known
unfoldable pub begin : State
begin =
    record { progress = record { at = 0; last = 0; index = no_index }; offsets = no_layout.offsets; presets = no_layout.presets }

-- the answer to a task that is turned down
unfoldable pub refused : ℕ → ℕ → Reading
refused question place = record { verdict = Refused question place; layout = no_layout }

-- the answer to a task that passes
unfoldable pub accepted : Layout → Reading
accepted layout = record { verdict = Accepted 0; layout = layout }

-- one of five, by kind: 1 header, 2 action, 3 preset, 4 case, and another for any other kind
unfoldable pub by_kind : {A : Type 0} → ℕ → A → A → A → A → A → A
by_kind kind header action preset case close =
    cond (eqb kind 1) header (cond (eqb kind 2) action (cond (eqb kind 3) preset (cond (eqb kind 4) case close)))

-- question 2, by the kind of the record before: first comes 1, after a 1 comes 2; after a 2, 2, 3 or 4; after a 3, 3 or 4; after a 4, 4 or 5
unfoldable pub may_stand : ℕ → ℕ → Bool
may_stand last kind = by_kind last (eqb kind 2) (between 2 kind 4) (between 3 kind 4) (between 4 kind 5) (eqb kind 1)

-- question 3: bounds have 6 bytes, an action 16 + 32 * e with e from 0 to 8, a preset 5, a case 24, the closing record none
unfoldable pub length_fits : ℕ → ℕ → Bool
length_fits kind size = by_kind kind (eqb size 6) (leb size 272 && eqb (size % 32) 16) (eqb size 5) (eqb size 24) (eqb size 0)

-- one record of each kind, given where its body begins
module _ (bytes : List ℕ) (s : State) (body : ℕ) where
  abbrev at : ℕ
  at = s.progress.at

  abbrev index : Index
  index = s.progress.index

  -- bounds: question 5
  unfoldable pub header_turn : ℕ → Turn State Reading
  header_turn next =
      ask (in_range (bounds_at bytes body)) (refused BOUNDS at)
      (go
      (record {
        progress = record { at = next; last = 1; index = record { bounds = bounds_at bytes body; actions = 0; cases = 0; first = 0 } };
        offsets = s.offsets;
        presets = s.presets;
      }))

  -- an action, of size / 16 pairs: question 4, then 6 on every pair; its offset is noted
  unfoldable pub action_turn : ℕ → ℕ → Turn State Reading
  action_turn size next =
      ask (ltb index.actions 64) (refused COUNT at)
      (ask (eqb (pairs_before_fault_at index.bounds.facts bytes body (size / 16)) (size / 16)) (refused SETS at)
      (go
      (record {
        progress =
            record {
              at = next;
              last = 2;
              index = record { bounds = index.bounds; actions = index.actions + 1; cases = index.cases; first = index.first };
            };
        offsets = set s.offsets index.actions at;
        presets = s.presets;
      })))

  -- the procedure and the line that a preset names
  abbrev pub preset_proc : Proc
  preset_proc = record { 0 = byte_at bytes body }

  abbrev pub preset_line : Line
  preset_line = record { 0 = byte_at bytes (body + 1) }

  -- a preset whose instruction is decoded: question 7, then 8; the instruction is noted on its line
  unfoldable pub on_preset : ℕ → Option Instruction → Turn State Reading
  on_preset next None = stop (refused PRESET at)
  on_preset next (Some w) =
      ask (eqb (byte_at s.presets (line_offset index.bounds preset_proc preset_line)) 0) (refused REPEATED at)
      (go
      (record {
        progress = record { at = next; last = 3; index = index };
        offsets = s.offsets;
        presets = with_triple s.presets (line_offset index.bounds preset_proc preset_line) (encode w);
      }))

  -- a preset: procedure, line, instruction
  unfoldable pub preset_turn : ℕ → Turn State Reading
  preset_turn next = on_preset next (decode_for index.bounds index.actions preset_proc preset_line (triple_at bytes (body + 2)))

  -- a case: question 4, then 6 on its start set and its goal pair; the first case's offset is noted
  unfoldable pub case_turn : ℕ → Turn State Reading
  case_turn next =
      ask (ltb index.cases 32) (refused COUNT at)
      (ask (case_consistent index.bounds.facts (u64_at bytes body) (literals_at bytes (body + 8))) (refused SETS at)
      (go
      (record {
        progress =
            record {
              at = next;
              last = 4;
              index =
                  record {
                    bounds = index.bounds;
                    actions = index.actions;
                    cases = index.cases + 1;
                    first = cond (eqb index.cases 0) at index.first;
                  };
            };
        offsets = s.offsets;
        presets = s.presets;
      })))

-- the closing record: question 9; the layout is what was noted
unfoldable pub close_turn : List ℕ → State → ℕ → Turn State Reading
close_turn bytes s next =
    ask (eqb next (length bytes)) (refused CLOSED next)
    (stop (accepted (record { index = s.progress.index; offsets = s.offsets; presets = s.presets })))

-- what the record's kind asks; question 2 lets no other kind than 5 come to the last
unfoldable pub kind_turn : List ℕ → State → ℕ → ℕ → ℕ → ℕ → Turn State Reading
kind_turn bytes s kind body size next =
    by_kind kind
    (header_turn bytes s body next)
    (action_turn bytes s body size next)
    (preset_turn bytes s body next)
    (case_turn bytes s body next)
    (close_turn bytes s next)

-- what stands at the reading's offset: question 1, then 2 and 3, then what the kind asks
unfoldable pub on_record : List ℕ → State → Option Record → Turn State Reading
on_record bytes s None = stop (refused WHOLE s.progress.at)
on_record bytes s (Some r) =
    ask (may_stand s.progress.last r.kind) (refused KIND s.progress.at)
    (ask (length_fits r.kind r.length) (refused LENGTH s.progress.at) (kind_turn bytes s r.kind r.body r.length r.next))

-- one turn of the reading
unfoldable pub turn_of : List ℕ → State → Turn State Reading
turn_of bytes s = on_record bytes s (record_at bytes s.progress.at)

-- how many bytes are left
abbrev pub left : List ℕ → State → ℕ
left bytes s = length bytes - s.progress.at

-- a task file: its records from the first byte on. Every record has at least four bytes, so the loop never runs out of turns
unfoldable pub read_task : List ℕ → Reading
read_task bytes = loop (turn_of bytes) (left bytes) (refused WHOLE 0) begin

-- what the code's answer on a task file stands for
unfoldable pub reading : Result Layout Refusal → Reading
reading (Ok layout) = accepted layout
reading (Err r) = refused (number r.question) r.place
