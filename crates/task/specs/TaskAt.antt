-- The task that stands in the bytes of a file, where its layout says.
use Rattle.std.specs.Prelude.{ℕ, ◌+◌, ◌-◌, ◌*◌, ◌/◌, List, map, take, get_or}
use Rattle.records.specs.Numbers.{byte_at, u16_at}
use Rattle.task.specs.Index.{row_from, action_at, effects_of, case_at}
use Rattle.task.specs.Instruction.{or_empty, spelled, triple_at}
use Rattle.task.specs.Reading.{read_task}
use Rattle.task.specs.Task.{Action, Preset, Task}
use Rattle.task.specs.declared.index.Layout.{Layout}

-- the action whose record is at an offset
unfoldable pub action_of : List ℕ → ℕ → Action
action_of bytes at = record { precondition = (action_at bytes at).precondition; effects = effects_of bytes at }

-- preset number k, given the offset of the first: their records, 9 bytes with their heads, stand one behind the other
unfoldable pub preset_at : List ℕ → ℕ → ℕ → Preset
preset_at bytes first k =
    record {
      procedure = record { 0 = byte_at bytes (first + (4 + 9 * k)) };
      line = record { 0 = byte_at bytes (first + (5 + 9 * k)) };
      instruction = or_empty (spelled (triple_at bytes (first + (6 + 9 * k))));
    }

-- where the presets begin: behind the last action's record
unfoldable pub first_preset : List ℕ → Layout → ℕ
first_preset bytes l = let at = get_or l.offsets (l.index.actions - 1) 0 in at + (4 + u16_at bytes at)

-- the task that stands where a layout says: the actions at their offsets, the presets from behind them up to the first case, the cases from there on
unfoldable pub task_at : List ℕ → Layout → Task
task_at bytes l =
    record {
      bounds = l.index.bounds;
      actions = map (action_of bytes) (take l.index.actions l.offsets);
      presets = row_from (preset_at bytes (first_preset bytes l)) 0 ((l.index.first - first_preset bytes l) / 9);
      cases = row_from (case_at bytes l.index.first) 0 l.index.cases;
    }

-- the task of a file that passes; of any other, one without actions, presets and cases
unfoldable pub task_of : List ℕ → Task
task_of bytes = task_at bytes (read_task bytes).layout
