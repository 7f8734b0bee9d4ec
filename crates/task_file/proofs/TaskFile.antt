-- A task file is the bytes of a task, in both directions, and bytes that are accepted are one; the bytes of a well-formed task determine it; and the preset program
-- of a file has its task's presets.
-- Assumes nothing.
use Prim.Native.Nat.{ℕ}
use mathlib.Core.Path.{◌≡◌, refl, sym, ap, ◌∙◌}
use mathlib.Core.List.{List, []}
use lib.ListN.{length}
use Rattle.records.specs.Numbers.{AreBytes}
use Rattle.records.specs.Record.{closing}
use Rattle.task.specs.Reading.{Reading, accepted, read_task}
use Rattle.task.specs.Task.{Task}
use Rattle.task.specs.TaskAt.{task_at, task_of}
use Rattle.task.specs.Verdict.{Accepted}
use Rattle.task.proofs.Laws.Bounds.{ranges}
use Rattle.task_file.specs.Bytes.{action_record, preset_record, case_record, task_bytes}
use Rattle.task_file.specs.TaskFile.{Means, TaskFile, AcceptedFile, OneTask, PresetProgram}
use Rattle.task_file.specs.WellFormed.{none, WellFormed}
use Rattle.task_file.proofs.Laws.Below.{each_below, record-below, action-below, case-below, bounds-below, preset-below}
use Rattle.task_file.proofs.Laws.Every.{every-join, every-flat, every_of, every-gives}
use Rattle.task_file.proofs.Laws.Formed.{Formed, formed-parts}
use Rattle.task_file.proofs.Laws.Read.{Meant, reading-meant}
use Rattle.task_file.proofs.Laws.SoFar.{task-there}
use Rattle.task_file.proofs.Laws.Written.{file-read}

-- what is accepted: the task that stands in it
module _ (bytes : List ℕ) (v : ℕ) (e : (read_task bytes).verdict ≡ Accepted v) where
  meant : Meant bytes (read_task bytes).layout
  meant = reading-meant bytes v e

  meant-task : meant.task ≡ task_of bytes
  unfolding task_of
  meant-task = sym meant.there

  -- it is well formed, whatever the numbers
  pub accepted-formed : WellFormed (task_of bytes)
  accepted-formed = rw meant-task at meant.formed

-- and where each is below 256, they are its file
pub accepted-file : AcceptedFile
accepted-file bytes v e below =
    record { formed = accepted-formed bytes v e; form = (meant bytes v e).form below ∙ ap task_bytes (meant-task bytes v e) }

pub preset-program : PresetProgram
preset-program bytes v e = rw (meant-task bytes v e) at (meant bytes v e).program

-- the file of a task whose parts pass has numbers below 256 alone
file-below : (t : Task) → Formed t → AreBytes (task_bytes t)
unfolding task_bytes closing
file-below t f =
    let r = ranges t.bounds f.bounds in
    let actions = every-flat action_record t.actions (every_of action-below t.actions) in
    let presets =
    every-flat preset_record t.presets (every-gives (λ p h. preset-below t.bounds (length t.actions) r f.few-actions p h) f.presets) in
    let cases = every-flat case_record t.cases (every_of case-below t.cases) in
    each_below _ (every-join (every-join (every-join (every-join (bounds-below t.bounds r) actions) presets) cases) (record-below 5 [] none))

-- the file of a well-formed task means it
file-means : (t : Task) → WellFormed t → Means (task_bytes t) t
unfolding accepted task_of
file-means t w =
    let r = file-read (task_bytes t) t (formed-parts t w) w.actions.0 w.cases.0 refl in
    record {
      below = file-below t (formed-parts t w);
      passes = sym (ap (λ (r : Reading). r.verdict) r.reads);
      same =
          ap (task_at (task_bytes t)) (sym (ap (λ (r : Reading). r.layout) r.reads))
          ∙ task-there (task_bytes t) r.state t r.so_far w.actions.0 w.cases.0;
    }

pub task-file : TaskFile
task-file bytes t = (λ m. rw m.same at (accepted-file bytes 0 m.passes m.below), λ f. rw f.form (file-means t f.formed))

pub one-task : OneTask
one-task t u v w e = sym (file-means t v).same ∙ ap task_of e ∙ (file-means u w).same
