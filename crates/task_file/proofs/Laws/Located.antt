-- The parts of the task that an accepted file means, each by its number: action a, its effect e and case c are what is read at their offsets.
-- Assumes nothing.
use Prim.Native.Nat.{ℕ, ◌<◌}
use mathlib.Core.Path.{◌≡◌, refl, ap, ◌∙◌}
use mathlib.Core.List.{List}
use native.Mathlib.Omega.{arith}
use lib.ListN.{length, take, get_or, length-map}
use lib.Seq.{get_or-take, length-take-le}
use Rattle.std.proofs.lemmas.List.{get_or-map}
use Rattle.task.specs.Index.{action_at, effect_at, effects_of, case_at}
use Rattle.task.specs.Reading.{read_task}
use Rattle.task.specs.Task.{Action}
use Rattle.task.specs.TaskAt.{action_of, task_at, task_of}
use Rattle.task.specs.Verdict.{Accepted}
use Rattle.task.specs.declared.index.Case.{Case}
use Rattle.task.specs.declared.index.Effect.{Effect}
use Rattle.task.specs.declared.index.Layout.{Layout}
use Rattle.task.proofs.Laws.Passed.{passed}
use Rattle.task_file.proofs.Laws.Rows.{row-length, row_at}
use Rattle.task_file.proofs.Laws.Parts.{effects-count}

pub bounds-located : (bytes : List ℕ) → (task_of bytes).bounds ≡ (read_task bytes).layout.index.bounds
unfolding task_of task_at
bounds-located bytes = refl

-- the actions of a file that is accepted, and their effects
module _ (bytes : List ℕ) (v : ℕ) (accepted : (read_task bytes).verdict ≡ Accepted v) where
  abbrev l : Layout
  l = (read_task bytes).layout

  actions-noted : length (take l.index.actions l.offsets) ≡ l.index.actions
  actions-noted =
      let p = passed bytes v accepted in
      length-take-le l.index.actions l.offsets (omega (arith, p.actions, p.offsets))

  pub actions-counted : length (task_of bytes).actions ≡ l.index.actions
  unfolding task_of task_at
  actions-counted = length-map (take l.index.actions l.offsets) (action_of bytes) ∙ actions-noted

  pub action-located : (a : ℕ) → a < l.index.actions → (d : Action) → get_or (task_of bytes).actions a d ≡ action_of bytes (get_or l.offsets a 0)
  unfolding task_of task_at
  action-located a h d =
      get_or-map (action_of bytes) (take l.index.actions l.offsets) a 0 d (omega (arith, actions-noted))
      ∙ ap (action_of bytes) (get_or-take l.index.actions l.offsets a 0 h)

  module _ (a : ℕ) (h : a < l.index.actions) (d : Action) where
    abbrev at : ℕ
    at = get_or l.offsets a 0

    pub effects-counted : length (get_or (task_of bytes).actions a d).effects ≡ (action_at bytes at).effects
    effects-counted = rw (action-located a h d) (effects-count bytes at)

    pub effect-located : (e : ℕ) → e < (action_at bytes at).effects → (x : Effect) → get_or (get_or (task_of bytes).actions a d).effects e x ≡ effect_at bytes at e
    unfolding action_of effects_of
    effect-located e k x =
        rw (action-located a h d) (row_at (effect_at bytes at) 0 (action_at bytes at).effects e x k ∙ ap (effect_at bytes at) (omega arith))

-- its cases
pub cases-counted : (bytes : List ℕ) → length (task_of bytes).cases ≡ (read_task bytes).layout.index.cases
unfolding task_of task_at
cases-counted bytes = row-length (case_at bytes (read_task bytes).layout.index.first) 0 (read_task bytes).layout.index.cases

pub case-located : (bytes : List ℕ) (c : ℕ) → c < (read_task bytes).layout.index.cases → (d : Case)
    → get_or (task_of bytes).cases c d ≡ case_at bytes (read_task bytes).layout.index.first c
unfolding task_of task_at
case-located bytes c h d =
    let first = (read_task bytes).layout.index.first in
    row_at (case_at bytes first) 0 (read_task bytes).layout.index.cases c d h ∙ ap (case_at bytes first) (omega arith)
