-- One pass over an action's pairs: over the bytes of its body it counts the pairs of the action, because these are read there one behind the other. It counts
-- all exactly if every pair passes, which is what question 6, and so a well-formed task, asks of an action.
-- Assumes nothing.
use Prim.Native.Nat.{ℕ, ◌+◌, ◌*◌}
use mathlib.Core.Path.{◌≡◌, sym, ap}
use mathlib.Core.List.{List, ◌∷◌, ◌++◌}
use native.Mathlib.Omega.{arith}
use lib.ListN.{length, length-append}
use Rattle.task.specs.Task.{Action, Task}
use Rattle.task.proofs.Laws.Bounds.{ranges}
use Rattle.task_file.specs.Pairs.{FullCount, OnePass, other_actions, WellFormedActions, ActionAsked}
use Rattle.task_file.specs.WellFormed.{Every, also, WellFormed}
use Rattle.task_file.proofs.Laws.Every.{every-tail, every_first, every-last, every-join, every-gives}
use Rattle.task_file.proofs.Laws.Formed.{ActionGood, Formed, pair_fits, parts-formed, formed-parts}
use Rattle.task_file.proofs.Laws.Parts.{action-length, body-counted, body-full}
use Rattle.task_file.proofs.Laws.SoFar.{action_state}
use Rattle.task_file.proofs.Laws.Written.{action-turn}

pub one-pass : OnePass
one-pass facts a fits = record { count = body-counted facts a fits; full = body-full facts a fits }

-- a well-formed task: each of its actions, and another action in the place of one
module _ (t : Task) (w : WellFormed t) where
  abbrev F : ℕ
  F = t.bounds.facts

  formed : Formed t
  formed = formed-parts t w

  good-full : (a : Action) → ActionGood F a → FullCount F a
  good-full a good = (body-full F a (every-gives (pair_fits F (ranges t.bounds w.bounds).facts.1) good.1)).1 good.1

  module _ (front : List Action) (old new : Action) (rest : List Action) (e : t.actions ≡ front ++ (old ∷ rest)) where
    abbrev other : Task
    other = other_actions t (front ++ (new ∷ rest))

    as_many : length t.actions ≡ length other.actions
    as_many = omega (arith, ap length e, length-append front (old ∷ rest), length-append front (new ∷ rest))

    in_place : ActionGood F new → WellFormed other
    in_place good =
        let goods : Every (ActionGood F) (front ++ (old ∷ rest)) = rw e at formed.actions in
        parts-formed other
        (record {
          bounds = formed.bounds;
          few-actions = omega (arith, as_many, formed.few-actions);
          few-cases = formed.few-cases;
          actions = every-join (every_first front (old ∷ rest) goods) (also good (every-tail (every-last front (old ∷ rest) goods)));
          presets = rw as_many at formed.presets;
          once = formed.once;
          cases = formed.cases;
        })
        (omega (arith, as_many, w.actions.0))
        w.cases.0

pub well-formed-actions : WellFormedActions
well-formed-actions t w =
    record {
      each = every-gives (good-full t w) (formed t w).actions;
      another =
          λ front old new rest e few fits full.
          in_place t w front old new rest e (omega arith, (body-full t.bounds.facts new fits).0 full);
    }

pub action-asked : ActionAsked
action-asked bytes s a rest r =
    let next = s.progress.at + (4 + (16 + 32 * length a.effects)) in
    (action_state bytes s next, omega (arith, action-length a), sym (action-turn bytes s a rest r))
