-- `capi::pp_check_task` meets its contract: a task's value is 0, and a refusal's place is small.
-- Assumes nothing.
use Prim.Native.Nat.{ℕ}
use mathlib.Core.Path.{◌≡◌, ap}
use Rattle.std.specs.Prelude.{Result, Ok, Err}
use Rattle.std.specs.Result.{MatchResult, IsOkAnd}
use Rattle.std.proofs.Common.{rules}
use Rattle.task.specs.Reading.{reading, accepted, refused}
use Rattle.task.specs.Verdict.{Accepted, verdict}
use Rattle.task.specs.declared.index.Layout.{Layout}
use Rattle.task.specs.declared.refusal.Refusal.{Refusal}
use Rattle.capi.proofs.Laws.Place.{place-small}
use Rattle.capi.proofs.pp_check_task.Goals as goal

-- the answer with 0 in place of the layout
with_zero : (r : Result Layout Refusal) (z : Result ℕ Refusal)
    → MatchResult r (λ layout. IsOkAnd z (λ value. value ≡ 0)) (λ refusal. z ≡ Err refusal) → verdict z ≡ (reading r).verdict
unfolding reading accepted refused
with_zero (Ok layout) (Ok value) h = ap Accepted h
with_zero (Ok layout) (Err refusal) h = absurd h
with_zero (Err refusal) z h = ap verdict h

pub packed-requires : goal.packed-requires
packed-requires c =
    let e : verdict c.map.result ≡ (reading c.read_task.result).verdict = search (rules, with_zero) in
    rw (e, c.read_task.ensures) (place-small _)

pub returns : goal.returns
returns c =
    let e : verdict c.map.result ≡ (reading c.read_task.result).verdict = search (rules, with_zero) in
    rw (← c.read_task.ensures, ← e) c.packed.ensures
