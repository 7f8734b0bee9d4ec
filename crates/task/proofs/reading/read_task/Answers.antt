-- `task::reading::read_task` meets its contract: the records' answer, with the arrays that they filled.
-- Assumes nothing.
use Prim.Native.Nat.{ℕ}
use mathlib.Core.Path.{◌≡◌, sym, ◌∙◌}
use mathlib.Core.List.{List}
use lib.ListN.{replicate, length-replicate}
use Rattle.std.specs.Array.{AllOfLen}
use Rattle.std.proofs.lemmas.List.{ext_get_or, get_or-replicate}
use Rattle.std.proofs.lemmas.Result.{err_from_is_err_and}
use Rattle.task.specs.Outcome.{reading_of}
use Rattle.task.specs.Reading.{no_layout, accepted, reading}
use Rattle.task.proofs.reading.read_task.Goals as goal

-- an array of zeros
zeros : (n : ℕ) (xs : List ℕ) → AllOfLen (λ (x : ℕ). x ≡ 0) xs n → xs ≡ replicate n 0
zeros n xs a =
    ext_get_or 0 xs (replicate n 0) (a.long ∙ sym (length-replicate n 0)) λ i h.
    let l = rw a.long at h in
    a.at i 0 l ∙ sym (get_or-replicate n i 0 0 l)

pub read_records-requires : goal.read_records-requires
unfolding no_layout
read_records-requires c = (zeros 64 _ c.default-layout.ensures.1.0, zeros 768 _ c.default-layout.ensures.1.1)

pub returns-in_err-layout : goal.returns-in_err-layout
unfolding reading_of reading
returns-in_err-layout c =
    let p = err_from_is_err_and c.from_residual.result c.from_residual.ensures.1 in
    rw (p.1, p.2) c.in_err-layout.ensures

pub returns : goal.returns
unfolding reading_of reading accepted
returns c = c.in_ok-layout.ensures
