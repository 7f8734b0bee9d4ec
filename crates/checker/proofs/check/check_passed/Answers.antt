-- `checker::check::check_passed` meets its contract: question 10 decides, then what the plan comes to.
-- Assumes nothing.
use Prim.Native.Nat.{ℕ}
use mathlib.Core.Path.{◌∙◌}
use native.Mathlib.Omega.{arith}
use Rattle.std.proofs.lemmas.List.{length-take}
use Rattle.std.proofs.lemmas.Result.{err_from_is_err_and}
use Rattle.checker.proofs.Laws.Answer.{put-fills, lines-there, buffer-short, plan-refused, plan-accepted}
use Rattle.checker.proofs.check.check_passed.Goals as goal

pub returns-then-buffer-size : goal.returns-then-buffer-size
returns-then-buffer-size c = rw c.at.ensures (buffer-short _ _ c.requires _ c.line_count.ensures _ _ (omega arith))

pub returns-in_err-steps : goal.returns-in_err-steps
returns-in_err-steps c =
    let p = err_from_is_err_and c.from_residual.result c.from_residual.ensures.1 in
    rw (p.1, p.2)
    (plan-refused _ _ c.requires _ c.line_count.ensures _ _ (omega (arith, c.if-buffer-size.false)) _ _ c.in_err-steps.ensures)

pub slice_bounds-program-end : goal.slice_bounds-program-end
slice_bounds-program-end c = let there = lines-there _ _ c.requires _ c.line_count.ensures _ c.follow.array_long in omega (arith, there)

pub slice_bounds-put-end : goal.slice_bounds-put-end
slice_bounds-put-end c =
    let there = lines-there _ _ c.requires _ c.line_count.ensures _ c.follow.array_long in omega (arith, there, length-take {A = ℕ})

pub returns : goal.returns
returns c =
    let there = lines-there _ _ c.requires _ c.line_count.ensures _ c.follow.array_long in
    plan-accepted _ _ c.requires _ c.line_count.ensures _ _ (omega (arith, c.if-buffer-size.false)) _ _ c.in_ok-steps.ensures _
    (c.put.ensures ∙ put-fills _ _ _ there)
