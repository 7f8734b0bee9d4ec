-- What has been read is part of the space, and what is left of it is shorter after each turn.
use Rattle.std.proofs.Common.{length, ◌-◌, ◌≤◌}
use Rattle.plan_files.proofs.read_full.Given as goal

abbrev pub invariant-loop-size : goal.invariant-loop-size
invariant-loop-size g l = l.size ≤ length l.space

abbrev pub decreases-loop-size : goal.decreases-loop-size
decreases-loop-size g l = length l.space - l.size
