-- A word can hold the offset of each of the three bytes of a line, whatever the bounds and the line are.
-- Assumes nothing.
use Prim.Native.Nat.{◌+◌, ◌^◌, ◌<◌}
use native.Mathlib.Nat.{mul-le-mul}
use native.Mathlib.Omega.{arith}
use Rattle.task.specs.Program.{line_offset}
use Rattle.task.specs.declared.bounds.Bounds.{Bounds}
use Rattle.task.specs.declared.instruction.Line.{Line}
use Rattle.task.specs.declared.instruction.Proc.{Proc}

pub line_room : (b : Bounds) (procedure : Proc) (line : Line) → b.last < 256 → procedure.0 < 256 → line.0 < 256 → line_offset b procedure line + 2 < 2 ^ 64
unfolding line_offset
line_room b procedure line h k l =
    omega (arith, mul-le-mul {n₁ = procedure.0} {m₁ = b.last + 1} {n₂ = 255} {m₂ = 256} (omega arith) (omega arith))
