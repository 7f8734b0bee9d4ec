-- Question 31: whether a position is possible, by the ranges of its parts.
use Rattle.std.specs.Prelude.{ℕ, Bool, cond, ◌&&◌, get_or, leb, ltb, eqb}
use Rattle.task.specs.Bounds.{between}
use Rattle.task.specs.Facts.{within}
use Rattle.task.specs.declared.bounds.Bounds.{Bounds}
use Rattle.task.specs.declared.index.Index.{Index}
use Rattle.step.specs.Facts.{every}
use Rattle.step.specs.Position.{origin}
use Rattle.step.specs.declared.position.Frame.{Frame}
use Rattle.step.specs.declared.position.Position.{Position}

-- a frame in use: the procedure is below b, the line from 0 to n
unfoldable pub in_use : Bounds → Frame → Bool
in_use b frame = ltb frame.procedure.0 b.procedures && leb frame.line.0 b.last

-- a frame that is not in use: (0, 0)
unfoldable pub unused : Frame → Bool
unused frame = eqb frame.procedure.0 0 && eqb frame.line.0 0

-- frame number k: in use below the depth
unfoldable pub frame_fits : Bounds → Position → ℕ → Bool
frame_fits b s k = cond (ltb k s.depth) (in_use b (get_or s.frames k origin)) (unused (get_or s.frames k origin))

-- the depth: no frame exactly when all cases are finished, else 1 to m frames
unfoldable pub depth_fits : Index → Position → Bool
depth_fits i s = cond (eqb s.case i.cases) (eqb s.depth 0) (between 1 s.depth i.bounds.stack)

-- question 31
unfoldable pub possible : Index → Position → Bool
possible i s =
    leb s.case i.cases
    && within i.bounds.facts s.facts
    && leb s.steps i.bounds.steps
    && depth_fits i s
    && every 16 (frame_fits i.bounds s)
