-- A run's position, and its moves. The stack's frames are counted from the lowest, number 0; the top one is number depth - 1. Frames above
-- it are (0, 0), where question 31 says yes, and a move that frees a frame makes it (0, 0).
use Rattle.std.specs.Prelude.{ℕ, ◌+◌, ◌-◌, Bool, ◌&&◌, eqb, get_or, set, replicate}
use Rattle.task.specs.declared.instruction.Line.{Line}
use Rattle.task.specs.declared.instruction.Proc.{Proc}
use Rattle.step.specs.declared.position.Frame.{Frame}
use Rattle.step.specs.declared.position.Position.{Position}

-- the frame (0, 0)
unfoldable pub origin : Frame
origin = record { procedure = record { 0 = 0 }; line = record { 0 = 0 } }

-- whether two frames are the same
unfoldable pub same_frame : Frame → Frame → Bool
same_frame f g = eqb f.procedure.0 g.procedure.0 && eqb f.line.0 g.line.0

-- a case from its start: no step done, and one frame, (0, 0)
unfoldable pub starting : ℕ → ℕ → Position
starting case start = record { facts = start; steps = 0; case = case; depth = 1; frames = replicate 16 origin }

-- the top frame
unfoldable pub top : Position → Frame
top s = get_or s.frames (s.depth - 1) origin

-- the top frame's line becomes another
unfoldable pub jumped : Position → Line → Position
jumped s line =
    record {
      facts = s.facts;
      steps = s.steps;
      case = s.case;
      depth = s.depth;
      frames = set s.frames (s.depth - 1) (record { procedure = (top s).procedure; line = line });
    }

-- the top frame's line grows by 1
unfoldable pub advanced : Position → Position
advanced s = jumped s (record { 0 = (top s).line.0 + 1 })

-- line 0 of a procedure is pushed
unfoldable pub pushed : Position → Proc → Position
pushed s procedure =
    record {
      facts = s.facts;
      steps = s.steps;
      case = s.case;
      depth = s.depth + 1;
      frames = set s.frames s.depth (record { procedure = procedure; line = record { 0 = 0 } });
    }

-- the top frame is freed, and set to (0, 0)
unfoldable pub popped : Position → Position
popped s =
    record {
      facts = s.facts;
      steps = s.steps;
      case = s.case;
      depth = s.depth - 1;
      frames = set s.frames (s.depth - 1) origin;
    }

-- the facts become others
unfoldable pub with_facts : Position → ℕ → Position
with_facts s facts = record { facts = facts; steps = s.steps; case = s.case; depth = s.depth; frames = s.frames }

-- the case's number grows by 1: the facts of its start, and one frame, (0, 0)
unfoldable pub next_case : Position → ℕ → Position
next_case s start = record { facts = start; steps = s.steps; case = s.case + 1; depth = 1; frames = set s.frames 0 origin }

-- after the last case: no frame, the freed one (0, 0), the facts as they are
unfoldable pub finished : Position → Position
finished s = record { facts = s.facts; steps = s.steps; case = s.case + 1; depth = 0; frames = set s.frames 0 origin }

-- one step more is done
unfoldable pub counted : Position → Position
counted s = record { facts = s.facts; steps = s.steps + 1; case = s.case; depth = s.depth; frames = s.frames }
