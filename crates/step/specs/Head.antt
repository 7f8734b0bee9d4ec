-- The head of a position: all of it but the frames below the top one. The checker and the writer keep it while they run, and before each step
-- `caller_of` beside it, at its depth; with that its moves are those of the position (law `moved-stands`). The single step takes it from a position
-- and stores it there after its move (law `moved-stored`); a number of steps in one call keeps it over the position's own frames. Only contracts of
-- functions below the entries cite this.
use Rattle.std.specs.Prelude.{ℕ, ◌+◌, ◌-◌, ◌≤◌, ◌<◌, ◌≡◌, List, cond, ltb, length, get_or, set}
use Rattle.task.specs.Index.{case_at}
use Rattle.task.specs.declared.index.Index.{Index}
use Rattle.task.specs.declared.instruction.Instruction.{Instruction}
use Rattle.task.specs.declared.instruction.Instruction.TheVariants.{Empty, Act, Goto, Call, End}
use Rattle.task.specs.declared.instruction.Line.{Line}
use Rattle.task.specs.declared.instruction.Proc.{Proc}
use Rattle.step.specs.Facts.{has}
use Rattle.step.specs.Position.{origin, top}
use Rattle.step.specs.declared.head.Head.{Head}
use Rattle.step.specs.declared.position.Frame.{Frame}
use Rattle.step.specs.declared.position.Position.{Position}

-- a head with a depth and a top frame
abbrev placed : Head → ℕ → Frame → Head
placed h depth f =
    record { facts = h.facts; steps = h.steps; case = h.case; depth = depth; procedure = f.procedure; line = f.line }

-- the first case from its start
unfoldable pub starting_head : ℕ → Head
starting_head start = record { facts = start; steps = 0; case = 0; depth = 1; procedure = record { 0 = 0 }; line = record { 0 = 0 } }

-- the head of a position
unfoldable pub head_of : Position → Head
head_of s =
    record {
      facts = s.facts;
      steps = s.steps;
      case = s.case;
      depth = s.depth;
      procedure = (top s).procedure;
      line = (top s).line;
    }

-- the top frame, and the one to come back to after a call: the next line
unfoldable pub top_of : Head → Frame
top_of h = record { procedure = h.procedure; line = h.line }

unfoldable pub caller_of : Head → Frame
caller_of h = record { procedure = h.procedure; line = record { 0 = h.line.0 + 1 } }

-- the frame that a head leaves behind in a position when it moves to a depth: a call's own, to come back to, else a freed one, (0, 0)
unfoldable pub left_by : Head → ℕ → Frame
left_by h depth = cond (ltb h.depth depth) (caller_of h) origin

-- the position of a head over its frames: the top one is the head's, whatever stands there
unfoldable pub over : Head → List Frame → Position
over h frames =
    record { facts = h.facts; steps = h.steps; case = h.case; depth = h.depth; frames = set frames (h.depth - 1) (top_of h) }

-- a position after its head has moved: the frame that is left behind, and then the new top one
unfoldable pub stored : Head → Head → Position → Position
stored before h s = over h (set s.frames (before.depth - 1) (left_by before h.depth))

-- the moves; the caller's grown line is in the frame kept beside the head, and a pop is given the frame below
unfoldable pub jumped_head : Head → Line → Head
jumped_head h line = placed h h.depth (record { procedure = h.procedure; line = line })

unfoldable pub advanced_head : Head → Head
advanced_head h = placed h h.depth (caller_of h)

unfoldable pub pushed_head : Head → Proc → Head
pushed_head h procedure = placed h (h.depth + 1) (record { procedure = procedure; line = record { 0 = 0 } })

unfoldable pub popped_head : Head → Frame → Head
popped_head h below = placed h (h.depth - 1) below

unfoldable pub head_with : Head → ℕ → Head
head_with h facts = record { facts = facts; steps = h.steps; case = h.case; depth = h.depth; procedure = h.procedure; line = h.line }

-- the case of this number, with this depth and these facts, at line 0 of procedure 0
abbrev pub case_head : Head → ℕ → ℕ → ℕ → Head
case_head h case depth facts =
    record { facts = facts; steps = h.steps; case = case; depth = depth; procedure = record { 0 = 0 }; line = record { 0 = 0 } }

unfoldable pub next_head : Head → ℕ → Head
next_head h start = case_head h (h.case + 1) 1 start

unfoldable pub finished_head : Head → Head
finished_head h = case_head h (h.case + 1) 0 h.facts

unfoldable pub counted_head : Head → Head
counted_head h =
    record { facts = h.facts; steps = h.steps + 1; case = h.case; depth = h.depth; procedure = h.procedure; line = h.line }

-- a goto, and an end: the first by the fact, the second by the depth and the cases left
unfoldable pub goto_head : Head → Line → ℕ → Head
goto_head h target fact = cond (has h.facts fact) (advanced_head h) (jumped_head h target)

unfoldable pub ended_head : List ℕ → Index → Head → Frame → Head
ended_head bytes i h below =
    cond (ltb 1 h.depth) (popped_head h below)
    (cond (ltb (h.case + 1) i.cases) (next_head h (case_at bytes i.first (h.case + 1)).start) (finished_head h))

-- an instruction that no question turns down, given the facts after an action
unfoldable pub moved_head : List ℕ → Index → Head → Frame → ℕ → Instruction → Head
moved_head bytes i h below facts Empty = h
moved_head bytes i h below facts (Act action) = head_with (advanced_head h) facts
moved_head bytes i h below facts (Goto target fact) = goto_head h target fact
moved_head bytes i h below facts (Call procedure) = pushed_head h procedure
moved_head bytes i h below facts End = ended_head bytes i h below

-- a head and the callers beside it stand for a position: each frame below the top one is kept at the depth at which it called, frame k at k + 1
pub record Stands (h : Head) (callers : List Frame) (s : Position) : Type 0 where
  pub facts : s.facts ≡ h.facts
  pub steps : s.steps ≡ h.steps
  pub case : s.case ≡ h.case
  pub depth : s.depth ≡ h.depth
  pub top : top s ≡ top_of h
  pub below : (k : ℕ) → k + 1 < h.depth → get_or s.frames k origin ≡ get_or callers (k + 1) origin
  pub size : length s.frames ≡ 16

-- what a step requires, its move, its count and the frame kept beside the head, so that no number leaves its type
pub record Fits (h : Head) (w : Instruction) : Type 0 where
  pub above : 0 < h.depth
  pub depth : h.depth ≤ 16
  pub line : h.line.0 < 255
  pub case : h.case < 255
  pub steps : h.steps < 65535
  pub fact : (target : Line) (fact : ℕ) → w ≡ Goto target fact → fact < 64
