-- The run of a program on one case by itself. It begins at the case's start with one frame, (0, 0), and all the program's lines in place.
-- Before each step it asks 28 and 19 to 22 and stops at the first no; its last step is its end with one frame, which asks for the goal. A
-- program ends a case in its goal exactly when its run on the case makes that end. No bound is on the steps, so the run is said by rules.
use Rattle.std.specs.Prelude.{ℕ, ◌≡◌, List, [], ◌∷◌, Some}
use Rattle.records.specs.Loop.{go}
use Rattle.task.specs.Index.{case_at}
use Rattle.task.specs.Program.{instruction_on}
use Rattle.task.specs.declared.index.Index.{Index}
use Rattle.task.specs.declared.instruction.Instruction.{Instruction}
use Rattle.task.specs.declared.instruction.Instruction.TheVariants.{End}
use Rattle.step.specs.Perform.{run_line}
use Rattle.step.specs.Position.{starting, top}
use Rattle.step.specs.declared.position.Frame.{Frame}
use Rattle.step.specs.declared.position.Position.{Position}

-- what a step visits: a line, and the instruction that it runs there
pub record Visit : Type 0 where
  pub frame : Frame
  pub instruction : Instruction

-- a visit to the top frame's line
abbrev pub visit : Position → Instruction → Visit
visit s w = record { frame = top s; instruction = w }

-- the end of a case: an end with one frame
abbrev pub ClosesCase : Position → Instruction → Type 0
ClosesCase s w = (w ≡ End) × (s.depth ≡ 1)

module _ (bytes : List ℕ) (i : Index) (offsets program : List ℕ) where
  -- one step: the top frame's line holds w, no question about it says no, and it leads to `next`
  pub record Makes (s : Position) (w : Instruction) (next : Position) : Type 0 where
    pub line : instruction_on i program (top s).procedure (top s).line ≡ Some w
    pub goes : run_line bytes i offsets program s ≡ go next

  -- the steps that the run makes from a position on, if it comes to its end
  pub data Ends : Position → List Visit → Type 0 where
    -- the end of the case is the last step
    last : {s next : Position} {w : Instruction} → Makes s w next → ClosesCase s w → Ends s (visit s w ∷ [])
    -- any other step goes before
    then : {s next : Position} {w : Instruction} {rest : List Visit} → Makes s w next → (ClosesCase s w → ⊥) → Ends next rest → Ends s (visit s w ∷ rest)

  -- the run on case c by itself ends in the case's goal, and these are its steps
  abbrev pub EndsCase : ℕ → List Visit → Type 0
  EndsCase c steps = Ends (starting c (case_at bytes i.first c).start) steps
