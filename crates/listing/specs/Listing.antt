-- What is printed of a plan: `refused`, the question's number and the place; or `accepted` and the number of steps, and then the program:
-- every procedure with its number, and every line 0 to n of it with its number, its instruction and the operands. Each stands on a line
-- of its own, and every number is in decimal.
use Rattle.std.specs.Prelude.{ℕ, zero, suc, ◌+◌, List, [], ◌++◌, length, take, drop, Option, Some, None, Result, Ok, Err}
use Rattle.task.specs.Program.{instruction_on}
use Rattle.task.specs.declared.index.Index.{Index}
use Rattle.task.specs.declared.instruction.Instruction.{Instruction}
use Rattle.task.specs.declared.instruction.Instruction.TheVariants.{Empty, Act, Goto, Call, End}
use Rattle.task.specs.Verdict.{Verdict, Accepted, Refused}
use Rattle.listing.specs.Decimal.{decimal, labelled}
use Rattle.listing.specs.Words.{REFUSED, ACCEPTED, PROCEDURE, EMPTY, ACT, GOTO, CALL, END, SPACE, NEWLINE}

-- an instruction: its name and its operands, a goto's target line before its fact
unfoldable pub instruction_text : Instruction → List ℕ
instruction_text Empty = EMPTY
instruction_text (Act action) = labelled ACT action
instruction_text (Goto target fact) = labelled GOTO target.0 ++ labelled SPACE fact
instruction_text (Call procedure) = labelled CALL procedure.0
instruction_text End = END

-- what a line's three bytes decoded to; bytes that are no instruction have no name
unfoldable pub decoded_text : Option Instruction → List ℕ
decoded_text (Some w) = instruction_text w
decoded_text None = []

-- texts number 0, 1 and so on, so many of them, one after the other
unfoldable pub in_order : (ℕ → List ℕ) → ℕ → List ℕ
in_order text zero = []
in_order text (suc k) = in_order text k ++ text k

module _ (i : Index) (program : List ℕ) where
  -- a line of a procedure: its number and its instruction
  unfoldable pub line_text : ℕ → ℕ → List ℕ
  line_text procedure line =
      decimal line ++ decoded_text (instruction_on i program (record { 0 = procedure }) (record { 0 = line })) ++ NEWLINE

  -- a procedure: its number, and its lines 0 to n
  unfoldable pub procedure_text : ℕ → List ℕ
  procedure_text procedure = labelled PROCEDURE procedure ++ NEWLINE ++ in_order (line_text procedure) (i.bounds.last + 1)

  -- the program: every procedure
  unfoldable pub listing_text : List ℕ
  listing_text = in_order procedure_text i.bounds.procedures

-- an answer whose refusal is its two numbers
abbrev pub numbered : Result ℕ (ℕ × ℕ) → Verdict
numbered (Ok steps) = Accepted steps
numbered (Err (question, place)) = Refused question place

-- a verdict and, of an accepted plan, its program
unfoldable pub report_text : Verdict → Index → List ℕ → List ℕ
report_text (Refused question place) i program = labelled REFUSED question ++ labelled SPACE place ++ NEWLINE
report_text (Accepted steps) i program = labelled ACCEPTED steps ++ NEWLINE ++ listing_text i program

-- a buffer with a text written at its start: as much of it as fits; the bytes behind it keep their value
unfoldable pub filled : List ℕ → List ℕ → List ℕ
filled text buffer = take (length buffer) text ++ drop (length text) buffer
