-- A program is 3 bytes for each line 0 to n of each procedure, in order; line i of procedure j begins at 3 * (j * (n + 1) + i).
-- Questions 25 to 27 are the program's own.
use Rattle.std.specs.Prelude.{ℕ, ◌+◌, ◌*◌, ◌%◌, List, Bool, true, false, cond, ◌&&◌, ◌||◌, length, ltb, eqb, Option, Some, None}
use Rattle.task.specs.Bounds.{line_count, program_size}
use Rattle.task.specs.First.{first_no}
use Rattle.task.specs.Instruction.{or_empty, spelled, decode, triple_at}
use Rattle.task.specs.Questions.{PROGRAM-LENGTH, PROGRAM-LINES, PROGRAM-PRESETS}
use Rattle.task.specs.declared.bounds.Bounds.{Bounds}
use Rattle.task.specs.declared.index.Index.{Index}
use Rattle.task.specs.declared.instruction.Line.{Line}
use Rattle.task.specs.declared.instruction.Proc.{Proc}
use Rattle.task.specs.declared.instruction.Triple.{Triple}
use Rattle.task.specs.declared.instruction.Instruction.{Instruction}
use Rattle.task.specs.Verdict.{Verdict, Accepted, Refused}

-- where a line of a procedure begins
unfoldable pub line_offset : Bounds → Proc → Line → ℕ
line_offset b procedure line = 3 * (procedure.0 * (b.last + 1) + line.0)

-- the three bytes on a line of a procedure
abbrev pub line_bytes : Bounds → List ℕ → Proc → Line → Triple
line_bytes b program procedure line = triple_at program (line_offset b procedure line)

-- the instruction on a line of a procedure, if the line's three bytes spell one that is allowed there
unfoldable pub instruction_on : Index → List ℕ → Proc → Line → Option Instruction
instruction_on i program procedure line = decode i.bounds i.actions line (line_bytes i.bounds program procedure line)

-- the instruction that they spell, allowed there or not; empty where they spell none
unfoldable pub spelled_on : Bounds → List ℕ → Proc → Line → Instruction
spelled_on b program procedure line = or_empty (spelled (line_bytes b program procedure line))

-- whether three bytes decoded to an instruction
unfoldable pub is_instruction : Option Instruction → Bool
is_instruction (Some w) = true
is_instruction None = false

-- question 26 on line number k of the program, counted through all procedures: it is line k % (n + 1) of its procedure
unfoldable pub line_allowed : Index → List ℕ → ℕ → Bool
line_allowed i program k = is_instruction (decode i.bounds i.actions (record { 0 = k % (i.bounds.last + 1) }) (triple_at program (3 * k)))

-- whether two triples are the same
unfoldable pub same_triple : Triple → Triple → Bool
same_triple v w = eqb v.op w.op && eqb v.p w.p && eqb v.q w.q

-- question 27 on line number k: the line is not preset, or holds its preset
unfoldable pub preset_held : List ℕ → List ℕ → ℕ → Bool
preset_held presets program k = eqb (triple_at presets (3 * k)).op 0 || same_triple (triple_at presets (3 * k)) (triple_at program (3 * k))

-- a question of every line: refused with the offset of the lowest line where the test says no
unfoldable pub every_line : Index → ℕ → (ℕ → Bool) → Verdict → Verdict
every_line i question test rest =
    let found = first_no test (line_count i.bounds) in
    cond (ltb found (line_count i.bounds)) (Refused question (3 * found)) rest

-- questions 25, 26 and 27, in this order
unfoldable pub program_verdict : Index → List ℕ → List ℕ → Verdict
program_verdict i presets program =
    cond (eqb (length program) (program_size i.bounds))
    (every_line i PROGRAM-LINES (line_allowed i program) (every_line i PROGRAM-PRESETS (preset_held presets program) (Accepted 0)))
    (Refused PROGRAM-LENGTH 0)
