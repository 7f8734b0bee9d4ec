-- Instructions: three bytes op, p, q, the instruction that they spell, and the lines on which it is allowed.
use Rattle.std.specs.Prelude.{ℕ, ◌+◌, List, [], ◌∷◌, Bool, true, false, cond, ◌&&◌, set, leb, ltb, eqb, Option, Some, None}
use Rattle.records.specs.Numbers.{byte_at}
use Rattle.task.specs.declared.bounds.Bounds.{Bounds}
use Rattle.task.specs.declared.instruction.Line.{Line}
use Rattle.task.specs.declared.instruction.Proc.{Proc}
use Rattle.task.specs.declared.instruction.Triple.{Triple}
use Rattle.task.specs.declared.instruction.Instruction.{Instruction}
use Rattle.task.specs.declared.instruction.Instruction.TheVariants.{Empty, Act, Goto, Call, End}

-- an answer kept where a condition holds
unfoldable pub keep : Bool → Option Instruction → Option Instruction
keep true d = d
keep false d = None

-- the instruction of an answer, empty where there is none
abbrev pub or_empty : Option Instruction → Instruction
or_empty (Some w) = w
or_empty None = Empty

-- the instruction that three bytes spell, whatever the line. There is none for an op above 4, nor where p or q has to be 0 and is not
unfoldable pub spelled : Triple → Option Instruction
spelled w =
    cond (eqb w.op 0) (keep (eqb w.p 0 && eqb w.q 0) (Some Empty))
    (cond (eqb w.op 1) (keep (eqb w.q 0) (Some (Act w.p)))
    (cond (eqb w.op 2) (Some (Goto (record { 0 = w.p }) w.q))
    (cond (eqb w.op 3) (keep (eqb w.q 0) (Some (Call (record { 0 = w.p }))))
    (cond (eqb w.op 4) (keep (eqb w.p 0 && eqb w.q 0) (Some End))
    None))))

-- whether an instruction is allowed on a line of a task with these bounds and so many actions: only empty and end may stand on the
-- last line, an end not on line 0, nothing above n; and each operand is in its range
unfoldable pub allowed : Bounds → ℕ → Line → Instruction → Bool
allowed b actions line Empty = leb line.0 b.last
allowed b actions line (Act action) = ltb line.0 b.last && ltb action actions
allowed b actions line (Goto target fact) = ltb line.0 b.last && leb target.0 b.last && ltb fact b.facts
allowed b actions line (Call procedure) = ltb line.0 b.last && ltb procedure.0 b.procedures
allowed b actions line End = leb 1 line.0 && leb line.0 b.last

-- an instruction where it is allowed on the line
unfoldable pub where_allowed : Bounds → ℕ → Line → Option Instruction → Option Instruction
where_allowed b actions line (Some w) = keep (allowed b actions line w) (Some w)
where_allowed b actions line None = None

-- three bytes on a line: the instruction that they spell, if it is allowed there
unfoldable pub decode : Bounds → ℕ → Line → Triple → Option Instruction
decode b actions line w = where_allowed b actions line (spelled w)

-- questions 7 and 15: three bytes for a line of a procedure, the procedure below b, the instruction allowed there and not empty
unfoldable pub decode_for : Bounds → ℕ → Proc → Line → Triple → Option Instruction
decode_for b actions procedure line w = keep (ltb procedure.0 b.procedures && ltb 0 w.op) (decode b actions line w)

-- the three bytes of an instruction
unfoldable pub encode : Instruction → Triple
encode Empty = record { op = 0; p = 0; q = 0 }
encode (Act action) = record { op = 1; p = action; q = 0 }
encode (Goto target fact) = record { op = 2; p = target.0; q = fact }
encode (Call procedure) = record { op = 3; p = procedure.0; q = 0 }
encode End = record { op = 4; p = 0; q = 0 }

-- the five bytes of an instruction for a line of a procedure, as a preset and a plan's step have them
abbrev pub encode_for : Proc → Line → Instruction → List ℕ
encode_for procedure line w = let t = encode w in procedure.0 ∷ line.0 ∷ t.op ∷ t.p ∷ t.q ∷ []

-- the three bytes at an offset
unfoldable pub triple_at : List ℕ → ℕ → Triple
triple_at bytes at = record { op = byte_at bytes at; p = byte_at bytes (at + 1); q = byte_at bytes (at + 2) }

-- bytes with these three at an offset
unfoldable pub with_triple : List ℕ → ℕ → Triple → List ℕ
with_triple bytes at w = set (set (set bytes at w.op) (at + 1) w.p) (at + 2) w.q
