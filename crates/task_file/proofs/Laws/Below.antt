-- Every number in the records of a task's parts is below 256: those of a number's bytes are, and the others are bounded by the task's rules.
-- Assumes nothing.
use Prim.Native.Nat.{ℕ, zero, suc, ◌/◌, ◌%◌, ◌≤◌, ◌<◌}
use mathlib.Core.List.{List, [], ◌∷◌, flat_map}
use native.Mathlib.Omega.{arith}
use lib.ListN.{length}
use Rattle.records.specs.Numbers.{AreBytes, number_bytes}
use Rattle.records.specs.Record.{record_bytes}
use Rattle.task.specs.Instruction.{encode}
use Rattle.task.specs.Task.{Action, Preset}
use Rattle.task.specs.declared.bounds.Bounds.{Bounds}
use Rattle.task.specs.declared.facts.Literals.{Literals}
use Rattle.task.specs.declared.index.Case.{Case}
use Rattle.task.specs.declared.instruction.Instruction.{Instruction}
use Rattle.task.specs.declared.instruction.Instruction.TheVariants.{Empty, Act, Goto, Call, End}
use Rattle.task.specs.declared.instruction.Line.{Line}
use Rattle.task.specs.declared.instruction.Triple.{Triple}
use Rattle.task.proofs.Laws.Bounds.{Ranges}
use Rattle.task.proofs.Laws.Instruction.{Allowed, allows}
use Rattle.task_file.specs.Bytes.{pair_bytes, action_pairs, bounds_record, action_record, preset_record, case_record}
use Rattle.task_file.specs.WellFormed.{Every, none, also}
use Rattle.task_file.proofs.Laws.Formed.{PresetGood, line-most}
use Rattle.task_file.proofs.Laws.Every.{every-join, every-flat, every_of}

-- a list each of whose numbers is below 256
abbrev AllBelow : List ℕ → Type 0
AllBelow l = Every (λ (n : ℕ). n < 256) l

pub each_below : (l : List ℕ) → AllBelow l → AreBytes l
each_below [] none at = omega arith
each_below (x ∷ l) (also h k) zero = h
each_below (x ∷ l) (also h k) (suc at) = each_below l k at

byte : (x : ℕ) {l : List ℕ} → x < 256 → AllBelow l → AllBelow (x ∷ l)
byte x h k = also h k

number-below : (width n : ℕ) → AllBelow (number_bytes width n)
unfolding number_bytes
number-below zero n = none
number-below (suc width) n = byte (n % 256) (omega arith) (number-below width (n / 256))

pub record-below : (kind : ℕ) (body : List ℕ) → AllBelow body → AllBelow (record_bytes kind body)
unfolding record_bytes
record-below kind body h = every-join (every-join (number-below 2 (length body)) (number-below 2 kind)) h

pair-below : (l : Literals) → AllBelow (pair_bytes l)
unfolding pair_bytes
pair-below l = every-join (number-below 8 l.positive) (number-below 8 l.negative)

pairs_below : (l : List Literals) → AllBelow (flat_map pair_bytes l)
pairs_below l = every-flat pair_bytes l (every_of pair-below l)

pub action-below : (a : Action) → AllBelow (action_record a)
unfolding action_record
action-below a = record-below 2 _ (pairs_below (action_pairs a))

pub case-below : (c : Case) → AllBelow (case_record c)
unfolding case_record
case-below c = record-below 4 _ (every-join (number-below 8 c.start) (pair-below _))

pub bounds-below : (b : Bounds) → Ranges b → AllBelow (bounds_record b)
unfolding bounds_record
bounds-below b r =
    record-below 1 _
    (byte b.facts (omega (arith, r.facts))
    (byte b.procedures (omega (arith, r.procedures))
    (byte b.last (omega (arith, r.last)) (byte b.stack (omega (arith, r.stack)) (number-below 2 b.steps)))))

triple-below : (w : Triple) → (w.op < 256) × (w.p < 256) × (w.q < 256) → AllBelow (w.op ∷ w.p ∷ w.q ∷ [])
triple-below w h = also h.0 (also h.1 (also h.2 none))

-- the operands of an instruction that is allowed on a line are bounded
instruction-below : (b : Bounds) (actions : ℕ) → Ranges b → actions ≤ 64 → (line : Line) (w : Instruction) → Allowed b actions line w
    → ((encode w).op < 256) × ((encode w).p < 256) × ((encode w).q < 256)
unfolding encode
instruction-below b actions r few line Empty h = omega arith
instruction-below b actions r few line (Act action) h = omega arith
instruction-below b actions r few line (Goto target fact) h = omega (arith, r.last, r.facts)
instruction-below b actions r few line (Call procedure) h = omega (arith, r.procedures)
instruction-below b actions r few line End h = omega arith

pub preset-below : (b : Bounds) (actions : ℕ) → Ranges b → actions ≤ 64 → (p : Preset) → PresetGood b actions p → AllBelow (preset_record p)
unfolding preset_record
preset-below b actions r few p good =
    record-below 3 _
    (byte p.procedure.0 (omega (arith, good.procedure, r.procedures))
    (byte p.line.0 (omega (arith, line-most b actions p good, r.last))
    (triple-below (encode p.instruction)
    (instruction-below b actions r few p.line p.instruction (allows b actions p.line p.instruction good.line)))))
