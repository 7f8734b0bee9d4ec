-- How long a report is. A number below 10 ^ k has at most k digits, and what a line decodes to is allowed there, so its operands are below 64 and its
-- target at most 31: a line has at most 14 bytes, a procedure 460 and a listing 3,680.
-- Assumes nothing.
use Prim.Native.Nat.{ℕ, zero, suc, ◌+◌, ◌*◌, ◌^◌, ◌≤◌, ◌<◌, zero-le}
use mathlib.Core.Path.{◌≡◌, refl}
use mathlib.Core.Bool.{true}
use mathlib.Core.List.{List}
use native.Mathlib.Nat.{suc-mul}
use native.Mathlib.Omega.{arith}
use lib.ListN.{length, length-append}
use Rattle.task.proofs.Laws.Bounds.{ranges}
use Rattle.task.proofs.Laws.Instruction.{Allowed, allows, decode-allowed}
use Rattle.task.specs.Bounds.{in_range}
use Rattle.task.specs.Program.{instruction_on}
use Rattle.task.specs.Verdict.{number_of, value_of, Verdict, Accepted, Refused}
use Rattle.task.specs.declared.index.Index.{Index}
use Rattle.task.specs.declared.instruction.Line.{Line}
use Rattle.task.specs.declared.instruction.Proc.{Proc}
use Rattle.task.specs.declared.instruction.Instruction.{Instruction}
use Rattle.task.specs.declared.instruction.Instruction.TheVariants.{Empty, Act, Goto, Call, End}
use Rattle.std.specs.Prelude.{Option, Some, None}
use Rattle.listing.specs.Decimal.{decimal}
use Rattle.listing.proofs.Laws.Decimal.{decimal_is_std}
use Rattle.std.proofs.lemmas.Fmt.{length-decimal-le}
use Rattle.listing.specs.Listing.{instruction_text, decoded_text, in_order, line_text, procedure_text, listing_text, report_text}

-- a number below 10 ^ k has at most k digits
decimal-most : (k n : ℕ) → 0 < k → n < 10 ^ k → n < 2 ^ 64 → length (decimal n) ≤ k
decimal-most k n some few word = rw (decimal_is_std n word) (length-decimal-le k n some few word)

-- texts in order, each of which has at most so many bytes
in-order-most : (text : ℕ → List ℕ) (most count : ℕ) → ((k : ℕ) → k < count → length (text k) ≤ most) → length (in_order text count) ≤ count * most
unfolding in_order
in-order-most text most zero h = zero-le
in-order-most text most (suc k) h =
    simp length-append (omega (arith, in-order-most text most k (λ j l. h j (omega arith)), h k (omega arith), suc-mul k most))

-- a task whose bounds are in range, and whose actions are what question 4 admits
module _ (i : Index) (bounded : in_range i.bounds ≡ true) (actions : i.actions ≤ 64) where
  instruction-most : (line : Line) (w : Instruction) → Allowed i.bounds i.actions line w → length (instruction_text w) ≤ 11
  unfolding instruction_text
  instruction-most line Empty h = omega arith
  instruction-most line (Act action) h = simp length-append (omega (arith, decimal-most 2))
  instruction-most line (Goto target fact) h =
      let r = ranges i.bounds bounded in
      simp length-append (omega (arith, decimal-most 2))
  instruction-most line (Call procedure) h =
      let r = ranges i.bounds bounded in
      simp length-append (omega (arith, decimal-most 2))
  instruction-most line End h = omega arith

  module _ (program : List ℕ) where
    decoded-most : (procedure : Proc) (line : Line) (d : Option Instruction) → instruction_on i program procedure line ≡ d → length (decoded_text d) ≤ 11
    unfolding decoded_text instruction_on
    decoded-most procedure line (Some w) e = instruction-most line w (allows _ _ line w (decode-allowed _ _ line _ w e))
    decoded-most procedure line None e = zero-le

    line-most : (procedure line : ℕ) → line < 32 → length (line_text i program procedure line) ≤ 14
    unfolding line_text
    line-most procedure line h =
        simp length-append (omega (arith, decimal-most 2, decoded-most (record { 0 = procedure }) (record { 0 = line }) _ refl))

    procedure-most : (procedure : ℕ) → procedure < 8 → length (procedure_text i program procedure) ≤ 460
    unfolding procedure_text
    procedure-most procedure h =
        let r = ranges i.bounds bounded in
        let lines = in-order-most (line_text i program procedure) 14 (i.bounds.last + 1) (λ k l. line-most procedure k (omega arith)) in
        simp length-append (omega (arith, decimal-most 1))

    listing-most : length (listing_text i program) ≤ 3680
    unfolding listing_text
    listing-most =
        let r = ranges i.bounds bounded in
        omega (arith, in-order-most (procedure_text i program) 460 i.bounds.procedures (λ k l. procedure-most k (omega arith)))

-- a report with a question of two digits, and a place or a number of steps of five
pub report-most : (v : Verdict) (i : Index) (program : List ℕ) → number_of v < 100 → value_of v < 100000
    → ((steps : ℕ) → v ≡ Accepted steps → (in_range i.bounds ≡ true) × (i.actions ≤ 64)) → length (report_text v i program) ≤ 3695
unfolding report_text
report-most (Refused question place) i program n p h =
    simp length-append (omega (arith, decimal-most 2 question, decimal-most 5 place))
report-most (Accepted steps) i program n p h =
    let sound = h steps refl in
    simp length-append (omega (arith, decimal-most 5, listing-most i sound.0 sound.1 program))
