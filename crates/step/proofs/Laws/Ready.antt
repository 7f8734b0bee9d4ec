-- A position at which a program runs: the line of its top frame is there and holds an instruction, whose numbers are in the ranges that the moves
-- need. The bounds are in their ranges, the position is possible, and the instruction is allowed on its line.
-- Assumes nothing.
use Prim.Native.Nat.{ℕ, ◌+◌, ◌≤◌, ◌<◌}
use mathlib.Core.Path.{◌≡◌, sym, ap}
use mathlib.Core.Bool.{true}
use mathlib.Core.List.{List}
use native.Mathlib.Decide.{ℕ_discrete}
use native.Mathlib.Omega.{arith}
use lib.ListN.{length}
use Rattle.task.specs.declared.index.Index.{Index}
use Rattle.task.specs.declared.index.Layout.{Layout}
use Rattle.std.specs.Prelude.{Some, Ok}
use Rattle.task.specs.declared.instruction.Instruction.{Instruction}
use Rattle.task.specs.declared.instruction.Instruction.TheVariants.{Act, Goto}
use Rattle.task.specs.Instruction.{allowed}
use Rattle.task.specs.Reading.{Reading, accepted, read_task, reading}
use Rattle.task.specs.Program.{line_offset, instruction_on, is_instruction}
use Rattle.task.proofs.Laws.Bounds.{ranges}
use Rattle.task.proofs.Laws.Instruction.{Allowed, allows, allowed-line, decode-allowed}
use Rattle.task.proofs.Laws.Passed.{Passed, passed}
use Rattle.task.proofs.Laws.Program.{program-passes, line-there, line-passes}
use Rattle.step.specs.Head.{Fits, head_of}
use Rattle.step.specs.Possible.{possible}
use Rattle.step.specs.Ready.{Bounded, Held, Open, Runs, Known}
use Rattle.step.specs.declared.head.Head.{Head}
use Rattle.step.specs.declared.position.Position.{Position}
use Rattle.step.proofs.Laws.Kept.{top-used}
use Rattle.step.proofs.Laws.Possible.{parts, depth-open}

-- a task that passes has them
pub passed-held : (bytes : List ℕ) (t : Layout) → Passed bytes t → Held bytes t.index t.offsets
passed-held bytes t p =
    record {
      task = record { ranges = p.bounded; actions = p.actions; cases = p.cases.1 };
      action = p.held;
      case = p.cased;
    }

-- so it does as the reader of a task file answers it
pub read-held : (bytes : List ℕ) (t : Layout) → reading (Ok t) ≡ read_task bytes → Held bytes t.index t.offsets
unfolding reading accepted
read-held bytes t e = passed-held bytes t (rw (ap (λ (r : Reading). r.layout) e) (passed bytes 0 (sym (ap (λ (r : Reading). r.verdict) e))))

module _ (i : Index) (s : Position) where
  -- a possible position, finished or not, has at most 16 frames
  pub possible-depth : Bounded i → possible i s ≡ true → s.depth ≤ 16
  possible-depth task p =
      elim (ℕ_discrete s.depth 0) [
        | yes e ↦ omega (arith, e)
        | no n ↦ omega (arith, (depth-open i s (parts i s p).depth (omega (arith, n))).1, (ranges i.bounds task.ranges).stack.1)
      ]

  pub open-depth : Open i s → s.depth ≤ 16
  open-depth o = possible-depth o.task o.possible

  open-cases : Open i s → s.case < i.cases
  open-cases o =
      let p = parts i s o.possible in
      omega (arith, p.case, (depth-open i s p.depth o.unfinished).0)

-- the program's line is there, and holds an instruction, `h` being the head of a position at which the program runs
module _ (i : Index) (s : Position) (program : List ℕ) (r : Runs i program s) (h : Head) (e : h ≡ head_of s) where
  pub head-line : (line_offset i.bounds h.procedure h.line + 3 ≤ length program)
      × (is_instruction (instruction_on i program h.procedure h.line) ≡ true)
  unfolding head_of
  head-line =
      let o = r.standing in
      let p = program-passes i _ program _ r.lined.passes in
      let t = top-used i s (parts i s o.possible) (ranges i.bounds o.task.ranges) o.unfinished in
      rw e (line-there i _ program p _ _ t.0 t.1, line-passes i _ program p _ _ t.0 t.1)

  pub head-case : h.case < i.cases
  unfolding head_of
  head-case = rw e (open-cases i s r.standing)

  -- the instruction's numbers are in their ranges
  module _ (w : Instruction) (g : instruction_on i program h.procedure h.line ≡ Some w) where
    head-allowed : allowed i.bounds i.actions h.line w ≡ true
    unfolding instruction_on
    head-allowed = decode-allowed _ _ _ _ w g

    -- as those of any instruction that it is
    allows-as : (v : Instruction) → w ≡ v → Allowed i.bounds i.actions h.line v
    allows-as v k = rw k at (allows i.bounds i.actions h.line w head-allowed)

    pub head-known : Known i w
    head-known action k = (allows-as (Act action) k).1

    pub head-fits : Fits h w
    unfolding head_of
    head-fits =
        let o = r.standing in
        let b = ranges i.bounds o.task.ranges in
        let depth : h.depth ≡ s.depth = rw e in
        let steps : h.steps ≡ s.steps = rw e in
        record {
          above = omega (arith, o.unfinished);
          depth = omega (arith, open-depth i s o);
          line = omega (arith, allowed-line i.bounds i.actions h.line w head-allowed, b.last.1);
          case = omega (arith, head-case, o.task.cases);
          steps = omega (arith, r.left, b.steps.1);
          fact = λ target fact k. omega (arith, (allows-as (Goto target fact) k).2, b.facts.1);
        }
