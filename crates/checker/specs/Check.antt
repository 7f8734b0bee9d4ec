-- The checker: a task, a plan and a buffer to a verdict, and the buffer afterwards. It asks 1 to 9 of the task and 10 of the buffer. Then
-- it reads the plan record by record, asks 11 to 13 of each, 14 to 22 of a step and 23 and 24 of the closing record; the place of a no is the
-- record's offset (for 24 the offset after it). A plan that passes fills the buffer's first bytes with the program: the preset
-- lines and those that the plan wrote.
use Rattle.std.specs.Prelude.{ℕ, ◌+◌, ◌-◌, List, Bool, cond, length, leb, ltb, eqb, Option, Some, None}
use Rattle.records.specs.Loop.{Turn, stop, go, ask, loop}
use Rattle.records.specs.Record.{record_at}
use Rattle.records.specs.declared.record.Record.{Record}
use Rattle.task.specs.Bounds.{program_size}
use Rattle.task.specs.Index.{case_at}
use Rattle.task.specs.Instruction.{decode_for, encode, triple_at, with_triple}
use Rattle.task.specs.Program.{line_offset, same_triple}
use Rattle.task.specs.Reading.{read_task}
use Rattle.task.specs.declared.index.Index.{Index}
use Rattle.task.specs.declared.index.Layout.{Layout}
use Rattle.task.specs.declared.instruction.Instruction.{Instruction}
use Rattle.task.specs.declared.instruction.Triple.{Triple}
use Rattle.step.specs.Perform.{perform}
use Rattle.step.specs.Position.{same_frame, starting, top}
use Rattle.step.specs.Questions.{STEPS}
use Rattle.step.specs.declared.position.Frame.{Frame}
use Rattle.step.specs.declared.position.Position.{Position}
use Rattle.checker.specs.Answer.{Answer, Outcome, refused, accepted, passing, answer}
use Rattle.checker.specs.Plan.{instruction_of, step_of, is_kind, length_fits, frame_at}
use Rattle.checker.specs.Questions.{BUFFER, PLAN-RECORD, PLAN-KIND, PLAN-LENGTH, ALLOWED, OPEN, TOP, LINE, FINISHED, PLAN-CLOSED}
use Rattle.checker.specs.declared.plan.Step.{Step}
use Rattle.checker.specs.declared.plan.Step.TheVariants.{Write, Repeat}

-- where the checker stands: the next record's offset, the run's position, and the program so far, 768 bytes
pub record State : Type 0 where
  pub at : ℕ
  pub position : Position
  pub program : List ℕ

-- question 18, given the three bytes on the step's line
unfoldable pub line_fits : Triple → Step → Bool
line_fits held (Write w) = eqb held.op 0
line_fits held (Repeat w) = same_triple held (encode w)

-- the program after a step: a write fills its line
unfoldable pub written : List ℕ → ℕ → Step → List ℕ
written program at (Write w) = with_triple program at (encode w)
written program at (Repeat w) = program

-- after questions 19 to 22: refused at this record, or on to the next one
unfoldable pub on_move : ℕ → ℕ → List ℕ → Turn Position ℕ → Turn State Outcome
on_move at next program (stop question) = stop (refused question at)
on_move at next program (go position) = go (record { at = next; position = position; program = program })

-- a step, for a task's bytes, its index and its actions' offsets
module _ (bytes : List ℕ) (i : Index) (offsets : List ℕ) (s : State) where
  -- at a frame: questions 16, 17 and 18, then what its instruction asks
  unfoldable pub on_step : ℕ → Frame → Step → Turn State Outcome
  on_step next f step =
      let offset = line_offset i.bounds f.procedure f.line in
      ask (ltb s.position.case i.cases) (refused OPEN s.at)
      (ask (same_frame f (top s.position)) (refused TOP s.at)
      (ask (line_fits (triple_at s.program offset) step) (refused LINE s.at)
      (on_move s.at next (written s.program offset step) (perform bytes i offsets s.position (instruction_of step)))))

  -- question 15: its instruction is decoded for the line that it names
  unfoldable pub on_decoded : ℕ → ℕ → Frame → Option Instruction → Turn State Outcome
  on_decoded kind next f None = stop (refused ALLOWED s.at)
  on_decoded kind next f (Some w) = on_step next f (step_of kind w)

  -- its record: question 14 first
  unfoldable pub step_turn : List ℕ → ℕ → ℕ → ℕ → Turn State Outcome
  step_turn plan kind body next =
      let f = frame_at plan body in
      ask (ltb s.position.steps i.bounds.steps) (refused STEPS s.at)
      (on_decoded kind next f (decode_for i.bounds i.actions f.procedure f.line (triple_at plan (body + 2))))

-- the closing record: questions 23 and 24
unfoldable pub close_turn : Index → List ℕ → State → ℕ → Turn State Outcome
close_turn i plan s next =
    ask (eqb s.position.case i.cases) (refused FINISHED s.at)
    (ask (eqb next (length plan)) (refused PLAN-CLOSED next) (stop (accepted s.position.steps s.program)))

-- what stands at the offset: question 11, then 12 and 13, then what the kind asks
unfoldable pub on_record : List ℕ → Index → List ℕ → List ℕ → State → Option Record → Turn State Outcome
on_record bytes i offsets plan s None = stop (refused PLAN-RECORD s.at)
on_record bytes i offsets plan s (Some r) =
    ask (is_kind r.kind) (refused PLAN-KIND s.at)
    (ask (length_fits r.kind r.length) (refused PLAN-LENGTH s.at)
    (cond (eqb r.kind 5) (close_turn i plan s r.next) (step_turn bytes i offsets s plan r.kind r.body r.next)))

-- one turn of the checker
unfoldable pub turn_of : List ℕ → Index → List ℕ → List ℕ → State → Turn State Outcome
turn_of bytes i offsets plan s = on_record bytes i offsets plan s (record_at plan s.at)

-- how many bytes of the plan are left
abbrev pub left : List ℕ → State → ℕ
left plan s = length plan - s.at

-- it begins at the plan's first byte and the first case's start, with the preset lines alone
unfoldable pub begin : List ℕ → Index → List ℕ → State
begin bytes i presets = record { at = 0; position = starting 0 (case_at bytes i.first 0).start; program = presets }

-- the whole plan. Every record has at least four bytes, so the loop never runs out of turns
unfoldable pub follow : List ℕ → Layout → List ℕ → Outcome
follow bytes t plan =
    loop (turn_of bytes t.index t.offsets plan) (left plan) (refused PLAN-RECORD 0) (begin bytes t.index t.presets)

-- the checker: the task's own verdict, question 10, then the plan's
unfoldable pub check : List ℕ → List ℕ → List ℕ → Answer
check bytes plan buffer =
    let t = (read_task bytes).layout in
    let size = program_size t.index.bounds in
    answer size buffer (passing (read_task bytes).verdict (cond (leb size (length buffer)) (follow bytes t plan) (refused BUFFER 0)))
