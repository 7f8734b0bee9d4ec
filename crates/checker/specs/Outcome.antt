-- How the answers of the checker's own functions stand to the definitions. Only contracts of private functions cite it.
use Rattle.std.specs.Prelude.{ℕ, ◌+◌, ◌≤◌, ◌<◌, ◌≡◌, Bool, true, cond, ◌||◌, List, eqb, Option, Some, None, Result, Ok, Err}
use Rattle.records.specs.Loop.{Turn, stop, ask}
use Rattle.task.specs.Program.{line_offset}
use Rattle.task.specs.Instruction.{allowed, encode, triple_at}
use Rattle.task.specs.declared.index.Index.{Index}
use Rattle.task.specs.declared.instruction.Instruction.{Instruction}
use Rattle.task.specs.declared.instruction.Triple.{Triple}
use Rattle.task.specs.declared.questions.Question.{Question}
use Rattle.task.specs.declared.refusal.Refusal.{Refusal}
use Rattle.task.specs.Verdict.{number}
use Rattle.step.specs.Perform.{perform}
use Rattle.step.specs.Position.{top}
use Rattle.step.specs.Questions.{STEPS}
use Rattle.step.specs.declared.head.Head.{Head}
use Rattle.step.specs.declared.position.Position.{Position}
use Rattle.checker.specs.Answer.{Outcome, refused, accepted}
use Rattle.checker.specs.Check.{State, line_fits, written, on_move, close_turn}
use Rattle.checker.specs.Plan.{instruction_of, is_kind, length_fits}
use Rattle.checker.specs.Questions.{PLAN-KIND, PLAN-LENGTH, LINE}
use Rattle.checker.specs.declared.check.Read.{Read}
use Rattle.checker.specs.declared.check.Read.TheVariants.{Closing, Ready}
use Rattle.checker.specs.declared.plan.Step.{Step}

-- the checker's state, from the three parts that it holds
abbrev pub state : ℕ → Position → List ℕ → State
state at position program = record { at = at; position = position; program = program }

-- a head at which an instruction may be asked about: a case is open, fewer than S steps are done, and it is allowed on the top frame's line
pub record Askable (i : Index) (h : Head) (w : Instruction) : Type 0 where
  pub case : h.case < i.cases
  pub left : h.steps < i.bounds.steps
  pub allowed : allowed i.bounds i.actions h.line w ≡ true

-- what is known of a step that questions 11 to 17 let pass: it is askable, its three bytes spell its instruction, and its line is in the program
pub record StepReady (i : Index) (h : Head) (step : Step) (w : Triple) : Type 0 where
  pub askable : Askable i h (instruction_of step)
  pub spells : w ≡ encode (instruction_of step)
  pub there : line_offset i.bounds h.procedure h.line + 3 ≤ 768

unfoldable pub ReadyAt : Index → Head → Read → Type 0
ReadyAt i h (Closing next) = Unit {0}
ReadyAt i h (Ready step w next) = StepReady i h step w

-- questions 12 to 14, given whether a step is left: the first that says no, if one does
unfoldable pub shape_no : ℕ → ℕ → Bool → Option ℕ
shape_no kind size left =
    cond (is_kind kind) (cond (length_fits kind size) (cond (eqb kind 5 || left) None (Some STEPS)) (Some PLAN-LENGTH)) (Some PLAN-KIND)

-- what is left of a step's turn on the top frame's line: question 18, and what its instruction asks
unfoldable pub line_turn : List ℕ → Index → List ℕ → State → ℕ → Step → Turn State Outcome
line_turn bytes i offsets s next step =
    let f = top s.position in
    let offset = line_offset i.bounds f.procedure f.line in
    ask (line_fits (triple_at s.program offset) step) (refused LINE s.at)
    (on_move s.at next (written s.program offset step) (perform bytes i offsets s.position (instruction_of step)))

-- the turn that a record stands for, as far as it was read
unfoldable pub read_turn : List ℕ → Index → List ℕ → List ℕ → State → Result Read Question → Turn State Outcome
read_turn bytes i offsets plan s (Err question) = stop (refused (number question) s.at)
read_turn bytes i offsets plan s (Ok (Closing next)) = close_turn i plan s next
read_turn bytes i offsets plan s (Ok (Ready step w next)) = line_turn bytes i offsets s next step

-- what a plan comes to, by its answer and the program at the end
unfoldable pub followed_by : Result ℕ Refusal → List ℕ → Outcome
followed_by (Err r) program = refused (number r.question) r.place
followed_by (Ok steps) program = accepted steps program
