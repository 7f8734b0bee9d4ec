-- Raised beats lowered: after an action a fact is true if an effect that fires raises it, whatever the others lower, or if it was true and none that
-- fires lowers it. So there is no clash. Question 20 keeps its number, and nothing answers it.
use Rattle.std.specs.Prelude.{ℕ, ◌<◌, ◌≡◌, not, ◌&&◌, ◌||◌, List}
use Rattle.task.specs.Program.{program_verdict}
use Rattle.task.specs.Reading.{read_task}
use Rattle.task.specs.Verdict.{number_of, Verdict}
use Rattle.task.specs.declared.index.Case.{Case}
use Rattle.task.specs.declared.index.Effect.{Effect}
use Rattle.task.specs.declared.index.Index.{Index}
use Rattle.step.specs.Effects.{fired, some_has, changes_of, changed}
use Rattle.step.specs.Facts.{has}
use Rattle.step.specs.Questions.{CLASH}
use Rattle.step.specs.Single.{single_step}
use Rattle.step.specs.declared.position.Position.{Position}
use Rattle.checker.specs.Check.{check}
use Rattle.checker.specs.Write.{write}
use Rattle.steps.specs.Many.{many_steps}
use Rattle.late_case.specs.Late.{add_verdict}

-- the rule, for every state, any effects and each of the 64 facts
abbrev pub RaisedBeatsLowered : Type 0
RaisedBeatsLowered =
    (state : ℕ) (effects : List Effect) (f : ℕ) → f < 64
    → has (changed state (changes_of state effects)) f
    ≡ (some_has (λ e. e.raised) (fired state effects) f || (has state f && not (some_has (λ e. e.lowered) (fired state effects) f)))

-- a verdict whose number is not 20
abbrev pub Not20 : Verdict → Type 0
Not20 v = number_of v ≡ CLASH → ⊥

-- every verdict, for any bytes as task, and as buffer of a late case; any plan, program, buffer, number of steps, run and case. The program `check_plan`
-- prints the checker's number, or 30
pub record NoClash (bytes : List ℕ) : Type 0 where
  pub task : Not20 (read_task bytes).verdict
  pub program : (i : Index) (presets program : List ℕ) → Not20 (program_verdict i presets program)
  pub checker : (plan buffer : List ℕ) → Not20 (check bytes plan buffer).verdict
  pub writer : (program buffer : List ℕ) → Not20 (write bytes program buffer).verdict
  pub single-step : (program : List ℕ) (run : Position) → Not20 (single_step bytes program run).verdict
  pub many-steps : (program : List ℕ) (count : ℕ) (run : Position) → Not20 (many_steps bytes program count run).answer.verdict
  pub late-case : (given : ℕ) (c : Case) (run : Position) → Not20 (add_verdict bytes given c run)
