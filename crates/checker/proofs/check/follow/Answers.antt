-- `checker::check::follow` meets its contract: what the plan comes to from each record on is what the whole plan comes to; the head and the
-- callers stand for the position, which stays possible.
-- Assumes nothing.
use mathlib.Core.Path.{◌≡◌, refl, ap, ◌∙◌}
use native.Mathlib.Omega.{arith}
use Rattle.std.specs.Prelude.{Ok}
use Rattle.std.proofs.Common.{rules}
use Rattle.std.proofs.lemmas.Result.{err_from_is_err_and}
use Rattle.step.specs.Head.{starting_head}
use Rattle.step.specs.Position.{origin}
use Rattle.checker.specs.Outcome.{StepReady}
use Rattle.checker.specs.declared.check.Read.TheVariants.{Ready}
use Rattle.checker.proofs.Laws.Follow.{ready-is, follow-begins, follow-stops, follow-closes, follow-refused, follow-fits, follow-falls, follow-on}
use Rattle.checker.proofs.Laws.Turns.{read-passed}
use Rattle.checker.proofs.check.follow.Goals as goal
use Rattle.checker.proofs.check.follow.Goals.{In-Ready}

pub starting-head-requires : goal.starting-head-requires
starting-head-requires c = let passed = read-passed _ _ c.requires in omega (arith, passed.cased, passed.cases.0)

pub caller-callers-requires : goal.caller-callers-requires
unfolding starting_head
caller-callers-requires c = rw c.starting-head.ensures (omega arith)

pub loop-read-init : goal.loop-read-init
loop-read-init c =
    let t = c.args.task in
    follow-begins t.bytes.now t.index t.offsets.now c.args.program.now (read-passed _ _ c.requires) c.args.plan.now _
    c.starting-head.ensures _ refl

pub returns-in_err-read : goal.returns-in_err-read
returns-in_err-read c =
    let p = err_from_is_err_and c.from_residual.result c.from_residual.ensures.1 in
    rw (p.1, p.2)
    (follow-stops c.loop-read.invariant c.read_record.result c.read_record.ensures.turn _ (search rules) _)

pub returns-in-Closing : goal.returns-in-Closing
returns-in-Closing c =
    let r : c.read_record.result ≡ Ok c.in_ok-read.read = search rules in
    follow-closes c.loop-read.invariant c.read_record.result c.read_record.ensures.turn _ (r ∙ ap Ok c.in-Closing.is)
    _ c.close.ensures

-- a step that was read, and what is known of it
step-read : (c : In-Ready) → c.read_record.result ≡ Ok (Ready c.in-Ready.step c.in-Ready.w c.in-Ready.next)
step-read c = let r : c.read_record.result ≡ Ok c.in_ok-read.read = search rules in r ∙ ap Ok c.in-Ready.is

step-ready : (c : In-Ready) → StepReady c.args.task.index c.loop-read.head c.in-Ready.step c.in-Ready.w
step-ready c = ready-is (step-read c) c.read_record.ensures.ready

pub take_step-answer-requires : goal.take_step-answer-requires
take_step-answer-requires c = step-ready (goal.at.take_step-answer-requires c).In-Ready

pub returns-in_err-facts-in-Ready : goal.returns-in_err-facts-in-Ready
returns-in_err-facts-in-Ready c =
    let p = err_from_is_err_and c.from_residual-in_err-facts-in-Ready.result c.from_residual-in_err-facts-in-Ready.ensures.1 in
    rw (p.1, p.2)
    (follow-refused c.loop-read.invariant c.read_record.result c.read_record.ensures.turn (step-read (goal.at.returns-in_err-facts-in-Ready c).In-Ready)
    c.take_step-answer.result _ c.take_step-answer.ensures.turn _ (search rules))

pub caller-requires : goal.caller-requires
caller-requires c =
    let ready = step-ready (goal.at.caller-requires c).In-Ready in
    (follow-fits c.loop-read.invariant ready).line

pub overflow_sub-depth : goal.overflow_sub-depth
overflow_sub-depth c = c.loop-read.invariant.above (step-ready (goal.at.overflow_sub-depth c).In-Ready).askable.case

pub moved-head-requires : goal.moved-head-requires
moved-head-requires c =
    let ready = step-ready (goal.at.moved-head-requires c).In-Ready in
    (rw c.instruction_of-instruction.ensures (follow-fits c.loop-read.invariant ready), c.args.task.held.case)

pub loop-read-smaller : goal.loop-read-smaller
loop-read-smaller c =
    let a : c.take_step-answer.result ≡ Ok c.in_ok-facts-in-Ready.facts = search rules in
    follow-falls c.loop-read.invariant c.read_record.result c.read_record.ensures.turn (step-read (goal.at.loop-read-smaller c).In-Ready)
    c.take_step-answer.result _ c.take_step-answer.ensures.turn a

pub loop-read-preserved : goal.loop-read-preserved
unfolding origin
loop-read-preserved c =
    let a : c.take_step-answer.result ≡ Ok c.in_ok-facts-in-Ready.facts = search rules in
    follow-on c.loop-read.invariant c.read_record.result c.read_record.ensures.turn (step-read (goal.at.loop-read-preserved c).In-Ready)
    c.take_step-answer.result _ c.take_step-answer.ensures.turn a c.read_record.ensures.ready c.take_step-answer.ensures.room c.caller.ensures refl
    c.instruction_of-instruction.ensures c.moved-head.ensures
