-- The starred cases hold by computation: with every definition unfolded on the way from the bytes to the answers, the two lists are the same. So do the two
-- equations of the double-click task: its bytes, and the task that they are read as.
-- Assumes nothing.
use mathlib.Core.Path.{refl}
use Rattle.records.specs.Loop as loop
use Rattle.records.specs.Numbers as numbers
use Rattle.records.specs.Record as records
use Rattle.task.specs.Bounds as bounds
use Rattle.task.specs.Facts as sets
use Rattle.task.specs.First as first
use Rattle.task.specs.Index as index
use Rattle.task.specs.Instruction as instruction
use Rattle.task.specs.Program as program
use Rattle.task.specs.Reading as reading
use Rattle.task.specs.TaskAt as task
use Rattle.task_file.specs.Bytes as bytes
use mathlib.Core.List as list
use Rattle.step.specs.Effects as effects
use Rattle.step.specs.Facts as facts
use Rattle.step.specs.Perform as perform
use Rattle.step.specs.Position as position
use Rattle.checker.specs.Answer as answer
use Rattle.checker.specs.Check as check
use Rattle.checker.specs.Plan as plan
use Rattle.checker.specs.Write as write
use Rattle.demands.specs.Starred.{AsPrinted, DoubleClick, answer_to, table, Starred}

-- the pieces give the printed bytes
pub as-printed : AsPrinted
unfolding numbers.number_bytes records.record_bytes records.closing
as-printed = (refl, refl)

-- the task's bytes are the table's, and are read as the task
pub double-click : DoubleClick
unfolding
    loop.ask loop.after loop.turns loop.loop numbers.if_there numbers.u16_at numbers.u64_at numbers.number_bytes records.whole records.record_at records.record_bytes records.closing
    bounds.bounds_at bounds.in_range sets.literals_at sets.within sets.consistent sets.case_consistent sets.pair_consistent sets.pairs_before_fault_at first.first_no_from first.first_no
    index.row_from index.action_at index.effect_at index.effects_of index.case_at
    reading.no_index reading.no_layout reading.begin reading.accepted reading.may_stand reading.by_kind reading.length_fits reading.header_turn reading.action_turn
    reading.case_turn reading.close_turn reading.kind_turn reading.on_record reading.turn_of reading.read_task
    task.action_of task.first_preset task.task_at task.task_of list.flat_map
    bytes.pair_bytes bytes.effect_pairs bytes.action_pairs bytes.bounds_record bytes.action_record bytes.preset_record bytes.case_record bytes.task_bytes
double-click = (refl, refl)

-- the definitions give the table's answers
pub starred : Starred
unfolding answer_to table
    loop.ask loop.after loop.turns loop.loop numbers.if_there numbers.u16_at numbers.u64_at numbers.number_bytes records.whole records.record_at records.record_bytes records.closing
    bounds.bounds_at bounds.in_range bounds.line_count sets.literals_at sets.within sets.consistent sets.case_consistent sets.pair_consistent sets.pairs_before_fault_at
    first.first_no_from first.first_no index.row_from index.action_at index.effect_at index.effects_of index.case_at
    instruction.keep instruction.spelled instruction.allowed instruction.where_allowed instruction.decode instruction.decode_for
    instruction.encode instruction.triple_at instruction.with_triple
    program.line_offset program.instruction_on program.spelled_on program.is_instruction program.line_allowed program.same_triple program.preset_held
    program.every_line program.program_verdict
    reading.no_layout reading.begin reading.accepted reading.may_stand reading.by_kind reading.length_fits reading.header_turn reading.action_turn
    reading.case_turn reading.close_turn reading.kind_turn reading.on_record reading.turn_of reading.read_task
    effects.fired effects.some_has effects.changes_of effects.true_after effects.changed
    facts.has facts.set_of facts.every facts.agrees facts.holds
    perform.act perform.goto perform.call perform.after_case perform.end perform.perform perform.perform_decoded perform.run_line
    perform.run_step
    position.origin position.same_frame position.starting position.top position.jumped position.advanced position.with_facts
    position.next_case position.finished position.counted
    answer.passing answer.filled answer.answer
    check.line_fits check.written check.on_move check.on_step check.on_decoded check.step_turn check.close_turn check.on_record check.turn_of
    check.begin check.follow check.check
    plan.instruction_of plan.kind_of plan.step_of plan.is_kind plan.length_fits plan.frame_at plan.record_of plan.plan_size
    write.step_on write.on_step write.write_turn write.start write.run write.program_result write.on_finish write.write
starred = refl
