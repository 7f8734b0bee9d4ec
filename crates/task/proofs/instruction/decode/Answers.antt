-- `task::instruction::decode` meets its contract: what is decoded is what is spelled, where its test says yes.
-- Assumes nothing.
use mathlib.Core.Path.{sym, ◌∙◌}
use Rattle.task.proofs.Laws.Instruction.{not-instruction, decode-spells, decode_is}
use Rattle.task.proofs.instruction.decode.Goals as goal

pub spelled-requires : goal.spelled-requires
spelled-requires c = decode-spells _ _ _ _ (sym c.decodes.ensures ∙ c.if-decodes.true)

pub returns-then-decodes : goal.returns-then-decodes
returns-then-decodes c = decode_is _ _ _ _ _ (sym c.decodes.ensures ∙ c.if-decodes.true) c.spelled.ensures

pub returns : goal.returns
returns c = sym (not-instruction _ (sym c.decodes.ensures ∙ c.if-decodes.false))
