-- `task::reading::ask_preset` meets its contract: questions 7 and 8 decide, and the line is put where it belongs.
-- Assumes nothing.
use native.Mathlib.Omega.{arith}
use Rattle.task.proofs.Laws.Reading.{preset-line, preset-room, preset-no, preset-again, preset-yes}
use Rattle.task.proofs.reading.ask_preset.Goals as goal

pub returns-then-not-decodes_for : goal.returns-then-not-decodes_for
returns-then-not-decodes_for c = λ next o. preset-no _ _ _ next o _ _ _ c.triple_at-triple.ensures c.decodes_for.ensures c.if-not-decodes_for.true

pub bounds-presets-offset : goal.bounds-presets-offset
bounds-presets-offset c = preset-line _ _ _ _ _ _ c.decodes_for.ensures c.if-not-decodes_for.false c.requires.1 _ c.line_offset-offset.ensures

pub returns-then-presets-offset-ne0 : goal.returns-then-presets-offset-ne0
returns-then-presets-offset-ne0 c =
    λ next o. preset-again _ _ _ next o _ _ _ c.triple_at-triple.ensures c.decodes_for.ensures _
    c.line_offset-offset.ensures c.if-not-decodes_for.false (omega (arith, c.if-presets-offset-ne0.true))

pub put_triple-requires : goal.put_triple-requires
put_triple-requires c = preset-room _ _ _ _ _ _ c.decodes_for.ensures c.if-not-decodes_for.false c.requires.1 _ c.line_offset-offset.ensures c.args.presets.now c.told-presets

pub returns : goal.returns
returns c =
    λ next o. preset-yes _ _ _ next o _ _ _ c.triple_at-triple.ensures c.decodes_for.ensures _
    c.line_offset-offset.ensures c.if-not-decodes_for.false _ c.put_triple.ensures (omega (arith, c.if-presets-offset-ne0.false))
