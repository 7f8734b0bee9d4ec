-- `task::reading::ask_case` meets its contract: questions 4 and 6 decide.
-- Assumes nothing.
use Rattle.task.proofs.Laws.Reading.{case_full, case-no, case-yes}
use Rattle.task.proofs.reading.ask_case.Goals as goal

pub returns-then-p-ge32 : goal.returns-then-p-ge32
returns-then-p-ge32 c = λ next o q. case_full _ _ _ next o q c.if-p-ge32.true

pub returns-then-case_consistent : goal.returns-then-case_consistent
returns-then-case_consistent c =
    λ next o q. case-yes _ _ _ next o q c.if-p-ge32.false _ _ _ c.case_body_at.ensures.0 c.case_body_at.ensures.1
    c.case_consistent.ensures c.if-case_consistent.true

pub returns : goal.returns
returns c =
    λ next o q. case-no _ _ _ next o q c.if-p-ge32.false _ _ _ c.case_body_at.ensures.0 c.case_body_at.ensures.1
    c.case_consistent.ensures c.if-case_consistent.false
