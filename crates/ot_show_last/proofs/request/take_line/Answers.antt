use Rattle.std.proofs.Common.{sym, ◌∙◌}
use Rattle.ot_show_last.proofs.GoingLemmas.{stops_bye}
use Rattle.ot_show_last.proofs.LineLemmas.{full_line, now_line, some-opened, run_goes}
use Rattle.ot_show_last.proofs.request.take_line.Goals as goal

pub returns-then-is_bye : goal.returns-then-is_bye
returns-then-is_bye c = λ bytes going. stops_bye going (sym c.is_bye.ensures ∙ c.if-is_bye.true)

pub returns-in-Full : goal.returns-in-Full
returns-in-Full c = λ bytes going.
    full_line _ _ c.next_number-number.result going (sym c.is_bye.ensures ∙ c.if-is_bye.false) c.in-Ok.ensures.opened c.in-Full.is c.next_number-number.ensures

pub answered-requires : goal.answered-requires
answered-requires c = some-opened _ _ _ _ c.in-Ok.ensures.opened c.in-Answered.is

pub returns-in-Answered : goal.returns-in-Answered
returns-in-Answered c = λ bytes going.
    now_line _ _ c.next_number-number.result c.answered.result going (sym c.is_bye.ensures ∙ c.if-is_bye.false) c.in-Ok.ensures.opened c.in-Answered.is
    c.next_number-number.ensures c.answered.ensures

pub returns-in-ToRun : goal.returns-in-ToRun
returns-in-ToRun c = λ bytes going.
    run_goes _ _ _ c.in-ToRun.spec c.run.result _ going (sym c.is_bye.ensures ∙ c.if-is_bye.false) c.in-Ok.ensures.opened c.in-ToRun.is
    c.run.ensures.closed c.run.ensures.last c.run.ensures.memory
