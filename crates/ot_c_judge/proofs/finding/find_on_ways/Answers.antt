use Rattle.std.proofs.Common.{◌∙◌, sym, subst}
use Rattle.ot_model.specs.View.{stmts_of}
use Rattle.ot_c_judge.specs.Findings.{Finds}
use Rattle.ot_c_judge.proofs.FindingLemmas.{finds_straight, finds_told}
use Rattle.ot_c_judge.proofs.finding.find_on_ways.Goals as goal

pub returns-then-straight : goal.returns-then-straight
returns-then-straight c = λ cells none refused.
    finds_straight c.args.order (stmts_of c.args.program.now.body.items) cells c.straight_ways_are_runs.ensures (sym c.is_straight-straight.ensures ∙ c.if-straight.true) none

pub returns : goal.returns
returns c = λ cells none refused.
    let body = stmts_of c.args.program.now.body.items in
    subst (Finds c.args.order body cells) (sym c.finding_of.ensures)
    (finds_told c.args.order body cells c.in_ok-told.told (sym c.is_straight-straight.ensures ∙ c.if-straight.false) none c.in_ok-told.ensures refused)
