use Rattle.std.proofs.Common.{◌∙◌, sym, inl, inr, true≢false}
use Rattle.ot_model.specs.View.{stmts_of}
use Rattle.ot_c_judge.proofs.FindingLemmas.{run_races_not}
use Rattle.ot_c_judge.proofs.finding.find_in_accepted.Goals as goal

pub returns-then-is_alike : goal.returns-then-is_alike
returns-then-is_alike c = λ fine.
    let body = stmts_of c.args.program.now.body.items in
    let alike = sym c.is_alike.ensures ∙ c.if-is_alike.true in
    let none = c.accepted_races_on_no_way_by.ensures c.args.order body alike fine in
    (run_races_not c.args.order body c.args.cells c.runs_are_ways.ensures c.requires none, inr (inl (fine, alike)), none)

pub returns-else-is_alike : goal.returns-else-is_alike
returns-else-is_alike c = λ fine. c.find_race.ensures (λ accepted. true≢false (sym accepted.1 ∙ sym c.is_alike.ensures ∙ c.if-is_alike.false))
