use Rattle.std.proofs.Common.{◌≡◌, subst, true}
use Rattle.ot_model.specs.Cells.{lengths}
use Rattle.ot_model.specs.View.{stmts_of}
use Rattle.ot_c_judge.proofs.FindingLemmas.{finds_nowhere}
use Rattle.ot_c_judge.proofs.finding.find_race.Goals as goal

pub any_way-requires : goal.any_way-requires
any_way-requires c = (lengths c.args.cells, c.requires)

pub returns-then-is_clean : goal.returns-then-is_clean
returns-then-is_clean c = λ refused.
    finds_nowhere c.args.order (stmts_of c.args.program.now.body.items) c.args.cells c.in_ok-told.told c.runs_are_ways.ensures c.requires c.in_ok-told.ensures
    (subst (λ b. b ≡ true) c.is_clean.ensures c.if-is_clean.true)
