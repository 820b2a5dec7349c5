use Rattle.std.proofs.Common.{sym, ap, ◌∙◌, arith}
use Rattle.ot_c_judge.specs.Lacks.{lacks_by}
use Rattle.ot_c_judge.proofs.ReportLemmas.{none_lacks}
use Rattle.ot_c_judge.proofs.judging.lacking.Goals as goal

pub find_in-requires-clause-short : goal.find_in-requires-clause-short
find_in-requires-clause-short c =
    let p = c.args.program.now in
    omega (arith, p.statements_are, p.few)

pub returns-in-Ok : goal.returns-in-Ok
returns-in-Ok c = sym (ap (lacks_by c.args.offence) c.in-Ok.ensures.found ∙ none_lacks c.args.offence)

pub returns-in-Err : goal.returns-in-Err
returns-in-Err c = c.lacks_by.ensures ∙ sym (ap (lacks_by c.args.offence) c.in-Err.ensures.found)
