use Rattle.std.proofs.Common.{sym, ap, ◌∙◌, arith}
use Rattle.ot_c_judge.specs.Doing.{done_by}
use Rattle.ot_c_judge.proofs.doing.done_at.Goals as goal

pub find_in-requires-clause-short : goal.find_in-requires-clause-short
find_in-requires-clause-short c =
    let p = c.args.program.now in
    omega (arith, p.statements_are, p.few)

pub returns-in-Ok : goal.returns-in-Ok
returns-in-Ok c = sym (ap (λ found. done_by found c.args.cell) c.in-Ok.ensures.found)

pub returns-in-Err : goal.returns-in-Err
returns-in-Err c = c.done_by.ensures ∙ sym (ap (λ found. done_by found c.args.cell) c.in-Err.ensures.found)
