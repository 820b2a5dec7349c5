use Rattle.std.proofs.Common.{subst}
use Rattle.ot_model.specs.View.{stmts_of}
use Rattle.ot_check.specs.Offences.{Offends, IsFirstOf}
use Rattle.ot_c_judge.proofs.finding.find.Goals as goal

pub returns-in-None : goal.returns-in-None
returns-in-None c = λ first. c.find_in_accepted.ensures (subst (IsFirstOf (Offends (stmts_of c.args.program.now.body.items))) c.in-None.is first)

pub returns-in-Some : goal.returns-in-Some
returns-in-Some c = λ first.
    let told = subst (IsFirstOf (Offends (stmts_of c.args.program.now.body.items))) c.in-Some.is first in
    c.find_in_refused.ensures (λ accepted. accepted.0 _ _ told.0)
