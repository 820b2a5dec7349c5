use Rattle.std.proofs.Common.{sym, subst}
use Rattle.ot_job_roster.specs.Members.{Tells}
use Rattle.ot_job_roster.specs.RosterView.{kept_of}
use Rattle.ot_job_roster.proofs.TellsLemmas.{some-unended, tells-ended}
use Rattle.ot_job_roster.proofs.roster.Roster.end.Goals as goal

pub overflow_sub-self : goal.overflow_sub-self
overflow_sub-self c =
    let knows = c.requires.1 in
    some-unended knows.count knows.members knows.test (kept_of c.self.inside) c.requires.0 (subst (Tells knows.count knows.members knows.test) (sym c.self.view_is) knows.tells) knows.known knows.holds

pub returns : goal.returns
returns c = λ n s test number old within alive.
    tells-ended n s test (kept_of c.self.inside) number within alive (subst (Tells n s test) (sym c.self.view_is) old)
