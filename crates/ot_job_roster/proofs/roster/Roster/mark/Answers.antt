use Rattle.std.proofs.Common.{sym, subst, arith}
use Rattle.std.proofs.lemmas.List.{length-map}
use Rattle.ot_job_roster.specs.Members.{Tells}
use Rattle.ot_job_roster.specs.RosterView.{kept_of}
use Rattle.ot_job_roster.proofs.TellsLemmas.{tells-marked}
use Rattle.ot_job_roster.proofs.roster.Roster.mark.Goals as goal

pub returns : goal.returns
returns c = λ n s test old.
    tells-marked n s test (kept_of c.self.inside) c.set.new.self.room c.args.number c.args.free c.set.new.self.listed (omega (arith, c.requires, old.numbered.long))
    (omega (arith, c.self.invariant.0, c.set.ensures.room, length-map c.self.inside.children.items (λ v. v.items), (subst (Tells n s test) (sym c.self.view_is) old).numbered.long))
    c.set.ensures.ordered c.set.ensures.noted c.set.ensures.others (subst (Tells n s test) (sym c.self.view_is) old)
