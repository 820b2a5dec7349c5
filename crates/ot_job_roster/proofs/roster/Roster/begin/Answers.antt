use Rattle.std.proofs.Common.{false, ◌<◌, sym, subst, arith}
use Rattle.std.proofs.lemmas.List.{length-map}
use Rattle.ot_job_roster.specs.Members.{Tells, told_put}
use Rattle.ot_job_roster.specs.RosterView.{kept_of}
use Rattle.ot_job_roster.proofs.TellsLemmas.{out-few, tells-marked, tells-out}
use Rattle.ot_job_roster.proofs.roster.Roster.begin.Goals as goal

pub invariant_of-self : goal.invariant_of-self
invariant_of-self c =
    let knows = c.requires in
    let few = out-few knows.count knows.members knows.test (kept_of c.self.inside) c.args.number (subst (Tells knows.count knows.members knows.test) (sym c.self.view_is) knows.tells) knows.known knows.holds in
    (omega (arith, c.self.invariant.0, c.set.ensures.room), omega (arith, few, length-map c.self.inside.children.items (λ v. v.items)), c.self.invariant.2)

pub returns : goal.returns
returns c = λ n s test old idle.
    let t = subst (Tells n s test) (sym c.self.view_is) old in
    let within : c.args.number < n = omega (arith, c.requires.known, c.requires.tells.numbered.long, old.numbered.long) in
    tells-out n s (told_put test c.args.number false) _ c.args.number within idle
    (tells-marked n s test (kept_of c.self.inside) c.set.new.self.room c.args.number false c.set.new.self.listed within
    (omega (arith, c.self.invariant.0, c.set.ensures.room, length-map c.self.inside.children.items (λ v. v.items), t.numbered.long)) c.set.ensures.ordered c.set.ensures.noted c.set.ensures.others t)
