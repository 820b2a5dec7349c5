use Rattle.std.proofs.Common.{◌<◌, sym, subst, arith}
use Rattle.std.proofs.lemmas.List.{length-map}
use Rattle.ot_job_roster.specs.Members.{Tells, told_put}
use Rattle.ot_job_roster.specs.RosterView.{kept_of}
use Rattle.ot_job_roster.proofs.TellsLemmas.{some-out, tells-back, tells-marked}
use Rattle.ot_job_roster.proofs.roster.Roster.stop.Goals as goal

pub overflow_sub-self : goal.overflow_sub-self
overflow_sub-self c =
    let knows = c.requires in
    some-out knows.count knows.members knows.test (kept_of c.self.inside) c.args.number (subst (Tells knows.count knows.members knows.test) (sym c.self.view_is) knows.tells) knows.known knows.holds

pub returns : goal.returns
returns c = λ n s test old out.
    let t = subst (Tells n s test) (sym c.self.view_is) old in
    let within : c.args.number < n = omega (arith, c.requires.known, c.requires.tells.numbered.long, old.numbered.long) in
    tells-back n s (told_put test c.args.number c.args.free) _ c.args.number within out
    (tells-marked n s test (kept_of c.self.inside) c.set.new.self.room c.args.number c.args.free c.set.new.self.listed within
    (omega (arith, c.self.invariant.0, c.set.ensures.room, length-map c.self.inside.children.items (λ v. v.items), t.numbered.long)) c.set.ensures.ordered c.set.ensures.noted c.set.ensures.others t)
