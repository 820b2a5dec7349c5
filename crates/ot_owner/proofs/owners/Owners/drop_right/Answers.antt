use Rattle.ot_owner.specs.Lending.{lease_of}
use Rattle.ot_owner.specs.Kept.{loans_in, summeds_of}
use Rattle.ot_owner.specs.Owning.{Loan}
use Rattle.ot_owner.proofs.OpenLemmas.{ended-sound}
use Rattle.ot_owner.proofs.owners.Owners.drop_right.Goals as goal

pub invariant_of-self : goal.invariant_of-self
invariant_of-self c =
    let loan : Loan = record { worker = c.args.worker; lease = lease_of c.keyed.result.now.cells.items } in
    ended-sound loan (loans_in c.self.inside.rights) (loans_in c.end-right.new.self) (summeds_of c.self.inside.groups.items) c.end-right.ensures.ended c.self.invariant
