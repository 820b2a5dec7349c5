use Rattle.std.proofs.Common.{◌∷◌, sym}
use Rattle.std.proofs.lemmas.List.Sorted.{IsPermutation-sym}
use Rattle.ot_owner.specs.Lending.{lease_of}
use Rattle.ot_owner.specs.Owning.{Loan}
use Rattle.ot_owner.specs.Kept.{loans_in}
use Rattle.ot_owner.proofs.SlotLemmas.{held-more}
use Rattle.ot_owner.proofs.rights.Rights.end.Goals as goal

pub returns-clause-ended : goal.returns-clause-ended
returns-clause-ended c =
    let loan : Loan = record { worker = c.args.worker; lease = lease_of c.args.lent.now.cells.items } in
    let left = c.remove.new.self in
    IsPermutation-sym (loan ∷ loans_in (record { loans = left })) (loans_in c.args.self.now)
    (held-more loan left.slots c.args.self.now.loans.slots c.key_of-key.result c.remove.ensures.updates.changed c.key_of-key.ensures.there
    (λ k other. sym (c.remove.ensures.updates.others k other)))
