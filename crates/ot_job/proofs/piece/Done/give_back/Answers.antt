use Rattle.std.proofs.Common.{◌≡◌, List, ap, subst, All}
use Rattle.ot_job.proofs.Common.{Writes, IsSummed, AreJoined, worth, LentCell, Came}
use Rattle.ot_job.proofs.piece.Done.give_back.Goals as goal

pub returns-clause-worth : goal.returns-clause-worth
returns-clause-worth c =
    let owners = c.args.owners.now.owned in
    let now = c.give_back.new in
    subst
    (λ (lent : List LentCell). All (λ l. l.mode ≡ Writes → ¬ IsSummed owners.groups l.cell) lent → AreJoined lent (worth owners c.args.cells.now) (worth now.self.owned now.cells))
    (ap (λ (d : Came). d.lent) c.self.view_is) c.give_back.ensures.worth
