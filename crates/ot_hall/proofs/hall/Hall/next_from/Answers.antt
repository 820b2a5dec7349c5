use Rattle.std.proofs.Common.{subst}
use Rattle.std.specs.Prelude.{Some}
use Rattle.ot_hall.specs.Floors.{Floor}
use Rattle.ot_hall.specs.Index.{IsNext}
use Rattle.ot_hall.proofs.TurnLemmas.{next-on, next-again}
use Rattle.ot_hall.proofs.hall.Hall.next_from.Goals as goal

pub returns-in-Some : goal.returns-in-Some
returns-in-Some c =
    subst (λ (f : Floor). IsNext f.jobs c.args.first (Some c.in-Some.tenant)) c.self.view_is
    (next-on c.self.inside.marks c.self.inside.jobs c.args.first c.in-Some.tenant c.self.invariant.marks c.in-Some.ensures)

pub returns-in-None : goal.returns-in-None
returns-in-None c =
    subst (λ (f : Floor). IsNext f.jobs c.args.first c.first_from-in-None.result) c.self.view_is
    (next-again c.self.inside.marks c.self.inside.jobs c.args.first c.first_from-in-None.result c.self.invariant.marks c.in-None.ensures c.first_from-in-None.ensures)
