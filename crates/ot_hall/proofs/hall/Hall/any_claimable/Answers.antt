use Rattle.std.proofs.Common.{sym, ◌∙◌, subst}
use Rattle.ot_hall.specs.Floors.{Floor, NothingAnywhere}
use Rattle.ot_hall.proofs.TurnLemmas.{any-marked, none-marked}
use Rattle.ot_hall.proofs.hall.Hall.any_claimable.Goals as goal

pub returns-clause-some : goal.returns-clause-some
returns-clause-some c is_so =
    subst (λ (f : Floor). ¬ (NothingAnywhere f.jobs)) c.self.view_is
    (any-marked c.self.inside.marks c.self.inside.jobs c.first_from.result c.self.invariant.marks c.first_from.ensures (sym c.is_some.ensures ∙ is_so))

pub returns-clause-none : goal.returns-clause-none
returns-clause-none c not_so =
    subst (λ (f : Floor). NothingAnywhere f.jobs) c.self.view_is
    (none-marked c.self.inside.marks c.self.inside.jobs c.first_from.result c.self.invariant.marks c.first_from.ensures (sym c.is_some.ensures ∙ not_so))
