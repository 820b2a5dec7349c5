use Rattle.std.proofs.Common.{◌↔◌, List, IsTrue, subst}
use Rattle.ot_depend.specs.Siblings.{Sibling, IsReady}
use Rattle.ot_depend.proofs.ReadyLemmas.{is_ready-told}
use Rattle.ot_depend.proofs.siblings.Siblings.ready.Goals as goal

pub returns-clause-test : goal.returns-clause-test
returns-clause-test c = is_ready-told c.is_ready.result c.args.self.now c.args.child
    (subst (λ (s : List Sibling). IsTrue c.is_ready.result ↔ IsReady s c.args.child) c.self.view_is c.is_ready.ensures)
