use Rattle.std.proofs.Common.{subst}
use Rattle.ot_core.specs.Headline.{IsTold}
use Rattle.ot_core.specs.AccountView.{account_of}
use Rattle.ot_core.proofs.ToldLemmas.{told-first}
use Rattle.ot_core.proofs.tenant.Tenant.kept.Goals as goal

pub returns-clause-told : goal.returns-clause-told
returns-clause-told c = subst IsTold c.self.view_is (told-first (account_of c.self.inside) c.self.invariant.sound)
