use Rattle.std.proofs.Common.{sym, ap, ◌∙◌}
use Rattle.std.specs.Prelude.{IsSome, is_some, false}
use Rattle.ot_core.specs.AccountView.{account_of}
use Rattle.ot_core.specs.Accounts.{with_reply}
use Rattle.ot_core.proofs.AccountLemmas.{tenant-replied, below-open, closed-is}
use Rattle.ot_core.proofs.tenant.Tenant.close.Goals as goal

open_at : (c : goal.After-close) → IsSome c.self.inside.spec
open_at c = ap is_some (sym c.take.ensures.value ∙ c.in-Some.is)

pub invariant_of-self : goal.invariant_of-self
invariant_of-self c =
    let a = account_of c.self.inside in
    tenant-replied a false _ c.self.invariant.sound (below-open a c.self.invariant.sound (open_at c)) c.self.invariant.since
    (sym (closed-is a false _ _ c.self.invariant.sound (open_at c) c.close.ensures c.take.ensures.after))

pub returns-clause-sound : goal.returns-clause-sound
returns-clause-sound c = (invariant_of-self c).sound

pub returns-clause-is : goal.returns-clause-is
returns-clause-is c =
    sym (closed-is (account_of c.self.inside) false _ _ c.self.invariant.sound (open_at c) c.close.ensures c.take.ensures.after) ∙ ap (λ a. with_reply a false) c.self.view_is
