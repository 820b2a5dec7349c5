use Rattle.ot_c_overlap.proofs.ClaimLemmas.{whole_here}
use Rattle.ot_c_overlap.proofs.claims.Claims.claim.Goals as goal

pub returns-then-has_claimed : goal.returns-then-has_claimed
returns-then-has_claimed c = whole_here c.args.item.now c.args.self.now c.requires (c.has_claimed.ensures c.if-has_claimed.true)
