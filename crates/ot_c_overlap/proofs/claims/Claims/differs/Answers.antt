use Rattle.std.proofs.Common.{sym}
use Rattle.ot_c_overlap.proofs.ClaimLemmas.{not_true}
use Rattle.ot_c_overlap.proofs.claims.Claims.differs.Goals as goal

pub returns-in-Some-clause-some : goal.returns-in-Some-clause-some
returns-in-Some-clause-some c = λ same.
    (c.in-Some.section.now, sym c.in-Some.ensures.value, c.are_same.ensures.apart (not_true c.are_same.result same))
