use Rattle.std.proofs.Common.{true≢false, sym}
use Rattle.ot_model.proofs.SameLemmas.{same-length}
use Rattle.ot_model.proofs.stmt.+same.Goals as goal

pub same_stmts-returns-then-ones-twos : goal.same_stmts-returns-then-ones-twos
same_stmts-returns-then-ones-twos t c =
    ((λ h. absurd (true≢false (sym h))), λ h. absurd (c.if-ones-twos.true (same-length c.args.ones.now c.args.twos.now h)))
