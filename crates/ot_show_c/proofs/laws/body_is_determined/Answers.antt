use Rattle.ot_show_c.proofs.StatementLemmas.{body_law}
use Rattle.ot_show_c.proofs.laws.body_is_determined.Goals as goal

pub returns : goal.returns
returns c = body_law
