use Rattle.ot_session.proofs.LineLemmas.{served_nothing}
use Rattle.ot_session.proofs.session.serve.Goals as goal

pub returns-in_default : goal.returns-in_default
returns-in_default g c = served_nothing c.args.book.now _ _ c.requires
