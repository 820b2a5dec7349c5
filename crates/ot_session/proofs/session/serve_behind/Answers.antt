use Rattle.ot_session.proofs.LineLemmas.{served_nothing}
use Rattle.ot_session.proofs.session.serve_behind.Goals as goal

pub returns-then-is_err : goal.returns-then-is_err
returns-then-is_err g c = served_nothing c.args.book.now _ _ c.requires
