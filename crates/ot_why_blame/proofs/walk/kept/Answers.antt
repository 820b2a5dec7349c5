use Rattle.std.proofs.Common.{◌∙◌}
use Rattle.ot_model.specs.View.{stmts_of}
use Rattle.ot_why_blame.specs.Walk.{pending_of}
use Rattle.ot_why_blame.proofs.FindLemmas.{carried_after}
use Rattle.ot_why_blame.proofs.walk.kept.Goals as goal

pub returns-then-search-place : goal.returns-then-search-place
returns-then-search-place c =
    c.requires ∙ carried_after c.args.search.now.child (pending_of c.args.child) c.args.place (stmts_of c.args.body.now.items) c.if-search-place.true
