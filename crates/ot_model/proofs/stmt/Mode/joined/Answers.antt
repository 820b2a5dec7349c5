use Rattle.std.proofs.Common.{◌∙◌, ap}
use Rattle.ot_model.specs.Cells.{first_of}
use Rattle.ot_model.specs.Joining.{join_by}
use Rattle.ot_model.specs.Monoids.{join-neutral}
use Rattle.ot_model.proofs.stmt.Mode.joined.Goals as goal

pub returns-in-Folds-clause-unchanged : goal.returns-in-Folds-clause-unchanged
returns-in-Folds-clause-unchanged c = λ same.
    c.join.ensures ∙ ap (join_by c.in-Folds.op c.args.stored) (same ∙ ap (λ m. first_of m c.args.stored) c.in-Folds.is)
    ∙ (join-neutral c.in-Folds.op c.args.stored c.ranges.stored.fits).0
