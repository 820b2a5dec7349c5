use Rattle.std.proofs.Common.{◌∙◌}
use Rattle.std.specs.Prelude.{Some, None}
use Rattle.ot_model.specs.View.{expr_of}
use Rattle.ot_race_ways.proofs.BranchLemmas.{needs_none, same_number}
use Rattle.ot_race_ways.proofs.known.number_of.Goals as goal

pub value-requires : goal.value-requires
value-requires c = needs_none (λ d. Some 0) (expr_of c.args.expr.now) c.requires

pub returns : goal.returns
returns c = c.value.ensures ∙ same_number (λ d. Some 0) (λ d. None) (expr_of c.args.expr.now) c.requires
