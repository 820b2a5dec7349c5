use Rattle.std.proofs.Common.{◌∙◌, sym}
use Rattle.ot_c_scope.proofs.KeptLemmas.{first_new, first_kept}
use Rattle.ot_c_scope.proofs.portions.with_oldest.Goals as goal

pub returns-then-contains_key : goal.returns-then-contains_key
returns-then-contains_key c = λ x. first_kept c.args.oldest c.args.portion x (sym c.contains_key.ensures ∙ c.if-contains_key.true)

pub returns : goal.returns
returns c = λ x. c.in_ok-insert.ensures.updates.0 x ∙ first_new c.args.oldest c.args.portion x (sym c.contains_key.ensures ∙ c.if-contains_key.false)
