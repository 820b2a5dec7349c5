use Rattle.std.proofs.Common.{◌≡◌, ◌==◌, List, [], ◌∷◌, length, not, refl, ap, ◌∙◌, arith}
use Rattle.std.proofs.lemmas.Bool.Decides.{nat_tests}
use Rattle.ot_model.specs.declared.expr.Section.{Section}
use Rattle.ot_show_c.specs.Programs.{any_shown}
use Rattle.ot_show_c.proofs.whole.any_shown.Goals as goal

by_length : (ss : List Section) → not (length ss == 0) ≡ any_shown ss
by_length [] = refl
by_length (s ∷ ss) = grind (arith, nat_tests)

pub returns : goal.returns
returns c = ap not c.is_empty.ensures ∙ by_length c.args.shows.now
