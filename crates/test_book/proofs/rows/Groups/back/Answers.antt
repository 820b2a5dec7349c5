use Rattle.std.proofs.Common.{◌∙◌, sym, subst, arith}
use Rattle.std.specs.Prelude.{IsSome}
use Rattle.ot_model.specs.Cells.{cell_of}
use Rattle.test_book.specs.TwoGroups.{AreTwo}
use Rattle.test_book.proofs.TwoLemmas.{there, all-lent, two-back}
use Rattle.test_book.proofs.rows.Groups.back.Goals as goal

pub give_back-requires-clause-there : goal.give_back-requires-clause-there
give_back-requires-clause-there c =
    all-lent (λ d. IsSome (cell_of c.self.inside.cells d)) c.args.lent c.args.index c.requires.lent (there c.self.inside.cells c.args.index c.self.invariant.1 (omega (arith, c.requires.named)))

pub invariant_of-self : goal.invariant_of-self
invariant_of-self c =
    (subst (AreTwo c.self.inside.op) (sym c.give_back.ensures.groups) (two-back c.args.worker c.self.inside.op c.args.lent c.self.inside.owners.owned.groups c.self.invariant.0), c.give_back.ensures.lengths ∙ c.self.invariant.1)
