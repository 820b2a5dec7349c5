use Rattle.std.proofs.Common.{◌≡◌, sym, ap, ◌∙◌}
use Rattle.std.specs.BTreeSet.{keys_between}
use Rattle.std.specs.declared.ops.Bound.TheVariants.{Included, Unbounded}
use Rattle.ot_c_scope.proofs.CellLemmas.{key_cmp, first_is, first_tells}
use Rattle.ot_c_scope.proofs.openings.are_pointed.Goals as goal

pub returns-in-Some : goal.returns-in-Some
returns-in-Some c =
    let is : c.range.result ≡ keys_between key_cmp (Included (c.args.array, c.first_of.result)) Unbounded c.args.pointees.now = c.range.ensures.between tt in
    c.points_into.ensures
    ∙ ap (first_is c.args.array c.args.cells) (sym c.in-Some.ensures.steps ∙ is ∙ ap (λ f. keys_between key_cmp (Included (c.args.array, f)) Unbounded c.args.pointees.now) c.first_of.ensures)
    ∙ first_tells c.args.array c.args.cells c.args.pointees.now.keys c.range.ensures.ordered

pub returns-in-None : goal.returns-in-None
returns-in-None c =
    let is : c.range.result ≡ keys_between key_cmp (Included (c.args.array, c.first_of.result)) Unbounded c.args.pointees.now = c.range.ensures.between tt in
    ap (first_is c.args.array c.args.cells) (sym c.in-None.ensures.steps.0 ∙ is ∙ ap (λ f. keys_between key_cmp (Included (c.args.array, f)) Unbounded c.args.pointees.now) c.first_of.ensures)
    ∙ first_tells c.args.array c.args.cells c.args.pointees.now.keys c.range.ensures.ordered
