use Rattle.std.proofs.Common.{◌≡◌, ◌+◌, ◌∙◌, List, [], ◌∷◌, ap, sym, take}
use Rattle.ot_model.specs.declared.stmt.Use.{Use}
use Rattle.ot_depend.specs.Children.{kids_of}
use Rattle.ot_depend.specs.Siblings.{waits_for}
use Rattle.ot_depend.specs.View.{siblings_in}
use Rattle.ot_depend.specs.Cells.{some_must_wait}
use Rattle.ot_depend.proofs.WaitsLemmas.{rows-waits_for}
use Rattle.ot_depend.proofs.kept.Kept.count_free.Goals as goal

pub returns : goal.returns
returns c =
    let k = c.args.self.now in
    let n = c.count_free.result in
    let same : (uses : List Use) → some_must_wait (kids_of c.deref.result.now) k.cells uses ≡ waits_for (siblings_in k) uses =
    λ uses. ap (λ children. some_must_wait (kids_of children) k.cells uses) c.deref.ensures.value
    ∙ rows-waits_for (kids_of k.children.items) c.requires.ready k.cells c.requires.rows uses in
    record {
      from = c.count_free.ensures.from;
      bounded = c.count_free.ensures.bounded;
      free = λ before. sym (same (take n c.args.uses.now)) ∙ c.count_free.ensures.free (same (take c.args.from c.args.uses.now) ∙ before);
      held = λ within. sym (same (take (n + 1) c.args.uses.now)) ∙ c.count_free.ensures.held within;
      passed = λ i u from here there. sym (same (u ∷ [])) ∙ c.count_free.ensures.passed i u from here there;
      stopped = λ u there. sym (same (u ∷ [])) ∙ c.count_free.ensures.stopped u there;
      whole = λ within. sym (same c.args.uses.now) ∙ c.count_free.ensures.whole within;
    }
