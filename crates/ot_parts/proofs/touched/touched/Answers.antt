use Rattle.std.proofs.Common.{arith, ◌≡◌, ◌∙◌, [], sym, ap, drop}
use Rattle.std.specs.Prelude.{List, option_map}
use Rattle.std.specs.List.{fold}
use Rattle.std.proofs.lemmas.List.{drop_all}
use Rattle.std.proofs.lemmas.List.Sums.{fold-append}
use Rattle.ot_model.specs.View.{expr_of}
use Rattle.ot_parts.specs.Assigns.{assigns_of}
use Rattle.ot_parts.specs.declared.assign.Assign.{Assign}
use Rattle.ot_model.specs.Cells.{mode_in}
use Rattle.ot_parts.specs.Modes.{mode_added, strongest, assign_touches, test_touches}
use Rattle.ot_parts.proofs.touched.touched.Goals as goal

pub returns-clause-exact : goal.returns-clause-exact
returns-clause-exact c = λ cell.
    let f = mode_added cell in
    let more = test_touches (option_map (λ e. expr_of e.now) c.args.condition) in
    let none : drop c.loop-assign.assign-index c.args.assigns.now ≡ [] = drop_all c.loop-assign.assign-index c.args.assigns.now (omega (arith, c.loop-assign-test.false)) in
    ap (λ us. mode_in us cell) c.new.ensures ∙ c.in_ok-into_uses.ensures.exact cell ∙ c.in_ok-note_test.ensures cell
    ∙ ap (λ o. fold f o more) (ap (λ (xs : List Assign). fold f (strongest c.loop-assign.held cell) (assign_touches (assigns_of xs))) (sym none) ∙ c.loop-assign.invariant.0 cell)
    ∙ sym (fold-append f _ (assign_touches (assigns_of c.args.assigns.now)) more)
