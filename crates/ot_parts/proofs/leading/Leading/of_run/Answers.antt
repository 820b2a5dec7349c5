use Rattle.std.proofs.Common.{◌≡◌, ◌∙◌, List, ap, sym}
use Rattle.std.specs.Prelude.{Option, option_map}
use Rattle.ot_model.specs.Cells.{mode_in}
use Rattle.ot_model.specs.Tree.{E}
use Rattle.ot_model.specs.View.{expr_of}
use Rattle.ot_parts.specs.Assigns.{assigns_of}
use Rattle.ot_parts.specs.Modes.{strongest, held_as, piece_touches}
use Rattle.ot_parts.specs.declared.assign.Assign.{Assign}
use Rattle.ot_parts.proofs.HoldingLemmas.{held-strongest}
use Rattle.ot_parts.proofs.RestLemmas.{map-now}
use Rattle.ot_parts.proofs.leading.Leading.of_run.Goals as goal

pub returns-clause-held : goal.returns-clause-held
returns-clause-held c = λ cell.
    let own = option_map (λ o. o.now) c.args.own in
    let test : option_map (λ e. expr_of e.now) c.as_ref.result ≡ option_map expr_of c.args.condition = map-now (λ e. e.now) expr_of c.as_ref.result c.args.condition c.as_ref.ensures.value in
    c.in_ok-hold.ensures.exact cell
    ∙ ap (option_map (held_as own cell)) (ap (λ us. mode_in us cell) c.in_ok-uses.ensures ∙ c.in_ok-touched.ensures.exact cell
    ∙ ap (λ (l : List Assign). strongest (piece_touches (assigns_of l) (option_map (λ e. expr_of e.now) c.as_ref.result)) cell) c.deref.ensures.value
    ∙ ap (λ (t : Option E). strongest (piece_touches (assigns_of c.args.run.items) t) cell) test)
    ∙ sym (held-strongest own (piece_touches (assigns_of c.args.run.items) (option_map expr_of c.args.condition)) cell)
