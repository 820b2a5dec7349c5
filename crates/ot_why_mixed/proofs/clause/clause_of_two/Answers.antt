use Rattle.std.proofs.Common.{◌≡◌, ◌∙◌, [], Some, sym, ap, subst}
use Rattle.std.specs.Prelude.{option_map}
use Rattle.serde_json.specs.Data.{Data}
use Rattle.serde_json.specs.View.{view}
use Rattle.ot_program.specs.Faults.{clause_faults}
use Rattle.ot_program.specs.Meanings.{clause}
use Rattle.ot_why_place.specs.Spots.{trail_bindings}
use Rattle.ot_why_mixed.specs.Rows.{row_of, row_by, Fits}
use Rattle.ot_why_mixed.proofs.ClauseLemmas.{two_items, two_folds, folds_row}
use Rattle.ot_why_mixed.proofs.clause.clause_of_two.Goals as goal

pub returns-clause-row : goal.returns-clause-row
returns-clause-row c shape profile arrays none =
    let variables = trail_bindings c.args.trail.now in
    let items = two_items c.args.items.now _ _ c.requires c.tag-item.is c.section-item.is in
    let f = two_folds shape profile variables (view c.tag-item.result) (view c.section-item.result) (subst (λ (d : Data). clause_faults shape profile variables d ≡ []) items none) in
    subst (λ (d : Data). option_map row_by c.section_of.result ≡ Some (row_of shape (clause shape profile variables d))) (sym items)
    (c.section_of.ensures.row shape arrays f.faultless
    ∙ ap Some (folds_row shape profile variables _ (view c.section-item.result) _ c.fold_of_word.result f c.fold_of_word.ensures))

pub returns-clause-fits : goal.returns-clause-fits
returns-clause-fits c shape profile arrays none =
    let variables = trail_bindings c.args.trail.now in
    let items = two_items c.args.items.now _ _ c.requires c.tag-item.is c.section-item.is in
    let f = two_folds shape profile variables (view c.tag-item.result) (view c.section-item.result) (subst (λ (d : Data). clause_faults shape profile variables d ≡ []) items none) in
    subst (λ (d : Data). Fits (clause shape profile variables d).section) (sym items)
    (subst Fits (sym f.section_is) (c.section_of.ensures.fits shape arrays f.faultless))
