use Rattle.std.proofs.Common.{rules, ◌≡◌, [], Some, sym, subst}
use Rattle.std.specs.Prelude.{option_map}
use Rattle.serde_json.specs.Data.{Data}
use Rattle.ot_program.specs.Faults.{section_faults}
use Rattle.ot_program.specs.Meanings.{section}
use Rattle.ot_why_place.specs.Spots.{trail_bindings}
use Rattle.ot_why_mixed.specs.Rows.{row_at, row_by, Fits}
use Rattle.ot_why_mixed.proofs.ClauseLemmas.{section_wrong, three_items}
use Rattle.ot_why_mixed.proofs.clause.section_of_items.Goals as goal

pub returns-then-items-ne3-clause-row : goal.returns-then-items-ne3-clause-row
returns-then-items-ne3-clause-row c shape arrays none =
    absurd (section_wrong shape (trail_bindings c.args.trail.now) c.args.items.now (search rules) none)

pub returns-then-items-ne3-clause-fits : goal.returns-then-items-ne3-clause-fits
returns-then-items-ne3-clause-fits c shape arrays none =
    absurd (section_wrong shape (trail_bindings c.args.trail.now) c.args.items.now (search rules) none)

pub returns-clause-row : goal.returns-clause-row
returns-clause-row c shape arrays none =
    let variables = trail_bindings c.args.trail.now in
    let items = three_items c.args.items.now _ _ _ (search rules) c.name-item.is c.start-item.is c.len-item.is in
    let told = c.cells_of.ensures.row shape arrays (subst (λ (d : Data). section_faults shape variables d ≡ []) items none) in
    subst (λ (d : Data). option_map row_by c.cells_of.result ≡ Some (row_at shape (section shape variables d) c.args.fold)) (sym items) told

pub returns-clause-fits : goal.returns-clause-fits
returns-clause-fits c shape arrays none =
    let variables = trail_bindings c.args.trail.now in
    let items = three_items c.args.items.now _ _ _ (search rules) c.name-item.is c.start-item.is c.len-item.is in
    subst (λ (d : Data). Fits (section shape variables d)) (sym items)
    (c.cells_of.ensures.fits shape arrays (subst (λ (d : Data). section_faults shape variables d ≡ []) items none))
