use Rattle.std.proofs.Common.{rules, ◌∙◌, ◌<◌, ◌^◌, Some, sym, ap, refl}
use Rattle.serde_json.specs.View.{view}
use Rattle.ot_model.specs.Programs.{arrays_of}
use Rattle.ot_why_place.specs.Spots.{trail_bindings}
use Rattle.ot_why_mixed.proofs.ClauseLemmas.{section_there, row_is, section_fits, place_missing}
use Rattle.ot_why_mixed.proofs.clause.cells_of.Goals as goal

pub returns-in_err-position-clause-row : goal.returns-in_err-position-clause-row
returns-in_err-position-clause-row c shape arrays none =
    absurd (place_missing shape (arrays_of c.args.arrays.now) (trail_bindings c.args.trail.now) (view c.args.name.now) (view c.args.start.now) (view c.args.len.now) c.letters-array.result.now
    arrays none c.letters-array.ensures (sym c.in_err-position.was ∙ c.place_of.ensures))

pub returns-in_err-position-clause-fits : goal.returns-in_err-position-clause-fits
returns-in_err-position-clause-fits c shape arrays none =
    absurd (place_missing shape (arrays_of c.args.arrays.now) (trail_bindings c.args.trail.now) (view c.args.name.now) (view c.args.start.now) (view c.args.len.now) c.letters-array.result.now
    arrays none c.letters-array.ensures (sym c.in_err-position.was ∙ c.place_of.ensures))

pub returns-clause-row : goal.returns-clause-row
returns-clause-row c shape arrays none =
    ap Some (row_is shape (arrays_of c.args.arrays.now) (trail_bindings c.args.trail.now) (view c.args.name.now) (view c.args.start.now) (view c.args.len.now) c.args.fold _ c.in_ok-position.position c.in_ok-position.cells
    arrays (section_there shape (trail_bindings c.args.trail.now) (view c.args.name.now) (view c.args.start.now) (view c.args.len.now) none) (sym c.in_ok-position.was ∙ c.place_of.ensures) c.letters-array.ensures
    (search rules) (search rules) (search rules) refl)

pub returns-clause-fits : goal.returns-clause-fits
returns-clause-fits c shape arrays none =
    let short : c.in_ok-position.cells < 2 ^ 32 = search rules in
    section_fits shape (arrays_of c.args.arrays.now) (trail_bindings c.args.trail.now) (view c.args.name.now) (view c.args.start.now) (view c.args.len.now) c.in_ok-position.position c.in_ok-position.cells
    arrays (section_there shape (trail_bindings c.args.trail.now) (view c.args.name.now) (view c.args.start.now) (view c.args.len.now) none) c.letters-array.result.now c.letters-array.ensures
    (sym c.in_ok-position.was ∙ c.place_of.ensures) short
