use Rattle.std.proofs.Common.{◌≡◌, ◌∙◌, List, [], get_or, sym, ap, subst}
use Rattle.std.specs.Prelude.{Some, slice_get}
use Rattle.ot_race.specs.Missing.{IsMissing}
use Rattle.ot_race.specs.Histories.{Phases, phases_of, row_of, no_phases, behind_of}
use Rattle.ot_race.proofs.PlaceLemmas.{read_at, place_found}
use Rattle.ot_race.proofs.histories.Histories.racing.Goals as goal

pub returns : goal.returns
returns c =
    let rows = c.args.self.now.rows.items in
    let row = c.in_ok-row.row.now in
    let history = c.in_ok-history.history.now in
    let cell = c.args.cell in
    let row-at : slice_get rows cell.array ≡ Some row =
    ap (λ xs. slice_get xs cell.array) (sym c.deref.ensures.value)
    ∙ place_found c.deref.result.now cell.array row c.in_ok-row.ensures.lookup.0 c.in_ok-row.ensures.lookup.1 in
    let at : slice_get row.histories.items cell.index ≡ Some history =
    ap (λ xs. slice_get xs cell.index) (sym c.deref-2.ensures.value)
    ∙ place_found c.deref-2.result.now cell.index history c.in_ok-history.ensures.lookup.0 c.in_ok-history.ensures.lookup.1 in
    subst (λ (ph : Phases). IsMissing (behind_of ph c.args.mode) c.args.known.now c.racing.result)
    (sym (ap (λ (r : List Phases). get_or r cell.index no_phases) (read_at row_of rows cell.array row [] row-at) ∙ read_at phases_of row.histories.items cell.index history no_phases at))
    c.racing.ensures
