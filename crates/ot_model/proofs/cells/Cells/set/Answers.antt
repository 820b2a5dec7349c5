use Rattle.std.proofs.Common.{◌≡◌, map, get_or, sym, ap, ◌∙◌}
use Rattle.std.proofs.lemmas.List.{map-set}
use Rattle.std.proofs.Math.ListN.{get_or-map}
use Rattle.ot_model.specs.Cells.{cell_of, with_cell, lengths}
use Rattle.ot_model.proofs.CellsLemmas.{set-with_cell, lengths-with_cell, cell_of-with_cell-written, cell_of-with_cell-other}
use Rattle.ot_model.proofs.cells.Cells.set.Goals as goal

pub returns-clause-written : goal.returns-clause-written
returns-clause-written c =
    let rows = c.self.inside.arrays.items in
    let array = c.index_mut-array.result.now in
    let is : array.items ≡ get_or (map (λ a. a.items) rows) c.args.cell.array array.items =
    ap (λ a. a.items) c.index_mut-array.ensures.value ∙ sym (get_or-map (λ a. a.items) rows c.args.cell.array array) in
    map-set (λ a. a.items) rows _ _ ∙ set-with_cell _ c.args.cell array.items c.args.number is
    ∙ ap (λ cells. with_cell cells c.args.cell (λ _. c.args.number)) c.self.view_is

pub returns-clause-kept : goal.returns-clause-kept
returns-clause-kept c =
    ap lengths (returns-clause-written c) ∙ lengths-with_cell c.args.self.now c.args.cell (λ _. c.args.number)

pub returns-clause-found : goal.returns-clause-found
returns-clause-found c =
    ap (λ cells. cell_of cells c.args.cell) (returns-clause-written c)
    ∙ cell_of-with_cell-written c.args.self.now c.args.cell c.args.number c.requires

pub returns-clause-others : goal.returns-clause-others
returns-clause-others c = λ other apart.
    ap (λ cells. cell_of cells other) (returns-clause-written c)
    ∙ cell_of-with_cell-other c.args.self.now c.args.cell other (λ _. c.args.number) apart
