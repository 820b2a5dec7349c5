use Rattle.std.proofs.Common.{map, sym, ap, subst, ◌∙◌, IsSome}
use Rattle.std.proofs.lemmas.List.{map-set}
use Rattle.std.proofs.Math.ListN.{get_or-map}
use Rattle.ot_check.specs.walk.Rows.{found_at, widths}
use Rattle.ot_check.proofs.GridLemmas.{found_at-written, found_at-others, widths-set, row_of_cell}
use Rattle.ot_check.proofs.table.Table.set.Goals as goal

pub returns-clause-widths : goal.returns-clause-widths
returns-clause-widths c =
    let row = c.index_mut-row.result.now in
    let read = ap (λ a. a.items) c.index_mut-row.ensures.value ∙ sym (get_or-map (λ a. a.items) c.self.inside.rows.items c.args.cell.array row) in
    ap widths (map-set (λ a. a.items) c.self.inside.rows.items _ _)
    ∙ widths-set (map (λ a. a.items) c.self.inside.rows.items) c.args.cell.array c.args.cell.index row.items c.args.number read
    (row_of_cell _ c.args.cell (subst (λ rows. IsSome (found_at rows c.args.cell)) (sym c.self.view_is) c.requires))
    ∙ ap widths c.self.view_is

pub returns-clause-there : goal.returns-clause-there
returns-clause-there c =
    let row = c.index_mut-row.result.now in
    let read = ap (λ a. a.items) c.index_mut-row.ensures.value ∙ sym (get_or-map (λ a. a.items) c.self.inside.rows.items c.args.cell.array row) in
    ap (λ rows. found_at rows c.args.cell) (map-set (λ a. a.items) c.self.inside.rows.items _ _)
    ∙ found_at-written (map (λ a. a.items) c.self.inside.rows.items) c.args.cell row.items c.args.number read
    (subst (λ rows. IsSome (found_at rows c.args.cell)) (sym c.self.view_is) c.requires)

pub returns-clause-others : goal.returns-clause-others
returns-clause-others c = λ other apart.
    let row = c.index_mut-row.result.now in
    let read = ap (λ a. a.items) c.index_mut-row.ensures.value ∙ sym (get_or-map (λ a. a.items) c.self.inside.rows.items c.args.cell.array row) in
    ap (λ rows. found_at rows other) (map-set (λ a. a.items) c.self.inside.rows.items _ _)
    ∙ found_at-others (map (λ a. a.items) c.self.inside.rows.items) c.args.cell other row.items c.args.number read
    (subst (λ rows. IsSome (found_at rows c.args.cell)) (sym c.self.view_is) c.requires) apart
    ∙ ap (λ rows. found_at rows other) c.self.view_is
