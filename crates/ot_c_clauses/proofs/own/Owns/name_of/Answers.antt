use Rattle.std.proofs.Common.{◌≡◌, ◌∙◌, map, sym, ap}
use Rattle.std.specs.Prelude.{◌==◌}
use Rattle.std.specs.List.{count_by, list_any}
use Rattle.ot_c_clauses.specs.Cells.{is_at, under_in}
use Rattle.ot_c_clauses.specs.Owns.{name_if}
use Rattle.ot_c_clauses.proofs.OwnLemmas.{all_named, arrays_named, at_named, marks_behind}
use Rattle.ot_c_clauses.proofs.own.Owns.name_of.Goals as goal

pub returns-in_ok-with_run-in-Some : goal.returns-in_ok-with_run-in-Some
returns-in_ok-with_run-in-Some c =
    let s = c.self.inside in
    let x = c.args.array in
    all_named x c.in-Some.first c.in-Some.end s.named c.in_ok-with_run-in-Some.field-0 c.in-Some.ensures.1 c.in_ok-with_run-in-Some.ensures s.cells.items
    ∙ ap (λ run. map (name_if x run) (map (under_in s.named) s.cells.items)) (sym c.in-Some.ensures.0)
    ∙ ap (map (name_if x c.args.cells)) c.self.view_is

pub invariant_of-result-in-None : goal.invariant_of-result-in-None
invariant_of-result-in-None c =
    let s = c.self.inside in
    let x = c.args.array in
    let run = c.args.cells in
    let items : c.in_ok-all_named_by-in-None.field-0.items ≡ map (name_if x run) s.cells.items = c.in_ok-all_named_by-in-None.ensures ∙ ap (map (name_if x run)) c.deref.ensures.value in
    record {
      by_array = λ y. c.self.invariant.by_array y ∙ sym (arrays_named x run y s.cells.items) ∙ ap (list_any (λ o. o.cell.array == y)) (sym items);
      by_cell = λ y p. c.self.invariant.by_cell y p ∙ sym (at_named x run y p s.cells.items) ∙ ap (count_by (is_at y p)) (sym items);
    }

pub returns-in_ok-all_named_by-in-None : goal.returns-in_ok-all_named_by-in-None
returns-in_ok-all_named_by-in-None c =
    let s = c.self.inside in
    let x = c.args.array in
    let run = c.args.cells in
    ap (map (under_in s.named)) (c.in_ok-all_named_by-in-None.ensures ∙ ap (map (name_if x run)) c.deref.ensures.value)
    ∙ marks_behind x run s.named s.cells.items
    ∙ ap (map (name_if x run)) c.self.view_is
