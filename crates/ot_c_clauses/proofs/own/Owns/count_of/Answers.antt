use Rattle.std.proofs.Common.{◌≡◌, ◌∙◌, false, sym, ap}
use Rattle.std.specs.Prelude.{◌==◌}
use Rattle.std.specs.List.{count_by, list_any}
use Rattle.ot_c_clauses.specs.Owns.{is_of}
use Rattle.ot_c_clauses.proofs.OwnLemmas.{none_there, of_marked}
use Rattle.ot_c_clauses.proofs.own.Owns.count_of.Goals as goal

pub returns-then-not-contains : goal.returns-then-not-contains
returns-then-not-contains c =
    let s = c.self.inside in
    let none : list_any (λ o. o.cell.array == c.args.array) s.cells.items ≡ false = sym (c.self.invariant.by_array c.args.array) ∙ sym c.contains.ensures ∙ c.if-not-contains.true in
    sym (none_there c.args.array c.args.cells s.cells.items none)
    ∙ sym (of_marked s.named c.args.array c.args.cells s.cells.items)
    ∙ ap (count_by (is_of c.args.array c.args.cells)) c.self.view_is
