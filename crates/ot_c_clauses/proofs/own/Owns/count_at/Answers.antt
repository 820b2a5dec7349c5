use Rattle.std.proofs.Common.{◌∙◌, sym, ap}
use Rattle.std.specs.Prelude.{unwrap_or}
use Rattle.std.specs.List.{count_by}
use Rattle.ot_c_clauses.specs.Cells.{is_at}
use Rattle.ot_c_clauses.proofs.OwnLemmas.{at_marked}
use Rattle.ot_c_clauses.proofs.own.Owns.count_at.Goals as goal

pub returns-in-Some : goal.returns-in-Some
returns-in-Some c =
    let s = c.self.inside in
    ap (λ o. unwrap_or o 0) c.in-Some.ensures.value
    ∙ c.self.invariant.by_cell c.args.array c.args.place
    ∙ sym (at_marked s.named c.args.array c.args.place s.cells.items)
    ∙ ap (count_by (is_at c.args.array c.args.place)) c.self.view_is

pub returns-in-None : goal.returns-in-None
returns-in-None c =
    let s = c.self.inside in
    ap (λ o. unwrap_or o 0) c.in-None.ensures.value
    ∙ c.self.invariant.by_cell c.args.array c.args.place
    ∙ sym (at_marked s.named c.args.array c.args.place s.cells.items)
    ∙ ap (count_by (is_at c.args.array c.args.place)) c.self.view_is
