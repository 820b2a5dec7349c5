use Rattle.std.proofs.Common.{List, ℕ, length, ap}
use Rattle.ot_owner.specs.Keeping.{Made}
use Rattle.ot_owner.specs.declared.rows.Row.{Row}
use Rattle.std.specs.Prelude.{Option, option_map}
use Rattle.ot_model.specs.Cells.{updated}
use Rattle.ot_model.specs.Joining.{join_by}
use Rattle.ot_owner.specs.Owning.{Summed}
use Rattle.ot_owner.specs.Kept.{row_of}
use Rattle.ot_owner.proofs.RowLemmas.{map-changed, map-kept}
use Rattle.ot_owner.proofs.rows.Group.fold.Goals as goal

pub returns-clause-folded : goal.returns-clause-folded
returns-clause-folded c =
    ap (λ (rows : List (Option (List ℕ))). let g : Summed = record { group = c.args.self.now.group; op = c.args.self.now.op; uses = c.args.self.now.decl; rows = rows } in g)
    (map-changed row_of c.args.self.now.rows.items c.args.worker c.index_mut.result.now c.fold.new.self
    (option_map (λ copies. updated copies c.args.place (λ copy. join_by c.args.self.now.op copy c.args.number))) c.index_mut.ensures.value c.fold.ensures.folded)

pub returns-clause-made : goal.returns-clause-made
returns-clause-made c =
    ap (λ (ns : List ℕ). let m : Made = record { uses = c.args.self.now.decl; rows = ns } in m)
    (map-kept (λ (r : Row). length r.copies.items) c.args.self.now.rows.items c.args.worker c.index_mut.result.now c.fold.new.self c.index_mut.ensures.value c.fold.ensures.long)
