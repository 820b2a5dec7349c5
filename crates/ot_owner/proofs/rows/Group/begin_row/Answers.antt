use Rattle.std.proofs.Common.{◌≡◌, List, ℕ, length, ap, ◌∙◌, arith}
use Rattle.std.specs.Prelude.{Option}
use Rattle.ot_owner.specs.Keeping.{Made}
use Rattle.ot_owner.specs.Kept.{row_of}
use Rattle.ot_owner.specs.Owning.{Summed, begun_row}
use Rattle.ot_owner.specs.declared.rows.Row.{Row}
use Rattle.ot_owner.proofs.RowLemmas.{map-changed, map-kept, made_here, made_within}
use Rattle.ot_owner.proofs.rows.Group.begin_row.Goals as goal

pub index_mut-requires : goal.index_mut-requires
index_mut-requires c =
    let within = made_within (λ (r : Row). length r.copies.items) c.args.self.now.rows.items c.args.worker (length c.args.self.now.decl) c.requires in
    omega (arith, within, c.args.self.now.rows.ok.0)

pub returns-clause-begun : goal.returns-clause-begun
returns-clause-begun c =
    let rows = c.args.self.now.rows.items in
    let x = c.index_mut.result.now in
    let here = made_here (λ (r : Row). length r.copies.items) rows c.args.worker (length c.args.self.now.decl) x c.requires in
    let long : length x.copies.items ≡ length c.args.self.now.decl = ap (λ (r : Row). length r.copies.items) c.index_mut.ensures.value ∙ here.1 in
    ap (λ (rows : List (Option (List ℕ))). let g : Summed = record { group = c.args.self.now.group; op = c.args.self.now.op; uses = c.args.self.now.decl; rows = rows } in g)
    (map-changed row_of rows c.args.worker x c.begin.new.self (begun_row c.args.self.now.op (length c.args.self.now.decl)) c.index_mut.ensures.value
    (c.begin.ensures.begun ∙ ap (λ n. begun_row c.args.self.now.op n (row_of x)) long))

pub returns-clause-made : goal.returns-clause-made
returns-clause-made c =
    ap (λ (ns : List ℕ). let m : Made = record { uses = c.args.self.now.decl; rows = ns } in m)
    (map-kept (λ (r : Row). length r.copies.items) c.args.self.now.rows.items c.args.worker c.index_mut.result.now c.begin.new.self c.index_mut.ensures.value c.begin.ensures.long)
