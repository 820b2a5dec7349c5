use Rattle.std.proofs.Common.{◌≡◌, ◌<◌, List, ℕ, length, map, set, ap, sym, ◌∙◌, arith}
use Rattle.std.specs.Prelude.{Option, Some, IfSome, slice_get}
use Rattle.std.proofs.lemmas.List.{length-map, map-set}
use Rattle.std.proofs.lemmas.Result.{on_ok_weaker}
use Rattle.ot_owner.specs.Kept.{row_of}
use Rattle.ot_owner.specs.Owning.{Summed}
use Rattle.ot_owner.specs.declared.rows.Row.{Row}
use Rattle.ot_owner.proofs.RowLemmas.{map-kept, seen-at, long_here, slice_get-set}
use Rattle.ot_owner.proofs.rows.Group.make_row.Goals as goal

pub index_mut-requires : goal.index_mut-requires
index_mut-requires c = omega (arith, c.requires.known, c.requires.regular.numbers, length-map c.args.self.now.rows.items row_of, c.args.self.now.rows.ok.0)

pub make-requires : goal.make-requires
make-requires c = λ begun.
    let rows = c.args.self.now.rows.items in
    let x : Row = c.index_mut.result.now in
    let n = length c.args.self.now.decl in
    let within : c.args.worker < length rows = omega (arith, c.requires.known, c.requires.regular.numbers, length-map rows row_of) in
    long_here x n (seen-at row_of (λ row. IfSome row (λ copies. length copies ≡ n)) rows c.args.worker x c.requires.regular.long within c.index_mut.ensures.value) begun
    ∙ sym (ap length c.uses-len.ensures.uses)

pub returns-clause-same : goal.returns-clause-same
returns-clause-same c =
    ap (λ (rows : List (Option (List ℕ))). let g : Summed = record { group = c.args.self.now.group; op = c.args.self.now.op; uses = c.args.self.now.decl; rows = rows } in g)
    (map-kept row_of c.args.self.now.rows.items c.args.worker c.index_mut.result.now c.make.new.self c.index_mut.ensures.value c.make.ensures.same)

pub returns-clause-made : goal.returns-clause-made
returns-clause-made c =
    let rows = c.args.self.now.rows.items in
    let room = λ (r : Row). length r.copies.items in
    let y : Row = c.make.new.self in
    let within : c.args.worker < length rows = omega (arith, c.requires.known, c.requires.regular.numbers, length-map rows row_of) in
    let at : slice_get (map room (set rows c.args.worker y)) c.args.worker ≡ Some (room y) =
    ap (λ ns. slice_get ns c.args.worker) (map-set room rows c.args.worker y) ∙ slice_get-set (map room rows) c.args.worker (room y) (omega (arith, within, length-map rows room)) in
    on_ok_weaker c.make.result (λ is. at ∙ ap Some (is ∙ ap length c.uses-len.ensures.uses)) c.make.ensures.made
