use Rattle.std.proofs.Common.{◌≡◌, ◌+◌, ◌∙◌, ◌++◌, ◌∷◌, [], sym, ap, take}
use Rattle.std.proofs.lemmas.List.{take_more, map-append}
use Rattle.ot_owner.specs.Owning.{copies_at, copy_in, with_copy}
use Rattle.ot_owner.specs.Kept.{rows_of, row_of}
use Rattle.ot_owner.specs.Worth.{combined_by}
use Rattle.ot_owner.proofs.RowLemmas.{total-more}
use Rattle.ot_owner.proofs.rows.total.Goals as goal
use Rattle.ot_owner.proofs.rows.total.Goals.{in-Some, in_default}

pub loop-row-preserved : goal.loop-row-preserved
loop-row-preserved g c =
    let join = g.M.Monoid.join_is c.args.monoid.now in
    let rows = c.args.rows.now in
    let i = c.loop-row.row-index in
    let row = c.row-item.result in
    let more : rows_of (take (i + 1) rows) ≡ rows_of (take i rows) ++ row_of row ∷ [] =
    ap rows_of (take_more rows i row c.loop-row-test.true) ∙ ap (λ r. rows_of (take i rows ++ r ∷ [])) (sym c.row-item.is) ∙ map-append row_of (take i rows) (row ∷ []) in
    let all = ap (λ rs. combined_by join c.args.stored (copies_at rs c.args.place)) more ∙ total-more join c.args.stored c.args.place (rows_of (take i rows)) (row_of row) in
    let here = ap (λ s. combined_by join s (with_copy (copy_in c.args.place (row_of row)) [])) (sym c.loop-row.invariant) in
    elim c.match-copy.branch [
      | in-Some w ↦ w.total-is ∙ w.join-total.ensures ∙ ap (λ o. combined_by join c.loop-row.total (with_copy o [])) (sym w.in-Some.is ∙ c.copy.ensures) ∙ sym (all ∙ here)
      | in_default w ↦ w.total-is ∙ ap (λ o. combined_by join c.loop-row.total (with_copy o [])) (sym w.in_default.is ∙ c.copy.ensures) ∙ sym (all ∙ here)
    ]
