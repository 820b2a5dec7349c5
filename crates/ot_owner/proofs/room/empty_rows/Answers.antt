use Rattle.std.proofs.Common.{◌∷◌, [], ◌++◌, ◌∙◌, ap, List, Option, ℕ}
use Rattle.std.specs.Prelude.{None}
use Rattle.std.proofs.lemmas.List.{map-append}
use Rattle.ot_owner.specs.Kept.{row_of, rows_of}
use Rattle.ot_owner.proofs.RowLemmas.{no_rows-more}
use Rattle.ot_owner.proofs.room.empty_rows.Goals as goal

pub loop-row-preserved : goal.loop-row-preserved
loop-row-preserved c =
    ap rows_of c.in_ok-push.ensures.items ∙ map-append row_of c.loop-row.rows.items _
    ∙ ap (λ (rows : List (Option (List ℕ))). rows ++ None ∷ []) c.loop-row.invariant ∙ no_rows-more c.loop-row._row
