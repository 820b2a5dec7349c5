-- The cells of one array of three.
use Rattle.std.proofs.Common.{◌≡◌, ℕ, ◌<◌, List, [], ◌∷◌, refl, sym, subst}
use Rattle.std.specs.Prelude.{IsSome}
use Rattle.ot_model.specs.Cells.{cell_of, lengths}
use Rattle.ot_model.specs.Names.{IsInShape}
use Rattle.ot_model.specs.declared.expr.Cell.{Cell}
use Rattle.ot_model.proofs.NamesLemmas.{found_from_in}

pub there : (cells : List (List ℕ)) (i : ℕ) → lengths cells ≡ 3 ∷ [] → i < 3 → IsSome (cell_of cells (let c : Cell = record { array = 0; index = i } in c))
there cells i long within =
    let cell : Cell = record { array = 0; index = i } in
    found_from_in cells cell (subst (λ lens. IsInShape lens cell) (sym long) (record { len = 3; array = refl; within = within }))
