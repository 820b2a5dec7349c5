-- A cell that is named in the shape is there.
use Rattle.std.proofs.Common.{◌≡◌, ℕ, ◌<◌, List, length, sym, ap, ◌∙◌, arith}
use Rattle.std.specs.Prelude.{Option, Some, None, IsSome, is_some, option_map, option_and_then, slice_get}
use Rattle.std.proofs.lemmas.Option.{slice_get-map, slice_get-get_or}
use Rattle.ot_model.specs.Tree.{E, Literal, CellAt, Apply, PickFrom, Body, End, Next, append, HasAll, cell_at}
use Rattle.ot_model.specs.Cells.{cell_of, lengths}
use Rattle.ot_model.specs.Names.{IsInShape, ValueNamedIn, NamedIn}
use Rattle.ot_model.specs.declared.expr.Cell.{Cell}

found_row : (o : Option (List ℕ)) (len i : ℕ) → option_map length o ≡ Some len → i < len → IsSome (option_and_then (λ row. slice_get row i) o)
found_row None len i there within = cc
found_row (Some row) len i there within =
    let is : length row ≡ len = cc in
    let inside : i < length row = omega arith in
    ap is_some (slice_get-get_or row i 0 inside)

-- a cell in the shape of the cells is there
pub found_from_in : (cells : List (List ℕ)) (c : Cell) → IsInShape (lengths cells) c → IsSome (cell_of cells c)
found_from_in cells c h = found_row (slice_get cells c.array) h.len c.index (sym (slice_get-map length cells c.array) ∙ h.array) h.within

-- an expression in the shape of the cells has all its cells there
pub all_from_names : (cells : List (List ℕ)) (e : E) → ValueNamedIn (lengths cells) e → HasAll (cell_of cells) e
all_from_names cells (Literal n) h = tt
all_from_names cells (CellAt c) h = found_from_in cells c h
all_from_names cells (Apply o a b) h = (all_from_names cells a h.0, all_from_names cells b h.1)
all_from_names cells (PickFrom s e) h =
    let f = h.0 in (
      f.some,
      f.short,
      (λ k below. found_from_in cells (cell_at s k) (record { len = f.len; array = f.array; within = omega (arith, f.within) })),
      all_from_names cells e h.1,
    )

-- two bodies in the shape, one after the other, are in it
pub NamedIn-append : (lens : List ℕ) (a b : Body) → NamedIn lens a → NamedIn lens b → NamedIn lens (append a b)
NamedIn-append lens End b h k = k
NamedIn-append lens (Next x rest) b h k = (h.0, NamedIn-append lens rest b h.1 k)
