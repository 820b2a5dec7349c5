-- Where the row of a cell is, as the pages tell it.
use Rattle.std.specs.Prelude.{◌/◌, ◌%◌, ℕ, zero, suc, Option, Some, None, slice_get, option_and_then, unwrap_or}
use Rattle.ot_model.specs.declared.expr.Cell.{Cell}
use Rattle.ot_depend.specs.declared.places.Shelf.{Shelf}
use Rattle.ot_depend.specs.declared.places.Places.{Places}

-- what is kept of a cell of an array, 32 cells in a page
abbrev pub mark_of : Shelf → ℕ → Option ℕ
mark_of shelf index = option_and_then (λ page. slice_get page.items (index % 32)) (slice_get shelf.pages.items (index / 32))

-- the number of a cell of an array
abbrev pub number_of : Shelf → ℕ → ℕ
number_of shelf index = unwrap_or (mark_of shelf index) 0

-- what is kept of a cell
abbrev pub mark_in : Places → Cell → Option ℕ
mark_in places cell = option_and_then (λ shelf. mark_of shelf cell.index) (slice_get places.shelves.items cell.array)

-- the number of a cell
abbrev pub number_in : Places → Cell → ℕ
number_in places cell = unwrap_or (mark_in places cell) 0

-- the place that a number tells of
abbrev pub place_from : ℕ → Option ℕ
place_from zero = None
place_from (suc place) = Some place

-- the place of a cell's row
abbrev pub place_in : Places → Cell → Option ℕ
place_in places cell = place_from (number_in places cell)
