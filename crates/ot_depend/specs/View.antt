-- The children that the table stands for, and what is kept beside them.
use Rattle.std.specs.Prelude.{◌≡◌, ◌<◌, ℕ, List, All, map, count_by, vec_len, vec_capacity}
use Rattle.ot_model.specs.declared.stmt.Use.{Use}
use Rattle.ot_depend.specs.Siblings.{Sibling, FinishedAreReady, is_unfinished, is_unfinished_in}
use Rattle.ot_depend.specs.Kept.{decls, Kid, siblings, IsLinked}
use Rattle.ot_depend.specs.Children.{kids_of, HasRoomAt}
use Rattle.ot_depend.specs.Cells.{place_of, lines_of, IsSound, IsPlaced, HasRoomIn, RowsTell, found_all}
use Rattle.ot_depend.specs.Groups.{count_of, IsCounted}
use Rattle.ot_depend.specs.declared.cells.Table.{Table}
use Rattle.ot_depend.specs.declared.groups.Groups.{Groups}
use Rattle.ot_depend.specs.declared.kept.Kept.{Kept}

abbrev pub kids_in : Kept → List Kid
kids_in k = kids_of k.children.items

abbrev pub siblings_in : Kept → List Sibling
siblings_in k = siblings (kids_in k)

-- what is kept beside these children is theirs
pub record IsTrueOf (kids : List Kid) (cells : Table) (groups : Groups) (unfinished : ℕ) : Type 0 where
  pub ready : FinishedAreReady (siblings kids)
  pub linked : IsLinked kids
  pub sound : IsSound cells
  pub rows : RowsTell (decls (siblings kids)) (place_of cells) (lines_of cells.rows.items)
  pub in_group : (g : ℕ) → count_of groups g ≡ count_by (is_unfinished_in g) (siblings kids)
  pub all : unfinished ≡ count_by is_unfinished (siblings kids)

abbrev pub IsKept : Kept → Type 0
IsKept k = IsTrueOf (kids_in k) k.cells k.groups k.unfinished

-- a child with these uses and groups was planned: it can be added without memory
pub record IsPlanned (k : Kept) (uses : List Use) (groups : List ℕ) : Type 0 where
  pub uses_are : map (λ s. s.one) k.spots.items ≡ uses
  pub placed : All (IsPlaced k.cells) k.spots.items
  pub rows_have_room : All (HasRoomIn k.cells) k.spots.items
  pub found : k.earlier.items ≡ found_all (lines_of k.cells.rows.items) k.spots.items
  pub children_have_room : All (HasRoomAt k.children.items) k.earlier.items
  pub counters : All (IsCounted k.groups) groups
  pub room : vec_len k.children < vec_capacity k.children
