-- Who of the children of one body waits for whom by itself.
use Rattle.std.specs.Prelude.{◌≡◌, [], ℕ, suc, ◌==◌, ◌&&◌, Bool, false, cond, List, ◌∷◌, map, take, drop, slice_get, count_by, option_map, unwrap_or, ◌↔◌}
use Rattle.std.specs.List.{filter}
use Rattle.ot_model.specs.declared.expr.Cell.{Cell}
use Rattle.ot_model.specs.declared.stmt.Use.{Use}
use Rattle.ot_depend.specs.Siblings.{Sibling, sibling_created, is_direct, waiting_for}
use Rattle.ot_show_graph.specs.declared.link.Link.{Link}

-- children with these declarations, none of which has finished
abbrev pub siblings_with : List (List Use) → List Sibling
siblings_with decls = map (λ uses. sibling_created uses []) decls

-- whether the later of two siblings depends on the earlier one at a cell that none between the two writes
abbrev pub waits_itself : List Sibling → ℕ → ℕ → Bool
waits_itself siblings earlier later =
    unwrap_or (option_map (λ one.
    unwrap_or (option_map (λ other. is_direct one.uses (drop (suc earlier) (take later siblings)) other.uses) (slice_get siblings later)) false)
    (slice_get (take later siblings) earlier)) false

-- whether the link is that of these two
abbrev pub is_link : ℕ → ℕ → Link → Bool
is_link earlier later link = (link.earlier == earlier) && (link.later == later)

-- what those declare that stand between the two
abbrev pub between : Link → List (List Use) → List (List Use)
between link decls = drop (suc link.earlier) (take link.later decls)

-- the cells at which the later of two siblings waits for the earlier by itself: those of its uses each of which alone would
-- make it wait so
abbrev pub cells_at : (earlier : List Use) (between : List (List Use)) (later : List Use) → List Cell
cells_at earlier between later = map (λ v. v.cell) (filter (λ v. is_direct earlier (siblings_with between) (v ∷ [])) later)

-- The links of children with these declarations: of two there is one link where the later waits for the earlier by itself,
-- and else none. So into each child there are as many as it waits for.
pub record AreLinks (decls : List (List Use)) (links : List Link) : Type 0 where
  pub exact : (earlier later : ℕ) → count_by (is_link earlier later) links ≡ cond (waits_itself (siblings_with decls) earlier later) 1 0
  pub counted : (child : ℕ) → count_by (λ l. l.later == child) links ≡ waiting_for (siblings_with decls) child

-- What links and the cells on them have to do with each other.

-- a child doesn't wait for an earlier one by itself exactly where there is no cell at which it does
abbrev pub WaitsAtCells : Type 0
WaitsAtCells =
    (earlier : List Use) (between : List (List Use)) (later : List Use) → is_direct earlier (siblings_with between) later ≡ false ↔ cells_at earlier between later ≡ []
