-- Items that overlap in part. In OpenMP the items of one task and of its siblings are the same or apart (API 5.2, section
-- 15.9.5): how others order tasks isn't said. Where neither writes there is no order that is lost.
use Rattle.std.specs.Prelude.{◌≡◌, ◌≢◌, ◌+◌, ◌<◌, ◌≤◌, ◌++◌, ℕ, Bool, true, false, not, List, Option, Some, None, slice_get}
use Rattle.std.specs.List.{filter}
use Rattle.ot_model.specs.declared.expr.Section.{Section}
use Rattle.ot_c_overlap.specs.declared.item.Item.{Item}

-- the section has a cell at this index
abbrev pub Covers : Section → ℕ → Type 0
Covers s index = (s.start ≤ index) × (index < s.start + s.len)

-- an item that writes, and one behind it, of siblings or of one task: sections of one array that share a cell and aren't the same
pub record IsOverlap (items : List Item) (i j : ℕ) : Type 0 where
  pub order : i < j
  pub one : Item
  pub other : Item
  pub earlier : slice_get items i ≡ Some one
  pub later : slice_get items j ≡ Some other
  pub writes : one.writes ≡ true
  pub siblings : one.parent ≡ other.parent
  pub array : one.section.array ≡ other.section.array
  pub index : ℕ
  pub here : Covers one.section index
  pub there : Covers other.section index
  pub apart : one.section ≢ other.section

-- the entry of the first item that overlaps in part with one that writes before it
abbrev pub IsFirstIn : List Item → Option ℕ → Type 0
IsFirstIn items None = (i j : ℕ) → IsOverlap items i j → ⊥
IsFirstIn items (Some entry) =
    (i : ℕ) × (j : ℕ) × (it : Item) × IsOverlap items i j × (slice_get items j ≡ Some it) × (it.entry ≡ entry)
    × ((k l : ℕ) → IsOverlap items k l → j ≤ l)

abbrev pub writes_so : Bool → Item → Bool
writes_so true it = it.writes
writes_so false it = not it.writes

-- the items, those that write before those that don't
abbrev pub writers_first : List Item → List Item
writers_first items = filter (writes_so true) items ++ filter (writes_so false) items

-- the entry of the first item that overlaps in part with one that writes: the first of those that write, with one before it, or else
-- the first of those that don't
abbrev pub IsFirst : List Item → Option ℕ → Type 0
IsFirst items first = IsFirstIn (writers_first items) first
