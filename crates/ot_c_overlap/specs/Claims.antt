-- What is kept of the items so far: of each task's children and each cell, the section that has the cell and is written.
use Rattle.std.specs.Prelude.{◌≡◌, ◌≢◌, ℕ, ◌+◌, ◌<◌, ◌==◌, nat_le, nat_lt, ◌&&◌, Bool, true, List, Option, Some, slice_get}
use Rattle.std.specs.BTreeMap.{get}
use Rattle.std.specs.Ordering.{nat_cmp, ordering_then}
use Rattle.std.specs.declared.cmp.Ordering.{Ordering}
use Rattle.ot_model.specs.declared.expr.Section.{Section}
use Rattle.ot_c_overlap.specs.Overlaps.{Covers, IsOverlap}
use Rattle.ot_c_overlap.specs.declared.claims.Claims.{Claims}
use Rattle.ot_c_overlap.specs.declared.item.Item.{Item}

-- the task, the array and the index
abbrev pub Key : Type 0
Key = ℕ × ℕ × ℕ

abbrev pub key_cmp : Key → Key → Ordering
key_cmp x y = ordering_then (ordering_then (nat_cmp x.0 y.0) (nat_cmp x.1 y.1)) (nat_cmp x.2 y.2)

-- the section that has the cell among the items of this task's children that write
abbrev pub claimed_section : Claims → ℕ → ℕ → ℕ → Option Section
claimed_section claims parent array index = get key_cmp claims.sections (parent, array, index)

-- another section than the item's has the cell at this index of its array
abbrev pub DiffersAt : Claims → Item → ℕ → Type 0
DiffersAt claims it index = (other : Section) × (claimed_section claims it.parent it.section.array index ≡ Some other) × (other ≢ it.section)

-- another section has a cell of the item
abbrev pub Clashes : Claims → Item → Type 0
Clashes claims it = (index : ℕ) × Covers it.section index × DiffersAt claims it index

-- a section that claims a cell claims each of its cells
abbrev pub AreWhole : Claims → Type 0
AreWhole claims = (parent array index : ℕ) (s : Section) → claimed_section claims parent array index ≡ Some s → (k : ℕ) → Covers s k → claimed_section claims parent array k ≡ Some s

-- whether the cell is one of the item's, and the task its parent
abbrev pub is_here : Item → ℕ → ℕ → ℕ → Bool
is_here it parent array index =
    it.parent == parent && (it.section.array == array && (nat_le it.section.start index && nat_lt index (it.section.start + it.section.len)))

-- the same, where the item writes
abbrev pub is_taken : Item → ℕ → ℕ → ℕ → Bool
is_taken it parent array index = it.writes && is_here it parent array index

-- what is kept behind the first n items, none of which overlaps in part with one that writes before it
pub record AreClaims (items : List Item) (n : ℕ) (claims : Claims) : Type 0 where
  pub sound : (parent array index : ℕ) (s : Section) → claimed_section claims parent array index ≡ Some s
      → (i : ℕ) × (it : Item) × (i < n) × (slice_get items i ≡ Some it) × (it.parent ≡ parent) × (it.section.array ≡ array) × (it.section ≡ s) × Covers s index × (it.writes ≡ true)
  pub complete : (i : ℕ) (it : Item) → i < n → slice_get items i ≡ Some it → it.writes ≡ true → (index : ℕ) → Covers it.section index
      → claimed_section claims it.parent it.section.array index ≡ Some it.section
  pub none : (i j : ℕ) → IsOverlap items i j → j < n → ⊥
