-- What names mean at a place of the text.
use Rattle.std.specs.Prelude.{ℕ, ◌==◌, ◌-◌, nat_le, nat_lt, Bool, true, false, ◌&&◌, List, ◌∷◌, ◌++◌, length, take, drop, map, find, Option, Some, None, is_some, option_map, unwrap_or, slice_get, String, string_bytes, if◌then◌else◌, []}
use Rattle.std.specs.List.{list_any}
use Rattle.std.specs.declared.alloc.Global.{Global}
use Rattle.ot_c_names.specs.Names.{own_name}
use Rattle.ot_c_words.specs.declared.word.IntegerType.{IntegerType}
use Rattle.ot_c_words.specs.declared.word.IntegerType.TheVariants.{UnsignedLong}
use Rattle.ot_c_words.specs.declared.word.Name.{Name}
use Rattle.ot_c_words.specs.declared.word.Name.TheVariants as n
use Rattle.ot_c_expressions.specs.Tree.{Part, part_of}
use Rattle.ot_c_scope.specs.declared.scope.Meaning.{Meaning}
use Rattle.ot_c_scope.specs.declared.scope.Meaning.TheVariants as m
use Rattle.ot_c_scope.specs.declared.scope.Pointee.{Pointee}
use Rattle.ot_c_scope.specs.declared.scope.Turn.{Turn}
use Rattle.ot_c_scope.specs.declared.scope.Opening.{Opening}
use Rattle.ot_c_scope.specs.declared.scope.Portion.{Portion}
use Rattle.ot_c_scope.specs.declared.scope.Sense.{Sense}
use Rattle.ot_c_scope.specs.declared.scope.Sense.TheVariants as s

-- the part of an array over which an open group combines by the array's name, and how many loops stand around the group
pub record Extent : Type 0 where
  pub array : ℕ
  pub part : Part
  pub around : ℕ

abbrev pub extent_of : Portion → Extent
extent_of p = record { array = p.array; part = part_of p.place.now; around = p.around }

-- what names mean at a place: in the whole file, by their numbers; in the loops around, the innermost first; in the
-- open groups, the innermost first
pub record Around : Type 0 where
  pub names : List (String Global)
  pub meanings : List Meaning
  pub turns : List Turn
  pub opened : List Opening
  pub portions : List Extent
  -- whether the place is in a parallel region
  pub inside : Bool

-- the text of a name that means nothing by itself
abbrev pub text_of : List (String Global) → ℕ → List ℕ
text_of names i = unwrap_or (option_map (λ x. string_bytes x) (slice_get names i)) []

-- the name of the array that is called so
abbrev pub array_text : List (String Global) → ℕ → List ℕ
array_text names i = own_name (text_of names i)

abbrev pub name_text : Around → Name → List ℕ
name_text a (n.Known k) = []
name_text a (n.Other i) = array_text a.names i

abbrev pub meaning_of : Around → ℕ → Meaning
meaning_of a i = unwrap_or (slice_get a.meanings i) m.Nothing

-- the innermost loop of this variable
abbrev pub turn_of : Around → ℕ → Option Turn
turn_of a i = find (λ t. t.variable == i) a.turns

-- the innermost group that combines over this array
abbrev pub opening_of : Around → ℕ → Option Opening
opening_of a i = find (λ o. o.array == i) a.opened

-- a loop's variable hides what else its name means
abbrev pub turn_or : Option Turn → Sense → Sense
turn_or None other = other
turn_or (Some t) other = if t.begun then s.Turn t.kind else s.Begins

-- the part of an array over which an open group combines
abbrev pub portion_of : Around → Name → Option Extent
portion_of a (n.Known k) = None
portion_of a (n.Other i) = find (λ p. p.array == i) a.portions

-- whether a loop that stands in the first ones hides one of them: a name may mean another variable then than there
abbrev pub hides : List Turn → ℕ → Bool
hides turns first = list_any (λ t. is_some (find (λ u. u.variable == t.variable) (drop (length turns - first) turns))) (take (length turns - first) turns)

abbrev pub opened_or : Option Opening → IntegerType → Option ℕ → Sense
opened_or None k length = s.Cells k length
opened_or (Some o) k length = s.Combined o k length

-- what a pointer is, which is to a `uint64_t`, if an open group combines over its cell by it or not
abbrev pub pointed_or : Option Opening → ℕ → ℕ → Sense
pointed_or None x p = s.Pointer x p
pointed_or (Some o) x p = s.Combined o UnsignedLong None

-- a constant stands for its number wherever its name stands (C17, section 6.10.3)
abbrev pub sense_by : Meaning → Option Turn → Option Opening → Sense
sense_by (m.Constant n k) turn opening = s.Constant n k
sense_by m.Nothing turn opening = turn_or turn s.Nothing
sense_by (m.Function i) turn opening = turn_or turn (s.Function i)
sense_by (m.Cells k length) turn opening = turn_or turn (opened_or opening k length)
sense_by (m.Pointer x p) turn opening = turn_or turn (pointed_or opening x p)

-- what a name means
abbrev pub sense : Around → Name → Sense
sense a (n.Known k) = s.Nothing
sense a (n.Other i) = sense_by (meaning_of a i) (turn_of a i) (opening_of a i)

-- whether there are open groups that combine
abbrev pub combines : List Opening → Bool
combines [] = false
combines (o ∷ os) = true

-- ---- cells that pointers name

-- cells of an array: so many from a place on; or any
abbrev pub Run : Type 0
Run = Option (ℕ × ℕ)

abbrev pub is_among : Run → ℕ → Bool
is_among None p = true
is_among (Some r) p = nat_le r.0 p && nat_lt (p - r.0) r.1

-- whether it is one of these cells of an array
abbrev pub points_into : ℕ → Run → Option Pointee → Bool
points_into x cells None = false
points_into x cells (Some p) = p.array == x && is_among cells p.place

-- whether an open group combines, by a pointer, over one of these cells of an array
abbrev pub is_pointed : Around → Name → Run → Bool
is_pointed a (n.Known k) cells = false
is_pointed a (n.Other x) cells = list_any (λ o. points_into x cells o.pointee) a.opened

-- ---- inner places

abbrev pub with_turn : Around → Turn → Around
with_turn a t = record a { turns = t ∷ a.turns }

abbrev pub with_opening : Around → Opening → Around
with_opening a o = record a { opened = o ∷ a.opened }

-- in a group that combines over a part of an array
abbrev pub with_portion : Around → ℕ → Part → Around
with_portion a x p = record a { portions = a.portions ++ record { array = x; part = p; around = length a.turns } ∷ [] }

abbrev pub not_own : Opening → Opening
not_own o = record o { own = false }

-- in a task, before it takes part in a reduction: no copy is its own
abbrev pub within_task : Around → Around
within_task a = record a { opened = map not_own a.opened }
