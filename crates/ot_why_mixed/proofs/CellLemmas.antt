-- The first mixed cell of clauses is where the walk along the row ends.
use Rattle.std.proofs.Common.{◌≡◌, ℕ, zero, suc, ◌+◌, ◌^◌, ◌<◌, ◌≤◌, Bool, true, false, cond, ◌&&◌, List, [], ◌∷◌, map, Option, Some, None, nat_eq, refl, sym, ap, subst, ◌∙◌, inl, inr, arith}
use Rattle.std.specs.Prelude.{◌⊎◌, nat_lt, not, flat_map, find, option_map}
use Rattle.std.specs.List.{list_any, fold, range_with_len}
use Rattle.std.proofs.lemmas.Bool.{lt-ltb, ltb-true, cases_lt, or_cases, or_left, or_right, and_parts, and_from, not-true, not_from_false, false_from_ne_true, both_ways}
use Rattle.ot_model.specs.Cells.{same_cell, is_before, Precedes, is_fold, same_mode}
use Rattle.ot_model.specs.Programs.{Arrays}
use Rattle.ot_model.specs.Tree.{cell_at, cells_of}
use Rattle.ot_model.specs.declared.expr.Cell.{Cell}
use Rattle.ot_model.specs.declared.expr.Section.{Section}
use Rattle.ot_model.specs.declared.stmt.Mode.{Mode}
use Rattle.ot_model.specs.declared.stmt.Mode.TheVariants.{Reads, Writes, Folds}
use Rattle.ot_program.specs.Meanings.{cell_placed, named_cells, names, operation_in, named_otherwise, is_mixed, Clause}
use Rattle.ot_program.proofs.Declared.{same_keys, keys_same}
use Rattle.ot_why_mixed.specs.Mixed.{first_mixed, cell_by_name}
use Rattle.ot_why_mixed.specs.Rows.{Row, address, row_of, Fits, same_operation}
use Rattle.ot_why_mixed.proofs.InLemmas.{In, in_left, in_right, in_either, any_in, in_any}
use Rattle.ot_why_mixed.proofs.SweepLemmas.{Covers, Clear, Outcome, operation_differs}

-- ---- cells

cell_is : (c d : Cell) → same_cell c d ≡ true → (c.array ≡ d.array) × (c.index ≡ d.index)
cell_is c d h =
    let e = same_keys (c.array, c.index) (d.array, d.index) h in
    (ap (λ (k : ℕ × ℕ). k.0) e, ap (λ (k : ℕ × ℕ). k.1) e)

pair_is : (p q : ℕ × ℕ) → p.0 ≡ q.0 → p.1 ≡ q.1 → p ≡ q
pair_is (a, b) (c, d) h k = rw (h, k) refl

cell_same : (c d : Cell) → c.array ≡ d.array → c.index ≡ d.index → same_cell c d ≡ true
cell_same c d h k = keys_same (c.array, c.index) (d.array, d.index) (pair_is (c.array, c.index) (d.array, d.index) h k)

one_cell : (c d : Cell) → c.array ≡ d.array → c.index ≡ d.index → c ≡ d
one_cell c d h k = ap (λ (a : ℕ). let r : Cell = record { array = a; index = c.index } in r) h ∙ ap (λ (i : ℕ). let r : Cell = record { array = d.array; index = i } in r) k

-- ---- the cells of a section

named_from : (c : Cell) (s : Section) (i n : ℕ) → list_any (same_cell c) (map (cell_at s) (range_with_len i n)) ≡ true
    → (c.array ≡ s.array) × ((s.start + i ≤ c.index) × (c.index < s.start + i + n))
named_from c s i zero h = absurd cc
named_from c s i (suc n) h =
    elim (or_cases (same_cell c (cell_at s i)) (list_any (same_cell c) (map (cell_at s) (range_with_len (i + 1) n))) h) [
      | inl here ↦ let e = cell_is c (cell_at s i) here in (e.0, (omega (arith, e.1), omega (arith, e.1)))
      | inr later ↦ let r = named_from c s (i + 1) n later in (r.0, (omega (arith, r.1.0), omega (arith, r.1.1)))
    ]

from_named : (c : Cell) (s : Section) (i n : ℕ) → c.array ≡ s.array → s.start + i ≤ c.index → c.index < s.start + i + n
    → list_any (same_cell c) (map (cell_at s) (range_with_len i n)) ≡ true
from_named c s i zero e from to = absurd (omega (arith, from, to))
from_named c s i (suc n) e from to =
    elim (cases_lt (s.start + i) c.index) [
      | inl later ↦
          or_right (same_cell c (cell_at s i)) (list_any (same_cell c) (map (cell_at s) (range_with_len (i + 1) n)))
          (from_named c s (i + 1) n e (omega (arith, later)) (omega (arith, to)))
      | inr here ↦
          or_left (same_cell c (cell_at s i)) (list_any (same_cell c) (map (cell_at s) (range_with_len (i + 1) n)))
          (cell_same c (cell_at s i) e (omega (arith, from, here)))
    ]

covers_named : (shape : Arrays) (c : Cell) (k : Clause) → names c k ≡ true → Covers (row_of shape k) (address c.array c.index)
covers_named shape c k h =
    let r = named_from c k.section 0 k.section.len h in
    rw (r.0) (omega (arith, r.1.0), omega (arith, r.1.1))

named_covers : (shape : Arrays) (c : Cell) (k : Clause) → Fits k.section → c.index < 2 ^ 32 → Covers (row_of shape k) (address c.array c.index) → names c k ≡ true
named_covers shape c k s short h =
    let e : c.array ≡ k.section.array = omega (arith, s.short, short, h.0, h.1) in
    from_named c k.section 0 k.section.len e (omega (arith, e, h.0)) (omega (arith, e, h.1))

-- ---- a mixed cell

-- two clauses that name a cell and don't fold alike
record AreMixed (clauses : List Clause) (c : Cell) : Type 0 where
  one : Clause
  two : Clause
  one_in : In one clauses
  two_in : In two clauses
  one_names : names c one ≡ true
  two_names : names c two ≡ true
  differ : same_operation (operation_in one.mode) (operation_in two.mode) ≡ false

modes_differ : (m n : Mode) → is_fold m ≡ true → same_mode m n ≡ false → same_operation (operation_in m) (operation_in n) ≡ false
modes_differ m n h k = grind arith

operations_differ : (m n : Mode) → same_operation (operation_in m) (operation_in n) ≡ false
    → ((is_fold m ≡ true) × (same_mode m n ≡ false)) ⊎ ((is_fold n ≡ true) × (same_mode n m ≡ false))
operations_differ Reads Reads h = absurd cc
operations_differ Reads Writes h = absurd cc
operations_differ Writes Reads h = absurd cc
operations_differ Writes Writes h = absurd cc
operations_differ (Folds a) Reads h = inl (refl, refl)
operations_differ (Folds a) Writes h = inl (refl, refl)
operations_differ Reads (Folds b) h = inr (refl, refl)
operations_differ Writes (Folds b) h = inr (refl, refl)
operations_differ (Folds a) (Folds b) h = inl (refl, h)

mixed_two : (clauses : List Clause) (c : Cell) → is_mixed clauses c ≡ true → AreMixed clauses c
mixed_two clauses c h =
    let k = any_in (λ k. names c k && (is_fold k.mode && named_otherwise k.mode clauses c)) clauses h in
    let n = and_parts (names c k.0) (is_fold k.0.mode && named_otherwise k.0.mode clauses c) k.1.1 in
    let f = and_parts (is_fold k.0.mode) (named_otherwise k.0.mode clauses c) n.1 in
    let l = any_in (λ l. names c l && not (same_mode k.0.mode l.mode)) clauses f.1 in
    let o = and_parts (names c l.0) (not (same_mode k.0.mode l.0.mode)) l.1.1 in
    record {
      one = k.0;
      two = l.0;
      one_in = k.1.0;
      two_in = l.1.0;
      one_names = n.0;
      two_names = o.0;
      differ = modes_differ k.0.mode l.0.mode f.0 (not-true (same_mode k.0.mode l.0.mode) o.1);
    }

folded : (clauses : List Clause) (c : Cell) (k l : Clause) → In k clauses → In l clauses → names c k ≡ true → names c l ≡ true
    → is_fold k.mode ≡ true → same_mode k.mode l.mode ≡ false → is_mixed clauses c ≡ true
folded clauses c k l k_in l_in k_names l_names fold differ =
    in_any (λ k. names c k && (is_fold k.mode && named_otherwise k.mode clauses c)) k clauses k_in
    (and_from (names c k) (is_fold k.mode && named_otherwise k.mode clauses c) k_names
    (and_from (is_fold k.mode) (named_otherwise k.mode clauses c) fold
    (in_any (λ l. names c l && not (same_mode k.mode l.mode)) l clauses l_in
    (and_from (names c l) (not (same_mode k.mode l.mode)) l_names (not_from_false (same_mode k.mode l.mode) differ)))))

two_mixed : (clauses : List Clause) (c : Cell) → AreMixed clauses c → is_mixed clauses c ≡ true
two_mixed clauses c m =
    elim (operations_differ m.one.mode m.two.mode m.differ) [
      | inl h ↦ folded clauses c m.one m.two m.one_in m.two_in m.one_names m.two_names h.0 h.1
      | inr h ↦ folded clauses c m.two m.one m.two_in m.one_in m.two_names m.one_names h.0 h.1
    ]

-- ---- the cells that clauses name, in order

abbrev Ascending : List Cell → Type 0
Ascending [] = Unit {0}
Ascending (c ∷ cs) = ((d : Cell) → In d cs → Precedes c d) × Ascending cs

precedes_on : (a b c : Cell) → Precedes a b → Precedes b c → Precedes a c
precedes_on a b c (inl h) (inl k) = inl (omega (arith, h, k))
precedes_on a b c (inl h) (inr k) = inl (omega (arith, h, k.0))
precedes_on a b c (inr h) (inl k) = inl (omega (arith, h.0, k))
precedes_on a b c (inr h) (inr k) = inr (h.0 ∙ k.0, omega (arith, h.1, k.1))

before_is : (c d : Cell) → is_before c d ≡ true → Precedes c d
before_is c d h =
    elim (or_cases (nat_lt c.array d.array) (nat_eq c.array d.array && nat_lt c.index d.index) h) [
      | inl lt ↦ inl (ltb-true c.array d.array lt)
      | inr same ↦
          let t = and_parts (nat_eq c.array d.array) (nat_lt c.index d.index) same in
          let e = same_keys (c.array, 0) (d.array, 0) (rw t.0 refl) in
          inr (ap (λ (k : ℕ × ℕ). k.0) e, ltb-true c.index d.index t.1)
    ]

array_same : (c d : Cell) → c.array ≡ d.array → nat_eq c.array d.array ≡ true
array_same c d e = (and_parts (nat_eq c.array d.array) (nat_eq 0 0) (keys_same (c.array, 0) (d.array, 0) (pair_is (c.array, 0) (d.array, 0) e refl))).0

is_before_is : (c d : Cell) → Precedes c d → is_before c d ≡ true
is_before_is c d (inl lt) = or_left (nat_lt c.array d.array) (nat_eq c.array d.array && nat_lt c.index d.index) (lt-ltb c.array d.array lt)
is_before_is c d (inr same) =
    or_right (nat_lt c.array d.array) (nat_eq c.array d.array && nat_lt c.index d.index)
    (and_from (nat_eq c.array d.array) (nat_lt c.index d.index) (array_same c d same.0) (lt-ltb c.index d.index same.1))

else_behind : (c d : Cell) → is_before c d ≡ false → same_cell c d ≡ false → Precedes d c
else_behind c d not_before not_same =
    elim (cases_lt d.array c.array) [
      | inl lt ↦ inl lt
      | inr ge ↦ elim (cases_lt c.array d.array) [
        | inl gt ↦ absurd (both_ways (is_before c d) not_before (is_before_is c d (inl gt)))
        | inr le ↦
            let e : c.array ≡ d.array = omega (arith, ge, le) in
            elim (cases_lt d.index c.index) [
              | inl lt ↦ inr (sym e, lt)
              | inr past ↦ elim (cases_lt c.index d.index) [
                | inl gt ↦ absurd (both_ways (is_before c d) not_before (is_before_is c d (inr (e, gt))))
                | inr equal ↦ absurd (both_ways (same_cell c d) not_same (cell_same c d e (omega (arith, past, equal))))
              ]
            ]
      ]
    ]

-- a cell goes before the next one, or is it, or goes behind it
placed_case : (P : List Cell → Type 0) (c x : Cell) (cs : List Cell) → (is_before c x ≡ true → P (c ∷ x ∷ cs)) → (same_cell c x ≡ true → P (x ∷ cs))
    → (is_before c x ≡ false → same_cell c x ≡ false → P (x ∷ cell_placed cs c)) → P (cell_placed (x ∷ cs) c)
placed_case P c x cs before same behind = by (is_before c x) (same_cell c x) refl refl
  where
    by : (a b : Bool) → is_before c x ≡ a → same_cell c x ≡ b → P (cond a (c ∷ x ∷ cs) (cond b (x ∷ cs) (x ∷ cell_placed cs c)))
    by true b h k = before h
    by false true h k = same k
    by false false h k = behind h k

-- what stands there with one more
placed_in : (cs : List Cell) (c d : Cell) → In d (cell_placed cs c) → (d ≡ c) ⊎ In d cs
placed_in [] c d = λ h. h
placed_in (x ∷ cs) c d =
    placed_case (λ l. In d l → (d ≡ c) ⊎ In d (x ∷ cs)) c x cs (λ e h. h) (λ e h. inr h) (λ e f h.
    elim h [ inl is ↦ inr (inl is) | inr there ↦ elim (placed_in cs c d there) [ inl is ↦ inl is | inr k ↦ inr (inr k) ] ])

new_in : (cs : List Cell) (c : Cell) → In c (cell_placed cs c)
new_in [] c = inl refl
new_in (x ∷ cs) c = placed_case (In c) c x cs (λ e. inl refl) (λ e. let is = cell_is c x e in inl (one_cell c x is.0 is.1)) (λ e f. inr (new_in cs c))

old_in : (cs : List Cell) (c d : Cell) → In d cs → In d (cell_placed cs c)
old_in [] c d h = absurd h
old_in (x ∷ cs) c d h = placed_case (In d) c x cs (λ e. inr h) (λ e. h) (λ e f. elim h [ inl is ↦ inl is | inr k ↦ inr (old_in cs c d k) ])

ascending_placed : (cs : List Cell) (c : Cell) → Ascending cs → Ascending (cell_placed cs c)
ascending_placed [] c up = (λ d h. absurd h, tt)
ascending_placed (x ∷ cs) c up =
    placed_case Ascending c x cs (λ e. (first (before_is c x e), up)) (λ e. up) (λ e f. (behind (else_behind c x e f), ascending_placed cs c up.1))
  where
    first : Precedes c x → (d : Cell) → In d (x ∷ cs) → Precedes c d
    first p d (inl e) = subst (Precedes c) (sym e) p
    first p d (inr h) = precedes_on c x d p (up.0 d h)

    behind : Precedes x c → (d : Cell) → In d (cell_placed cs c) → Precedes x d
    behind p d h = elim (placed_in cs c d h) [ inl e ↦ subst (Precedes x) (sym e) p | inr k ↦ up.0 d k ]

all_ascending : (cs ds : List Cell) → Ascending cs → Ascending (fold cell_placed cs ds)
all_ascending cs [] up = up
all_ascending cs (d ∷ ds) up = all_ascending (cell_placed cs d) ds (ascending_placed cs d up)

all_in : (cs ds : List Cell) (c : Cell) → In c (fold cell_placed cs ds) → In c cs ⊎ In c ds
all_in cs [] c h = inl h
all_in cs (d ∷ ds) c h =
    elim (all_in (cell_placed cs d) ds c h) [
      | inl k ↦ elim (placed_in cs d c k) [ inl e ↦ inr (inl e) | inr old ↦ inl old ]
      | inr k ↦ inr (inr k)
    ]

old_all : (cs ds : List Cell) (c : Cell) → In c cs → In c (fold cell_placed cs ds)
old_all cs [] c h = h
old_all cs (d ∷ ds) c h = old_all (cell_placed cs d) ds c (old_in cs d c h)

in_all : (cs ds : List Cell) (c : Cell) → In c ds → In c (fold cell_placed cs ds)
in_all cs [] c h = absurd h
in_all cs (d ∷ ds) c (inl e) = old_all (cell_placed cs d) ds c (subst (λ (x : Cell). In x (cell_placed cs d)) (sym e) (new_in cs d))
in_all cs (d ∷ ds) c (inr h) = in_all (cell_placed cs d) ds c h

flat_in : (clauses : List Clause) (c : Cell) → In c (flat_map (λ k. cells_of k.section) clauses) → (k : Clause) × (In k clauses × In c (cells_of k.section))
flat_in [] c h = absurd h
flat_in (k ∷ ks) c h =
    elim (in_either c (cells_of k.section) (flat_map (λ k. cells_of k.section) ks) h) [
      | inl here ↦ (k, (inl refl, here))
      | inr later ↦ let r = flat_in ks c later in (r.0, (inr r.1.0, r.1.1))
    ]

in_flat : (clauses : List Clause) (k : Clause) (c : Cell) → In k clauses → In c (cells_of k.section) → In c (flat_map (λ k. cells_of k.section) clauses)
in_flat [] k c h i = absurd h
in_flat (j ∷ ks) k c (inl e) i =
    in_left c (cells_of j.section) (flat_map (λ k. cells_of k.section) ks) (subst (λ (it : Clause). In c (cells_of it.section)) e i)
in_flat (j ∷ ks) k c (inr h) i = in_right c (cells_of j.section) (flat_map (λ k. cells_of k.section) ks) (in_flat ks k c h i)

-- ---- the first of a test

find_first : (p : Cell → Bool) (cs : List Cell) (c : Cell) → Ascending cs → In c cs → p c ≡ true → ((d : Cell) → In d cs → Precedes d c → p d ≡ false)
    → find p cs ≡ Some c
find_first p [] c up h is none = absurd h
find_first p (x ∷ cs) c up (inl e) is none = rw (← e, is) refl
find_first p (x ∷ cs) c up (inr h) is none = rw (none x (inl refl) (up.0 c h)) (find_first p cs c up.1 h is (λ d i. none d (inr i)))

find_none : (p : Cell → Bool) (cs : List Cell) → ((d : Cell) → In d cs → p d ≡ false) → find p cs ≡ None
find_none p [] none = refl
find_none p (x ∷ cs) none = rw (none x (inl refl)) (find_none p cs (λ d i. none d (inr i)))

-- ---- the first mixed cell

named_short : (clauses : List Clause) → ((k : Clause) → In k clauses → Fits k.section) → (c : Cell) → In c (named_cells clauses) → c.index < 2 ^ 32
named_short clauses sound c h =
    elim (all_in [] (flat_map (λ k. cells_of k.section) clauses) c h) [
      | inl none ↦ absurd none
      | inr there ↦
          let k = flat_in clauses c there in
          let r = named_from c k.0.section 0 k.0.section.len (in_any (same_cell c) c (cells_of k.0.section) k.1.1 (cell_same c c refl refl)) in
          let s = (sound k.0 k.1.0).short in
          omega (arith, r.1.1, s)
    ]

-- where rows don't differ no cell is mixed
none_mixed : (shape : Arrays) (clauses : List Clause) (rows : List Row) → ((k : Clause) → In k clauses → In (row_of shape k) rows)
    → (c : Cell) → Clear rows (address c.array c.index) → is_mixed clauses c ≡ false
none_mixed shape clauses rows there c clear = false_from_ne_true (is_mixed clauses c) (λ h. absurd (differing (mixed_two clauses c h)))
  where
    differing : AreMixed clauses c → ⊥
    differing m =
        operation_differs (operation_in m.one.mode) (operation_in m.two.mode)
        (clear (row_of shape m.one) (row_of shape m.two) (there m.one m.one_in) (there m.two m.two_in)
        (covers_named shape c m.one m.one_names) (covers_named shape c m.two m.two_names)) m.differ

address_before : (d c : Cell) → d.index < 2 ^ 32 → Precedes d c → address d.array d.index < address c.array c.index
address_before d c short (inl lt) = omega (arith, short, lt)
address_before d c short (inr same) = omega (arith, same.0, same.1)

-- what is told of a row
abbrev pub told_of : Row → List ℕ × ℕ
told_of r = (r.name, r.start)

-- a clause's first cell
abbrev first_cell : Clause → Cell
first_cell k = record { array = k.section.array; index = k.section.start }

first_names : (k : Clause) → Fits k.section → names (first_cell k) k ≡ true
first_names k s = let some = s.some in from_named (first_cell k) k.section 0 k.section.len refl (omega arith) (omega (arith, some))

first_of : (s : Section) (n : ℕ) → 0 < n → In (record { array = s.array; index = s.start }) (map (cell_at s) (range_with_len 0 n))
first_of s zero some = absurd (omega (arith, some))
first_of s (suc n) some = inl (one_cell _ (cell_at s 0) refl (omega arith))

first_there : (clauses : List Clause) (k : Clause) → In k clauses → Fits k.section → In (first_cell k) (named_cells clauses)
first_there clauses k h s =
    in_all [] (flat_map (λ k. cells_of k.section) clauses) (first_cell k)
    (in_flat clauses k (first_cell k) h (first_of k.section k.section.len s.some))

first_is : (shape : Arrays) (clauses : List Clause) (rows : List Row) (k l : Clause) → ((k : Clause) → In k clauses → Fits k.section)
    → ((k : Clause) → In k clauses → In (row_of shape k) rows) → In k clauses → In l clauses → Covers (row_of shape l) ((row_of shape k).from)
    → same_operation (operation_in k.mode) (operation_in l.mode) ≡ false → ((x : ℕ) → x < (row_of shape k).from → Clear rows x)
    → first_mixed clauses ≡ Some (first_cell k)
first_is shape clauses rows k l sound there k_in l_in covers differ before =
    let s = sound k k_in in
    let short : k.section.start < 2 ^ 32 = omega (arith, s.short, s.some) in
    find_first (is_mixed clauses) (named_cells clauses) (first_cell k)
    (all_ascending [] (flat_map (λ k. cells_of k.section) clauses) tt)
    (first_there clauses k k_in s)
    (two_mixed clauses (first_cell k) (record {
      one = k;
      two = l;
      one_in = k_in;
      two_in = l_in;
      one_names = first_names k s;
      two_names = named_covers shape (first_cell k) l (sound l l_in) short covers;
      differ = differ;
    }))
    (λ d d_in d_before. none_mixed shape clauses rows there d (before (address d.array d.index) (address_before d (first_cell k) (named_short clauses sound d d_in) d_before)))

pub mixed_is : (shape : Arrays) (clauses : List Clause) (rows : List Row) (found : Option Row) → ((k : Clause) → In k clauses → Fits k.section)
    → ((k : Clause) → In k clauses → In (row_of shape k) rows) → ((r : Row) → In r rows → (k : Clause) × (In k clauses × (r ≡ row_of shape k)))
    → Outcome rows found → option_map told_of found ≡ option_map (cell_by_name shape) (first_mixed clauses)
mixed_is shape clauses rows None sound there back clear =
    rw (find_none (is_mixed clauses) (named_cells clauses) (λ c h. none_mixed shape clauses rows there c (clear (address c.array c.index)))) refl
mixed_is shape clauses rows (Some r) sound there back first =
    let k = back r first.there in
    let q = first.other in
    let l = back q.0 q.1.0 in
    let covers : Covers (row_of shape l.0) ((row_of shape k.0).from) =
    subst (λ (it : Row). Covers it ((row_of shape k.0).from)) l.1.1 (subst (λ (it : Row). Covers q.0 it.from) k.1.1 q.1.1.0) in
    let differ : same_operation (operation_in k.0.mode) (operation_in l.0.mode) ≡ false =
    subst (λ (it : Row). same_operation (operation_in k.0.mode) it.fold ≡ false) l.1.1 (subst (λ (it : Row). same_operation it.fold q.0.fold ≡ false) k.1.1 q.1.1.1) in
    let is = first_is shape clauses rows k.0 l.0 sound there k.1.0 l.1.0 covers differ (λ x below. first.before x (subst (λ (it : Row). x < it.from) (sym k.1.1) below)) in
    ap (λ (it : Row). Some (told_of it)) k.1.1 ∙ ap (option_map (cell_by_name shape)) (sym is)
