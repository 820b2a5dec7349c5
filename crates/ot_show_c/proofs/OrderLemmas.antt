-- Cells in order are determined by their short and their long sections.
use Rattle.std.proofs.Common.{◌≡◌, List, [], ◌∷◌, ◌++◌, Bool, true, false, ◌||◌, if◌then◌else◌, refl, sym, ap, ◌∙◌, arith, true≢false}
use Rattle.std.proofs.Math.Bool.{or_assoc}
use Rattle.std.proofs.lemmas.Bool.Decides.{nat_tests}
use Rattle.ot_model.specs.Cells.{same_cell, is_before, Precedes, AreInOrder, same_mode}
use Rattle.ot_model.specs.declared.expr.Cell.{Cell}
use Rattle.ot_model.specs.declared.expr.Section.{Section}
use Rattle.ot_model.specs.declared.stmt.Mode.{Mode}
use Rattle.ot_model.specs.declared.stmt.Use.{Use}
use Rattle.ot_model.proofs.OrderLemmas.{precedes_trans, precedes_apart, precedes_from_before, rest_in_order}
use Rattle.ot_model.proofs.EqualLemmas.{cell-decides}
use Rattle.ot_show_print.specs.Shown.{cells_in, section_cells, row}
use Rattle.ot_show_c.specs.Statements.{is_long, short}

-- ---- whether a cell is among others

abbrev pub has : Cell → List Cell → Bool
has c [] = false
has c (d ∷ ds) = same_cell c d || has c ds

or_swap : (a b c : Bool) → (a || (b || c)) ≡ (b || (a || c))
or_swap true true c = refl
or_swap true false c = refl
or_swap false b c = refl

has_append : (c : Cell) (xs ys : List Cell) → has c (xs ++ ys) ≡ (has c xs || has c ys)
has_append c [] ys = refl
has_append c (x ∷ xs) ys = ap (λ b. same_cell c x || b) (has_append c xs ys) ∙ sym (or_assoc (same_cell c x) (has c xs) (has c ys))

-- the sections that are too long for a list
abbrev pub long : List Section → List Section
long [] = []
long (s ∷ ss) = if is_long s then s ∷ long ss else long ss

has_parts : (c : Cell) (ss : List Section) → has c (section_cells ss) ≡ (has c (section_cells (short ss)) || has c (section_cells (long ss)))
has_parts c [] = refl
has_parts c (s ∷ ss) = has_append c (row s.array s.start s.len) (section_cells ss) ∙ ap (λ b. has c (row s.array s.start s.len) || b) (has_parts c ss) ∙ at_once (is_long s) refl
  where
    at_once : (b : Bool) → is_long s ≡ b → (has c (row s.array s.start s.len) || (has c (section_cells (short ss)) || has c (section_cells (long ss)))) ≡ (has c (section_cells (short (s ∷ ss))) || has c (section_cells (long (s ∷ ss))))
    at_once true h = rw h (or_swap (has c (row s.array s.start s.len)) (has c (section_cells (short ss))) (has c (section_cells (long ss))) ∙ ap (λ b. has c (section_cells (short ss)) || b) (sym (has_append c (row s.array s.start s.len) (section_cells (long ss)))))
    at_once false h = rw h (sym (or_assoc (has c (row s.array s.start s.len)) (has c (section_cells (short ss))) (has c (section_cells (long ss)))) ∙ ap (λ b. b || has c (section_cells (long ss))) (sym (has_append c (row s.array s.start s.len) (section_cells (short ss)))))

-- ---- cells in order

abbrev pub Below : Cell → List Cell → Type 0
Below c [] = Unit {0}
Below c (d ∷ ds) = Precedes c d × Below c ds

abbrev pub AreSorted : List Cell → Type 0
AreSorted [] = Unit {0}
AreSorted (c ∷ cs) = Below c cs × AreSorted cs

below_trans : (c d : Cell) (ds : List Cell) → Precedes c d → Below d ds → Below c ds
below_trans c d [] p h = tt
below_trans c d (e ∷ es) p h = (precedes_trans c d e p h.0, below_trans c d es p h.1)

other_cell : (c d : Cell) → Precedes c d → (b : Bool) → same_cell c d ≡ b → b ≡ false
other_cell c d p true h = absurd (precedes_apart c d p ((cell-decides c d).0 h))
other_cell c d p false h = refl

not_below : (c : Cell) (ds : List Cell) → Below c ds → has c ds ≡ false
not_below c [] h = refl
not_below c (d ∷ ds) h = rw (other_cell c d h.0 (same_cell c d) refl) (not_below c ds h.1)

has_first : (c : Cell) (cs : List Cell) → has c (c ∷ cs) ≡ true
has_first c cs = rw ((cell-decides c c).1 refl) refl

first_or_later : (c d : Cell) (ds : List Cell) → AreSorted (d ∷ ds) → Precedes c d → has c (d ∷ ds) ≡ false
first_or_later c d ds sorted p = rw (other_cell c d p (same_cell c d) refl) (not_below c ds (below_trans c d ds p sorted.0))

skip_first : (x c : Cell) (cs : List Cell) → same_cell x c ≡ false → has x (c ∷ cs) ≡ has x cs
skip_first x c cs h = rw h refl

data Order (c d : Cell) : Type 0 where
  before : Precedes c d → Order c d
  same : c ≡ d → Order c d
  after : Precedes d c → Order c d

by_tests : (c d : Cell) (a b e : Bool) → is_before c d ≡ a → is_before d c ≡ b → same_cell c d ≡ e → (a || (b || e)) ≡ true → Order c d
by_tests c d true b e p q r h = before (precedes_from_before c d p)
by_tests c d false true e p q r h = after (precedes_from_before d c q)
by_tests c d false false true p q r h = same ((cell-decides c d).0 r)
by_tests c d false false false p q r h = absurd (true≢false (sym h))

order_of : (c d : Cell) → Order c d
order_of c d = by_tests c d (is_before c d) (is_before d c) (same_cell c d) refl refl refl (grind (arith, nat_tests))

-- cells in order are one list where the same are among them
pub same_cells : (cs ds : List Cell) → AreSorted cs → AreSorted ds → ((x : Cell) → has x cs ≡ has x ds) → cs ≡ ds
same_cells [] [] p q h = refl
same_cells [] (d ∷ ds) p q h = absurd (true≢false (sym (has_first d ds) ∙ sym (h d)))
same_cells (c ∷ cs) [] p q h = absurd (true≢false (sym (has_first c cs) ∙ h c))
same_cells (c ∷ cs) (d ∷ ds) p q h = by_order (order_of c d) (λ e. same_cells cs ds p.1 q.1 (rest e))
  where
    rest_at : (x : Cell) → c ≡ d → (b : Bool) → same_cell x c ≡ b → has x cs ≡ has x ds
    rest_at x e true k =
        let is : x ≡ c = (cell-decides x c).0 k in
        ap (λ y. has y cs) is ∙ not_below c cs p.0 ∙ sym (ap (λ y. has y ds) (is ∙ e) ∙ not_below d ds q.0)
    rest_at x e false k =
        let l : same_cell x d ≡ false = ap (same_cell x) (sym e) ∙ k in
        sym (skip_first x c cs k) ∙ h x ∙ skip_first x d ds l

    rest : c ≡ d → (x : Cell) → has x cs ≡ has x ds
    rest e x = rest_at x e (same_cell x c) refl

    by_order : Order c d → (c ≡ d → cs ≡ ds) → c ∷ cs ≡ d ∷ ds
    by_order (before o) k = absurd (true≢false (sym (has_first c cs) ∙ h c ∙ first_or_later c d ds q o))
    by_order (after o) k = absurd (true≢false (sym (has_first d ds) ∙ sym (h d) ∙ first_or_later d c cs p o))
    by_order (same e) k = ap (λ x. x ∷ cs) e ∙ ap (λ xs. d ∷ xs) (k e)

-- the first of these uses, if there is one, comes behind the cell
abbrev FirstBehind : Cell → List Use → Type 0
FirstBehind c [] = Unit {0}
FirstBehind c (u ∷ us) = Precedes c u.cell

next_behind : (c : Cell) (u : Use) (us : List Use) → Precedes c u.cell → AreInOrder (u ∷ us) → FirstBehind c us
next_behind c u [] p order = tt
next_behind c u (v ∷ us) p order = precedes_trans c u.cell v.cell p order.0

behind_first : (u : Use) (us : List Use) → AreInOrder (u ∷ us) → FirstBehind u.cell us
behind_first u [] order = tt
behind_first u (v ∷ us) order = order.0

below_in : (c : Cell) (us : List Use) (m : Mode) → AreInOrder us → FirstBehind c us → Below c (cells_in us m)
below_in c [] m order first = tt
below_in c (u ∷ us) m order first = at_once (same_mode u.mode m) refl (below_in c us m (rest_in_order u us order) (next_behind c u us first order))
  where
    at_once : (b : Bool) → same_mode u.mode m ≡ b → Below c (cells_in us m) → Below c (cells_in (u ∷ us) m)
    at_once true h rest = rw h (first, rest)
    at_once false h rest = rw h rest

-- the cells of a declaration's mode are in order
pub sorted_in : (us : List Use) (m : Mode) → AreInOrder us → AreSorted (cells_in us m)
sorted_in [] m order = tt
sorted_in (u ∷ us) m order = at_once (same_mode u.mode m) refl (sorted_in us m (rest_in_order u us order)) (below_in u.cell us m (rest_in_order u us order) (behind_first u us order))
  where
    at_once : (b : Bool) → same_mode u.mode m ≡ b → AreSorted (cells_in us m) → Below u.cell (cells_in us m) → AreSorted (cells_in (u ∷ us) m)
    at_once true h rest below = rw h (below, rest)
    at_once false h rest below = rw h rest

-- cells in order, by their sections: those that are short, by their cells, and those that are long
pub by_parts : (ss ts : List Section) → AreSorted (section_cells ss) → AreSorted (section_cells ts) → section_cells (short ss) ≡ section_cells (short ts) → long ss ≡ long ts → section_cells ss ≡ section_cells ts
by_parts ss ts p q few many =
    same_cells (section_cells ss) (section_cells ts) p q
    (λ x. has_parts x ss ∙ ap (λ cs. has x cs || has x (section_cells (long ss))) few ∙ ap (λ ls. has x (section_cells (short ts)) || has x (section_cells ls)) many ∙ sym (has_parts x ts))
