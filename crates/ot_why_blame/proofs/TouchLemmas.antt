-- Uses of a cell, and what a child declares of it.
use Rattle.std.proofs.Common.{◌≡◌, ℕ, ◌+◌, ◌≤◌, ◌<◌, ◌-◌, Bool, true, false, ◌&&◌, ◌||◌, List, [], ◌∷◌, map, length, get_or, refl, sym, ap, ap₂, ◌∙◌, arith, zero-add}
use Rattle.std.specs.Prelude.{◌==◌, nat_lt}
use Rattle.std.specs.List.{list_any}
use Rattle.std.proofs.lemmas.List.FromFn.{length-map-range_with_len, get_or-map-range_with_len}
use Rattle.std.proofs.lemmas.Bool.Decides.{nat_tests}
use Rattle.std.proofs.lemmas.List.Folds.{list_any_at, Any-from_list_any}
use Rattle.ot_model.specs.Tree.{S, cell_at, cells_of}
use Rattle.ot_model.specs.Cells.{same_cell, conflicts}
use Rattle.ot_model.specs.declared.expr.Cell.{Cell}
use Rattle.ot_model.specs.declared.expr.Section.{Section}
use Rattle.ot_model.specs.declared.stmt.Mode.{Mode}
use Rattle.ot_model.specs.declared.stmt.Use.{Use}
use Rattle.ot_model.proofs.CellsLemmas as model
use Rattle.ot_check.specs.Offences.{use_as, clashes}
use Rattle.ot_check.proofs.Cited.{and_true, and_left, and_right, and_false, and_one, none_any, any-same, any-more, any-map, same_is, same_itself, section-at}
use Rattle.ot_why_blame.specs.Races.{uses_of, conflicts_at}
use Rattle.ot_why_blame.specs.Walk.{is_use_against}

-- ---- truth values and lists

pub false_unless : (b : Bool) → (b ≡ true → ⊥) → false ≡ b
false_unless true h = absurd (h refl)
false_unless false h = refl

bits : (a b c d : Bool) → ((a || b) || (c || d)) ≡ ((a || c) || (b || d))
bits true b c d = refl
bits false true true d = refl
bits false true false d = refl
bits false false true d = refl
bits false false false d = refl

any-or : {X : Type 0} (f g : X → Bool) (xs : List X) → list_any (λ x. f x || g x) xs ≡ (list_any f xs || list_any g xs)
any-or f g [] = refl
any-or f g (x ∷ xs) = ap (λ b. (f x || g x) || b) (any-or f g xs) ∙ bits (f x) (g x) (list_any f xs) (list_any g xs)

-- ---- a cell of a section

pub in_section : (s : Section) (c : Cell) → s.array ≡ c.array → s.start ≤ c.index → c.index - s.start < s.len
    → list_any (λ d. same_cell d c) (cells_of s) ≡ true
in_section s c array low high =
    let is : c ≡ cell_at s (c.index - s.start) = model.same_cell c (cell_at s (c.index - s.start)) (sym array) (omega (arith, low)) in
    sym (section-at (λ d. same_cell d c) s (c.index - s.start) s.len c true high is (sym (same_itself c)) refl)

only_in_section : (s : Section) (c : Cell) → list_any (λ d. same_cell d c) (cells_of s) ≡ true → (s.array ≡ c.array) × (s.start ≤ c.index) × (c.index - s.start < s.len)
only_in_section s c h =
    let (k, x, within, is, same) = Any-from_list_any (λ d. same_cell d c) (cells_of s) h in
    let cells = cells_of s in
    let len : length cells ≡ s.len = length-map-range_with_len (cell_at s) 0 s.len in
    let below : k < s.len = omega (arith, within, len) in
    let there : get_or cells k x ≡ cell_at s k = get_or-map-range_with_len (cell_at s) 0 s.len k k x below (zero-add k) in
    let cell : c ≡ cell_at s k = sym (same_is x c same) ∙ sym is ∙ there in
    let index : c.index ≡ s.start + k = ap (λ (d : Cell). d.index) cell in
    (sym (ap (λ (d : Cell). d.array) cell), omega (arith, index), omega (arith, index, below))

same_answer : (x y : Bool) → (x ≡ true → y ≡ true) → (y ≡ true → x ≡ true) → x ≡ y
same_answer true y f g = sym (f refl)
same_answer false true f g = g refl
same_answer false false f g = refl

pub section-is : (s : Section) (c : Cell) → s.array ≡ c.array → s.start ≤ c.index → nat_lt (c.index - s.start) s.len ≡ list_any (λ d. same_cell d c) (cells_of s)
section-is s c array low =
    same_answer (nat_lt (c.index - s.start) s.len) (list_any (λ d. same_cell d c) (cells_of s)) (λ below. in_section s c array low (grind (arith, nat_tests)))
    (λ yes. let inside = (only_in_section s c yes).2 in grind (arith, nat_tests))

pub section-other : (s : Section) (c : Cell) → (s.array ≡ c.array → s.start ≤ c.index → ⊥) → false ≡ list_any (λ d. same_cell d c) (cells_of s)
section-other s c out = false_unless (list_any (λ d. same_cell d c) (cells_of s)) (λ yes. let inside = only_in_section s c yes in out inside.0 inside.1)

-- ---- uses of a cell in conflict with a mode

-- cells used in one mode, with which it conflicts or doesn't
pub used-so : (mode own : Mode) (c : Cell) (cells : List Cell) (found : Bool) → conflicts mode own ≡ true → found ≡ list_any (λ d. same_cell d c) cells →
    found ≡ list_any (is_use_against mode c) (map (use_as own) cells)
used-so mode own c cells found so here =
    here
    ∙ sym (any-same (λ d. same_cell d c && conflicts mode own) (λ d. same_cell d c) cells (λ d. ap (λ b. same_cell d c && b) so ∙ and_one (same_cell d c)))
    ∙ sym (any-map (is_use_against mode c) (use_as own) cells)

pub used-not : (mode own : Mode) (c : Cell) (cells : List Cell) → conflicts mode own ≡ false → false ≡ list_any (is_use_against mode c) (map (use_as own) cells)
used-not mode own c cells so =
    none_any cells
    ∙ sym (any-same (λ d. same_cell d c && conflicts mode own) (λ d. false) cells (λ d. ap (λ b. same_cell d c && b) so ∙ and_false (same_cell d c)))
    ∙ sym (any-map (is_use_against mode c) (use_as own) cells)

-- ---- what a child declares

-- whether a statement's uses conflict with one of a child's
abbrev pub is_met : List Use → Use → Bool
is_met uses d = list_any (is_use_against d.mode d.cell) uses

same_turned : (c d : Cell) → same_cell c d ≡ same_cell d c
same_turned c d = ap₂ (λ a b. a && b) (turned c.array d.array) (turned c.index d.index)
  where
    turned : (a b : ℕ) → (a == b) ≡ (b == a)
    turned a b = grind (arith, nat_tests)

-- whichever of the two is gone through first
pub clashes-met : (uses declared : List Use) → list_any (λ u. clashes u declared) uses ≡ list_any (is_met uses) declared
clashes-met uses [] = sym (none_any uses)
clashes-met uses (d ∷ declared) =
    any-or (λ u. same_cell d.cell u.cell && conflicts d.mode u.mode) (λ u. clashes u declared) uses
    ∙ ap₂ (λ a b. a || b)
    (any-same (λ u. same_cell d.cell u.cell && conflicts d.mode u.mode) (is_use_against d.mode d.cell) uses (λ u. ap (λ b. b && conflicts d.mode u.mode) (same_turned d.cell u.cell)))
    (clashes-met uses declared)

-- one that is declared, and that is met
pub conflicts_found : (x : S) (declared : List Use) (i : ℕ) (other : Use) → i < length declared → is_met (uses_of x) (get_or declared i other) ≡ true →
    conflicts_at (get_or declared i other).cell x declared ≡ true
conflicts_found x declared i other within met =
    let d = get_or declared i other in
    any-more (is_use_against d.mode d.cell) (λ u. same_cell u.cell d.cell && clashes u declared) (uses_of x)
    (λ u h. and_true (same_cell u.cell d.cell) (clashes u declared) (and_left (same_cell u.cell d.cell) (conflicts d.mode u.mode) h)
    (list_any_at (λ e. same_cell e.cell u.cell && conflicts e.mode u.mode) declared i other within
    (and_true (same_cell d.cell u.cell) (conflicts d.mode u.mode) (same_turned d.cell u.cell ∙ and_left (same_cell u.cell d.cell) (conflicts d.mode u.mode) h)
    (and_right (same_cell u.cell d.cell) (conflicts d.mode u.mode) h)))) met
