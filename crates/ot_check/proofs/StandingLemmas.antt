-- What stands at a place, from cell to cell.
use Rattle.std.proofs.Common.{take_all, zero-add, ◌≡◌, ◌<◌, ◌≤◌, ℕ, zero, suc, ◌+◌, ◌++◌, Bool, true, false, not, ◌||◌, List, [], ◌∷◌, length, map, take, get_or, refl, sym, ap, subst, ◌∙◌, arith}
use Rattle.std.specs.Prelude.{Some, IsSome, slice_get, option_and_then, All}
use Rattle.std.specs.List.{list_any, range_with_len}
use Rattle.std.proofs.lemmas.List.FromFn.{length-map-range_with_len, get_or-map-range_with_len, map-range_with_len_more}
use Rattle.ot_model.specs.Tree.{cell_at}
use Rattle.ot_model.specs.declared.expr.Section.{Section}
use Rattle.std.proofs.lemmas.List.Folds.{list_any-append, list_any_more, list_any_at}
use Rattle.std.proofs.lemmas.List.Elements.{All-get_or}
use Rattle.ot_model.specs.Names.{IsInShape}
use Rattle.ot_model.specs.declared.expr.Cell.{Cell}
use Rattle.ot_model.specs.declared.fold.Fold.{Fold as Operation}
use Rattle.ot_model.specs.declared.stmt.Mode.TheVariants.{Writes}
use Rattle.ot_model.specs.declared.stmt.Use.{Use}
use Rattle.ot_check.specs.Offences.{Enter, use_as, Declared, Openings, allows, clashes, opened_by_any}
use Rattle.ot_check.specs.Discipline.{Children, may_break}
use Rattle.ot_check.specs.declared.fault.Offence.{Offence}
use Rattle.ot_check.specs.declared.fault.Offence.TheVariants.{NotDeclared, ChildBeyond, ReductionMisuse, ConflictsWithChild, EndsWithChildren}
use Rattle.ot_check.specs.walk.Rows.{found_at, widths}
use Rattle.ot_check.specs.declared.users.User.{User}
use Rattle.ot_check.proofs.Bits.{or_none, any-same, none_any}

-- ---- cells that are there

pub at_map : {A B : Type 0} (f : A → B) (xs : List A) (i : ℕ) (y : B) → slice_get (map f xs) i ≡ Some y → (x : A) × (slice_get xs i ≡ Some x) × (y ≡ f x)
at_map f [] i y h = cc
at_map f (x ∷ xs) zero y h = (x, refl, cc)
at_map f (x ∷ xs) (suc i) y h = at_map f xs i y h

item_within : {A : Type 0} (xs : List A) (i : ℕ) → i < length xs → IsSome (slice_get xs i)
item_within [] i l = absurd (omega (arith, l))
item_within (x ∷ xs) zero l = refl
item_within (x ∷ xs) (suc i) l = item_within xs i (omega (arith, l))

pub there : {A : Type 0} (rows : List (List A)) (c : Cell) → IsInShape (widths rows) c → IsSome (found_at rows c)
there rows c h =
    let r = at_map length rows c.array h.len h.array in
    let w : c.index < length r.0 = omega (arith, h.within, r.2) in
    subst (λ o. IsSome (option_and_then (λ row. slice_get row c.index) o)) (sym r.1) (item_within r.0 c.index w)

-- ---- from place to place in a list

pub use_there : (rows first : List (List (List User))) (uses list : List Use) (i : ℕ) (d : Use) → All (λ u. IsInShape (widths first) u.cell) uses
    → list ≡ uses → widths rows ≡ widths first → i < length list → IsSome (found_at rows (get_or list i d).cell)
use_there rows first uses list i d named is same l =
    there rows (get_or list i d).cell
    (subst (λ lens. IsInShape lens (get_or list i d).cell) (sym same)
    (All-get_or (λ u. IsInShape (widths first) u.cell) list i d l (subst (All (λ u. IsInShape (widths first) u.cell)) (sym is) named)))

-- the whole list
pub taken : {A : Type 0} (list whole : List A) (i : ℕ) → list ≡ whole → length list ≤ i → take i list ≡ whole
taken list whole i is l = take_all i list l ∙ is

pub any-step : {A : Type 0} (test : A → Bool) (list : List A) (i : ℕ) (d : A) (b : Bool) → i < length list → list_any test (take i list) ≡ false
    → b ≡ test (get_or list i d) → b ≡ false → list_any test (take (i + 1) list) ≡ false
any-step test list i d b l none is unmet =
    list_any_more test list i d l ∙ ap (λ a. a || test (get_or list i d)) none ∙ sym is ∙ unmet

pub any-at : {A : Type 0} (test : A → Bool) (list whole : List A) (i : ℕ) (d : A) (b : Bool) → list ≡ whole → i < length list
    → b ≡ test (get_or list i d) → b ≡ true → true ≡ list_any test whole
any-at test list whole i d b same l is met =
    sym (list_any_at test list i d l (sym is ∙ met)) ∙ ap (list_any test) same

pub any-none : {A : Type 0} (test : A → Bool) (list whole : List A) (i : ℕ) → list ≡ whole → length list ≤ i
    → list_any test (take i list) ≡ false → false ≡ list_any test whole
any-none test list whole i same l none = sym none ∙ ap (list_any test) (taken list whole i same l)

-- ---- a group's cells one by one

-- whether a group of this cell alone is the offence
abbrev pub alone : Declared → Openings → Children → Operation → Offence → Cell → Bool
alone own opened children op offence c = may_break own opened children (Enter op (c ∷ [])) offence

pub one_by_one : (own : Declared) (opened : Openings) (children : Children) (op : Operation) (cells : List Cell) (offence : Offence)
    → may_break own opened children (Enter op cells) offence ≡ list_any (alone own opened children op offence) cells
one_by_one own opened children op cells NotDeclared = none_any cells
one_by_one own opened children op cells ChildBeyond = none_any cells
one_by_one own opened children op cells ReductionMisuse = any-same _ _ cells (λ c. sym (or_none (not (allows own (use_as Writes c)) || opened_by_any opened c)))
one_by_one own opened children op cells ConflictsWithChild = any-same _ _ cells (λ c. sym (or_none (children (clashes (use_as Writes c)))))
one_by_one own opened children op cells EndsWithChildren = none_any cells

-- ---- what one list or the other has

pub either-then : {A : Type 0} (test : A → Bool) (xs ys : List A) (b : Bool) → b ≡ list_any test xs → b ≡ true → b ≡ list_any test (xs ++ ys)
either-then test xs ys b is met =
    met ∙ ap (λ a. a || list_any test ys) (sym met ∙ is) ∙ sym (list_any-append test xs ys)

pub either-else : {A : Type 0} (test : A → Bool) (xs ys : List A) (b d : Bool) → b ≡ list_any test xs → b ≡ false → d ≡ list_any test ys
    → d ≡ list_any test (xs ++ ys)
either-else test xs ys b d is unmet then_is =
    then_is ∙ ap (λ a. a || list_any test ys) (sym unmet ∙ is) ∙ sym (list_any-append test xs ys)

-- ---- a section's cells one by one

pub section-at : (test : Cell → Bool) (s : Section) (k n : ℕ) (cell : Cell) (b : Bool) → k < n → cell ≡ cell_at s k → b ≡ test cell → b ≡ true
    → true ≡ list_any test (map (cell_at s) (range_with_len 0 n))
section-at test s k n cell b l at is met =
    let cells = map (cell_at s) (range_with_len 0 n) in
    let len : length cells ≡ n = length-map-range_with_len (cell_at s) 0 n in
    let there : get_or cells k cell ≡ cell_at s k = get_or-map-range_with_len (cell_at s) 0 n k k cell l (zero-add k) in
    sym (list_any_at test cells k cell (omega (arith, l, len)) (ap test (there ∙ sym at) ∙ sym is ∙ met))

pub section-step : (test : Cell → Bool) (s : Section) (k : ℕ) (cell : Cell) (b : Bool) → cell ≡ cell_at s k → b ≡ test cell → b ≡ false
    → list_any test (map (cell_at s) (range_with_len 0 k)) ≡ false
    → list_any test (map (cell_at s) (range_with_len 0 (k + 1))) ≡ false
section-step test s k cell b at is unmet none =
    ap (list_any test) (map-range_with_len_more (cell_at s) 0 k k (zero-add k))
    ∙ list_any-append test (map (cell_at s) (range_with_len 0 k)) (cell_at s k ∷ [])
    ∙ ap (λ a. a || (test (cell_at s k) || false)) none ∙ or_none (test (cell_at s k)) ∙ ap test (sym at) ∙ sym is ∙ unmet

pub section-none : (test : Cell → Bool) (s : Section) (k n : ℕ) → k ≤ n → n ≤ k → list_any test (map (cell_at s) (range_with_len 0 k)) ≡ false
    → false ≡ list_any test (map (cell_at s) (range_with_len 0 n))
section-none test s k n l m none =
    let e : k ≡ n = omega (arith, l, m) in
    sym none ∙ ap (λ k. list_any test (map (cell_at s) (range_with_len 0 k))) e
