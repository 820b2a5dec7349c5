-- How the copies of a cell change as a number is folded into a worker's copy, and as a row begins.
use Rattle.std.proofs.Common.{◌≡◌, ◌≢◌, ℕ, zero, suc, take, cond, get_or, set, map, ◌+◌, ◌^◌, ◌<◌, ◌≤◌, ◌⊎◌, List, [], ◌∷◌, ◌++◌, length, refl, sym, ap, ◌∙◌, subst, inl, inr, arith, true≢false, Bool, true, false, Vec, Global}
use Rattle.std.specs.Prelude.{position, Option, Some, None, is_some, IfSome, slice_get, option_map, option_and_then, replicate, if◌then◌else◌}
use Rattle.ot_model.specs.Cells.{updated, cell_of, AreInOrder, same_cell}
use Rattle.ot_model.specs.Joining.{join_by, unit_of}
use Rattle.ot_model.specs.declared.expr.Cell.{Cell}
use Rattle.ot_model.specs.declared.fold.Fold.{Fold as Operation}
use Rattle.ot_model.specs.declared.stmt.Use.{Use}
use Rattle.std.proofs.lemmas.Bool.{cases_eq}
use Rattle.std.proofs.lemmas.List.{map-set, take_more, get_or-take, get_or_read, length-map, length-set, get_or-set_same, get_or-set_other}
use Rattle.std.proofs.lemmas.List.Elements.{All-nil, All-cons}
use Rattle.std.proofs.lemmas.Option.{slice_get_read, same_Some}
use Rattle.std.proofs.Math.ListN.{get_or-map}
use Rattle.std.proofs.lemmas.Iterator.Adapters.{position_from-zero}
use Rattle.std.proofs.lemmas.Grind.{common_steps}
use Rattle.std.specs.List.{position_from, All, remove}
use Rattle.ot_model.proofs.EqualLemmas.{cell-decides}
use Rattle.ot_model.proofs.OrderLemmas as uses
use Rattle.ot_model.proofs.CellsLemmas.{set-updated, slice_get-updated, slice_get-updated-other}
use Rattle.ot_owner.specs.Worth.{copies_combined, combined_by}
use Rattle.ot_owner.specs.Owning.{is_of, copy_in, row_in, with_copy, copies_at, copies_where, folded_at, begun_row}
use Rattle.ot_owner.specs.Kept.{row_of}
use Rattle.ot_owner.specs.declared.rows.Row.{Row}
use Rattle.ot_owner.proofs.CombineLemmas.{Grew, join-unit, join-small}

abbrev Rows : Type 0
Rows = List (Option (List ℕ))

pub none≢some : {A : Type 0} (x : A) → None ≡ Some x → ⊥
none≢some x e = true≢false (sym (ap is_some e))

grew-copy : (o : Operation) (v : ℕ) (copy : Option ℕ) (xs ys : List ℕ) → Grew o v xs ys → Grew o v (with_copy copy xs) (with_copy copy ys)
grew-copy o v None xs ys grew = grew
grew-copy o v (Some x) xs ys grew = inr (refl, grew)

pub grew-folded : (o : Operation) (rows : Rows) (worker place v n : ℕ) → copy_in place (row_in rows worker) ≡ Some n → Grew o v (copies_at rows place) (copies_at (folded_at o worker place v rows) place)
grew-folded o [] worker place v n is = absurd (none≢some n is)
grew-folded o (None ∷ rows) zero place v n is = absurd (none≢some n is)
grew-folded o (Some copies ∷ rows) zero place v n is =
    let now : slice_get (updated copies place (λ copy. join_by o copy v)) place ≡ Some (join_by o n v) =
    slice_get-updated copies place (λ copy. join_by o copy v) ∙ ap (option_map (λ copy. join_by o copy v)) is in
    let rest = copies_at rows place in
    subst (λ c. Grew o v (with_copy c rest) (with_copy (slice_get (updated copies place (λ copy. join_by o copy v)) place) rest)) (sym is)
    (subst (λ c. Grew o v (n ∷ rest) (with_copy c rest)) (sym now) (inl (refl, refl)))
grew-folded o (row ∷ rows) (suc worker) place v n is =
    grew-copy o v (copy_in place row) (copies_at rows place) (copies_at (folded_at o worker place v rows) place) (grew-folded o rows worker place v n is)

pub folded-other : (o : Operation) (rows : Rows) (worker place v p : ℕ) → place ≢ p → copies_at (folded_at o worker place v rows) p ≡ copies_at rows p
folded-other o [] worker place v p apart = refl
folded-other o (None ∷ rows) zero place v p apart = refl
folded-other o (Some copies ∷ rows) zero place v p apart =
    ap (λ c. with_copy c (copies_at rows p)) (slice_get-updated-other copies place p (λ copy. join_by o copy v) apart)
folded-other o (row ∷ rows) (suc worker) place v p apart = ap (with_copy (copy_in p row)) (folded-other o rows worker place v p apart)

-- each copy of a row is below 2^64
abbrev pub IsSmall : Option (List ℕ) → Type 0
IsSmall row = IfSome row (λ copies. All (λ copy. copy < 2 ^ 64) copies)

slice-small : (copies : List ℕ) (place n : ℕ) → All (λ copy. copy < 2 ^ 64) copies → slice_get copies place ≡ Some n → n < 2 ^ 64
slice-small [] place n small is = absurd (none≢some n is)
slice-small (x ∷ copies) zero n small is = subst (λ m. m < 2 ^ 64) (same_Some x n is) (small 0 x (omega arith))
slice-small (x ∷ copies) (suc place) n small is = slice-small copies place n (λ k d within. small (suc k) d (omega (arith, within))) is

copy-small : (row : Option (List ℕ)) (place n : ℕ) → IsSmall row → copy_in place row ≡ Some n → n < 2 ^ 64
copy-small None place n small is = absurd (none≢some n is)
copy-small (Some copies) place n small is = slice-small copies place n small is

pub copies-small : (rows : Rows) (place : ℕ) → All IsSmall rows → All (λ copy. copy < 2 ^ 64) (copies_at rows place)
copies-small [] place small = All-nil (λ copy. copy < 2 ^ 64)
copies-small (row ∷ rows) place small =
    by (copy_in place row) refl (copies_at rows place) (copies-small rows place (λ k d within. small (suc k) d (omega (arith, within))))
  where
    by : (c : Option ℕ) → copy_in place row ≡ c → (xs : List ℕ) → All (λ copy. copy < 2 ^ 64) xs → All (λ copy. copy < 2 ^ 64) (with_copy c xs)
    by None is xs all = all
    by (Some n) is xs all = All-cons (λ copy. copy < 2 ^ 64) n xs (copy-small row place n (small 0 row (omega arith)) is) all

-- a list of one number has it at each of its places
same-at : (len unit place : ℕ) → (slice_get {X = ℕ} (replicate len unit) place ≡ None) ⊎ (slice_get {X = ℕ} (replicate len unit) place ≡ Some unit)
same-at zero unit place = inl refl
same-at (suc len) unit zero = inr refl
same-at (suc len) unit (suc place) = same-at len unit place

-- a row that begins leaves what the cell is worth
pub combined-begun : (o : Operation) (s : ℕ) → s < 2 ^ 64 → (rows : Rows) (worker len place : ℕ) → All IsSmall rows →
    copies_combined o s (copies_at (updated rows worker (begun_row o len)) place) ≡ copies_combined o s (copies_at rows place)
combined-begun o s small [] worker len place all = refl
combined-begun o s small (None ∷ rows) zero len place all = elim (same-at len (unit_of o) place) [
  | inl none ↦ ap (λ c. copies_combined o s (with_copy c (copies_at rows place))) none
  | inr unit ↦ ap (λ c. copies_combined o s (with_copy c (copies_at rows place))) unit ∙ ap (λ n. copies_combined o n (copies_at rows place)) (join-unit o s small)
]
combined-begun o s small (Some copies ∷ rows) zero len place all = refl
combined-begun o s small (row ∷ rows) (suc worker) len place all =
    by (copy_in place row) refl (copies_at (updated rows worker (begun_row o len)) place) (copies_at rows place)
    (λ n below. combined-begun o n below rows worker len place (λ k d within. all (suc k) d (omega (arith, within))))
  where
    by : (c : Option ℕ) → copy_in place row ≡ c → (xs ys : List ℕ) → ((n : ℕ) → n < 2 ^ 64 → copies_combined o n xs ≡ copies_combined o n ys) → copies_combined o s (with_copy c xs) ≡ copies_combined o s (with_copy c ys)
    by None is xs ys same = same s small
    by (Some x) is xs ys same = same (join_by o s x) (join-small o s x small (copy-small row place x (all 0 row (omega arith)) is))

pub copies_at-append : (xs ys : Rows) (place : ℕ) → copies_at (xs ++ ys) place ≡ copies_at xs place ++ copies_at ys place
copies_at-append [] ys place = refl
copies_at-append (row ∷ xs) ys place = by (copy_in place row) (copies_at (xs ++ ys) place) (copies_at xs place) (copies_at ys place) (copies_at-append xs ys place)
  where
    by : (o : Option ℕ) (xs ys zs : List ℕ) → xs ≡ ys ++ zs → with_copy o xs ≡ with_copy o ys ++ zs
    by None xs ys zs same = same
    by (Some x) xs ys zs same = ap (λ l. x ∷ l) same

combined_by-append : (join : ℕ → ℕ → ℕ) (s : ℕ) (xs ys : List ℕ) → combined_by join s (xs ++ ys) ≡ combined_by join (combined_by join s xs) ys
combined_by-append join s [] ys = refl
combined_by-append join s (x ∷ xs) ys = combined_by-append join (join s x) xs ys

-- one row more
pub total-more : (join : ℕ → ℕ → ℕ) (s place : ℕ) (rows : Rows) (row : Option (List ℕ)) →
    combined_by join s (copies_at (rows ++ row ∷ []) place) ≡ combined_by join (combined_by join s (copies_at rows place)) (with_copy (copy_in place row) [])
total-more join s place rows row =
    ap (combined_by join s) (copies_at-append rows (row ∷ []) place) ∙ combined_by-append join s (copies_at rows place) (with_copy (copy_in place row) [])

-- a list whose elements are seen by g, once one of them is replaced
pub map-changed : {A B : Type 0} (g : A → B) (xs : List A) (i : ℕ) (x y : A) (f : B → B) → x ≡ get_or xs i x → g y ≡ f (g x)
    → map g (set xs i y) ≡ updated (map g xs) i f
map-changed g xs i x y f is same =
    map-set g xs i y ∙ set-updated (map g xs) i (g y) (g x) f (same ∙ ap (λ z. f (g z)) is ∙ ap f (sym (get_or-map g xs i x)))

set-same : {A : Type 0} (xs : List A) (i : ℕ) (x : A) → x ≡ get_or xs i x → set xs i x ≡ xs
set-same [] i x is = refl
set-same (y ∷ xs) zero x is = ap (λ z. z ∷ xs) is
set-same (y ∷ xs) (suc i) x is = ap (λ zs. y ∷ zs) (set-same xs i x is)

pub map-kept : {A B : Type 0} (g : A → B) (xs : List A) (i : ℕ) (x y : A) → x ≡ get_or xs i x → g y ≡ g x → map g (set xs i y) ≡ map g xs
map-kept g xs i x y is same = map-set g xs i y ∙ ap (set (map g xs) i) same ∙ set-same (map g xs) i (g x) (ap g is ∙ sym (get_or-map g xs i x))

-- the cell at a place is of the group, and none of the earlier ones is the same
abbrev CombinedTo : (ℕ → ℕ → ℕ) → Rows → List Use → (before after : Cell → Option ℕ) → Type 0
CombinedTo join rows uses before after = (c : Cell) → after c ≡ option_map (λ s. combined_by join s (copies_where rows (position (is_of c) uses))) (before c)

-- where none passes there is no place
from-none : (p : Use → Bool) (k : ℕ) (xs : List Use) → All (λ x. p x ≡ false) xs → position_from p k xs ≡ None
from-none p k [] none = refl
from-none p k (x ∷ xs) none =
    ap (λ b. cond b (Some k) (position_from p (k + 1) xs)) (none 0 x (omega arith)) ∙ from-none p (k + 1) xs (λ i d within. none (suc i) d (omega (arith, within)))

from-push : (p : Use → Bool) (k : ℕ) (xs : List Use) (y : Use) → All (λ x. p x ≡ false) xs → p y ≡ true → position_from p k (xs ++ y ∷ []) ≡ Some (k + length xs)
from-push p k [] y none passes = ap (λ b. cond b (Some k) (position_from p (k + 1) [])) passes ∙ ap Some (omega arith)
from-push p k (x ∷ xs) y none passes =
    ap (λ b. cond b (Some k) (position_from p (k + 1) (xs ++ y ∷ []))) (none 0 x (omega arith))
    ∙ from-push p (k + 1) xs y (λ i d within. none (suc i) d (omega (arith, within))) passes ∙ ap Some (omega arith)

from-other : (p : Use → Bool) (k : ℕ) (xs : List Use) (y : Use) → p y ≡ false → position_from p k (xs ++ y ∷ []) ≡ position_from p k xs
from-other p k [] y fails = ap (λ b. cond b (Some k) (position_from p (k + 1) [])) fails
from-other p k (x ∷ xs) y fails = ap (cond (p x) (Some k)) (from-other p (k + 1) xs y fails)

unmapped : (o : Option ℕ) → option_map (λ (s : ℕ). s) o ≡ o
unmapped None = refl
unmapped (Some x) = refl

-- the cells before a place in order are others
others_before : (uses : List Use) (k : ℕ) (u : Use) → AreInOrder uses → k < length uses → u ≡ get_or uses k u → All (λ v. is_of u.cell v ≡ false) (take k uses)
others_before us k u order within is i d below =
    let early : i < k = grind (arith, common_steps) in
    let one : get_or (take k us) i d ≡ get_or us i d = get_or-take k us i d early in
    let two : u ≡ get_or us k d = get_or_read us k u within is d in
    let apart : (get_or us i d).cell ≢ (get_or us k d).cell = uses.precedes_apart (get_or us i d).cell (get_or us k d).cell (uses.each_precedes us order i k d early within) in
    by (same_cell (get_or (take k us) i d).cell u.cell) refl
    (λ e. apart (ap (λ (v : Use). v.cell) (sym one) ∙ (cell-decides (get_or (take k us) i d).cell u.cell).0 e ∙ ap (λ (v : Use). v.cell) two))
  where
    by : (b : Bool) {c : Bool} → c ≡ b → (c ≡ true → ⊥) → c ≡ false
    by true is never = absurd (never is)
    by false is never = is

-- one cell more is combined
pub combined-more : (join : ℕ → ℕ → ℕ) (rows : Rows) (us : List Use) (k n : ℕ) (u : Use) (before mid after : Cell → Option ℕ) → AreInOrder us → k < length us → u ≡ get_or us k u
    → CombinedTo join rows (take k us) before mid → mid u.cell ≡ Some n → after u.cell ≡ Some (combined_by join n (copies_at rows k)) → ((c : Cell) → u.cell ≢ c → after c ≡ mid c)
    → CombinedTo join rows (take (k + 1) us) before after
combined-more join rows us k n u before mid after order within is soon there now others c = by (same_cell u.cell c) refl
  where
    more : take (k + 1) us ≡ take k us ++ u ∷ []
    more = take_more us k u within ∙ ap (λ v. take k us ++ v ∷ []) (sym is)

    none : All (λ v. is_of u.cell v ≡ false) (take k us)
    none = others_before us k u order within is

    same_u : same_cell u.cell u.cell ≡ true
    same_u = (cell-decides u.cell u.cell).1 refl

    found : position (is_of u.cell) (take (k + 1) us) ≡ Some k
    found = position_from-zero (is_of u.cell) (take (k + 1) us) ∙ ap (position_from (is_of u.cell) 0) more ∙ from-push (is_of u.cell) 0 (take k us) u none same_u ∙ ap Some long
      where
        long : 0 + length (take k us) ≡ k
        long = grind (arith, common_steps)

    was : before u.cell ≡ Some n
    was = sym (unmapped (before u.cell)) ∙ ap (λ o. option_map (λ s. combined_by join s (copies_where rows o)) (before u.cell)) (sym (position_from-zero (is_of u.cell) (take k us) ∙ from-none (is_of u.cell) 0 (take k us) none))
        ∙ sym (soon u.cell) ∙ there

    here : after u.cell ≡ option_map (λ s. combined_by join s (copies_where rows (position (is_of u.cell) (take (k + 1) us)))) (before u.cell)
    here = now ∙ sym (ap (λ o. option_map (λ s. combined_by join s (copies_where rows o)) (before u.cell)) found ∙ ap (option_map (λ s. combined_by join s (copies_at rows k))) was)

    by : (b : Bool) → same_cell u.cell c ≡ b → after c ≡ option_map (λ s. combined_by join s (copies_where rows (position (is_of c) (take (k + 1) us)))) (before c)
    by true e = subst (λ d. after d ≡ option_map (λ s. combined_by join s (copies_where rows (position (is_of d) (take (k + 1) us)))) (before d)) ((cell-decides u.cell c).0 e) here
    by false e =
        let kept : position (is_of c) (take (k + 1) us) ≡ position (is_of c) (take k us) =
        position_from-zero (is_of c) (take (k + 1) us) ∙ ap (position_from (is_of c) 0) more ∙ from-other (is_of c) 0 (take k us) u e ∙ sym (position_from-zero (is_of c) (take k us)) in
        others c (λ d. true≢false (sym ((cell-decides u.cell c).1 d) ∙ e)) ∙ soon c ∙ ap (λ o. option_map (λ s. combined_by join s (copies_where rows o)) (before c)) (sym kept)

-- ---- one row of several

pub slice_get-set : {A : Type 0} (xs : List A) (i : ℕ) (x : A) → i < length xs → slice_get (set xs i x) i ≡ Some x
slice_get-set xs i x within =
    slice_get_read (set xs i x) (length (set xs i x)) i x refl (omega (arith, within, length-set xs i x)) (sym (get_or-set_same xs i x x within))

-- what stands at a place of a list that is seen by g
pub made_here : {A B : Type 0} (g : A → B) (xs : List A) (i : ℕ) (y : B) (d : A) → slice_get (map g xs) i ≡ Some y → (i < length xs) × (g (get_or xs i d) ≡ y)
made_here g [] i y d is = absurd (true≢false (sym (ap is_some is)))
made_here g (x ∷ xs) zero y d is = (omega arith, same_Some (g x) y is)
made_here g (x ∷ xs) (suc i) y d is = let rest = made_here g xs i y d is in (omega (arith, rest.0), rest.1)

-- what holds of each element still does where one is changed that keeps it
pub all-updated : {A : Type 0} (P : A → Type 0) (xs : List A) (i : ℕ) (f : A → A) → ((x : A) → P x → P (f x)) → All P xs → All P (updated xs i f)
all-updated P [] i f keeps all = all
all-updated P (x ∷ xs) zero f keeps all = All-cons P (f x) xs (keeps x (all 0 x (omega arith))) (λ k d within. all (suc k) d (omega (arith, within)))
all-updated P (x ∷ xs) (suc i) f keeps all =
    All-cons P x (updated xs i f) (all 0 x (omega arith)) (all-updated P xs i f keeps (λ k d within. all (suc k) d (omega (arith, within))))

pub length-updated : {A : Type 0} (xs : List A) (i : ℕ) (f : A → A) → length (updated xs i f) ≡ length xs
length-updated [] i f = refl
length-updated (x ∷ xs) zero f = refl
length-updated (x ∷ xs) (suc i) f = ap suc (length-updated xs i f)

-- the first elements changed by f
abbrev pub front : {A : Type 0} → (A → A) → ℕ → List A → List A
front f zero xs = xs
front f (suc i) [] = []
front f (suc i) (x ∷ xs) = f x ∷ front f i xs

front-next : {A : Type 0} (f : A → A) (i : ℕ) (xs : List A) → updated (front f i xs) i f ≡ front f (suc i) xs
front-next f zero [] = refl
front-next f zero (x ∷ xs) = refl
front-next f (suc i) [] = refl
front-next f (suc i) (x ∷ xs) = ap (λ ys. f x ∷ ys) (front-next f i xs)

pub front-more : {A : Type 0} (f : A → A) (i : ℕ) (xs : List A) → updated (front f i xs) i f ≡ front f (i + 1) xs
front-more f i xs = let e : suc i ≡ i + 1 = omega arith in front-next f i xs ∙ ap (λ n. front f n xs) e

pub front-all : {A : Type 0} (f : A → A) (i : ℕ) (xs : List A) → length xs ≤ i → front f i xs ≡ map f xs
front-all f zero [] long = refl
front-all f zero (x ∷ xs) long = absurd (omega (arith, long))
front-all f (suc i) [] long = refl
front-all f (suc i) (x ∷ xs) long = ap (λ ys. f x ∷ ys) (front-all f i xs (omega (arith, long)))

-- what holds of each element, seen by g
pub all-seen : {A B : Type 0} (g : A → B) (P : B → Type 0) (xs : List A) → ((j : ℕ) (d : A) → j < length xs → P (g (get_or xs j d))) → All P (map g xs)
all-seen g P [] each = All-nil P
all-seen g P (x ∷ xs) each = All-cons P (g x) (map g xs) (each 0 x (omega arith)) (all-seen g P xs (λ j d within. each (suc j) d (omega (arith, within))))

pub seen-at : {A B : Type 0} (g : A → B) (P : B → Type 0) (xs : List A) (i : ℕ) (x : A) → All P (map g xs) → i < length xs → x ≡ get_or xs i x → P (g x)
seen-at g P xs i x all within is = subst P (get_or-map g xs i x ∙ ap g (sym is)) (all i (g x) (omega (arith, within, length-map xs g)))

-- what holds of the elements before a place holds of one more
pub before-more : {A : Type 0} (P : A → Type 0) (xs : List A) (i : ℕ) (y : A) → ((j : ℕ) (d : A) → j < i → j < length xs → P (get_or xs j d)) → P y → i < length xs →
    (j : ℕ) (d : A) → j < i + 1 → j < length (set xs i y) → P (get_or (set xs i y) j d)
before-more P xs i y earlier here inside j d below within = elim (cases_eq j i) [
  | inl same ↦ subst P (sym (ap (λ k. get_or (set xs i y) k d) same ∙ get_or-set_same xs i y d inside)) here
  | inr apart ↦ subst P (sym (get_or-set_other xs i j y d apart)) (earlier j d (omega (arith, below, apart)) (omega (arith, within, length-set xs i y)))
]

pub made_within : {A B : Type 0} (g : A → B) (xs : List A) (i : ℕ) (y : B) → slice_get (map g xs) i ≡ Some y → i < length xs
made_within g [] i y is = absurd (true≢false (sym (ap is_some is)))
made_within g (x ∷ xs) zero y is = omega arith
made_within g (x ∷ xs) (suc i) y is = let rest = made_within g xs i y is in omega (arith, rest)

-- a row that has begun is so long
pub long_here : (row : Row) (n : ℕ) → IfSome (row_of row) (λ copies. length copies ≡ n) → row.begun ≡ true → length row.copies.items ≡ n
long_here row n long begun = subst (λ (o : Option (List ℕ)). IfSome o (λ copies. length copies ≡ n)) (ap (λ b. if b then Some row.copies.items else None) begun) long

-- rows that have not begun
no_rows-next : (n : ℕ) → ◌≡◌ {A = List (Option (List ℕ))} (replicate n None ++ None ∷ []) (replicate (suc n) None)
no_rows-next zero = refl
no_rows-next (suc n) = ap (λ rows. None ∷ rows) (no_rows-next n)

pub no_rows-more : (n : ℕ) → ◌≡◌ {A = List (Option (List ℕ))} (replicate n None ++ None ∷ []) (replicate (n + 1) None)
no_rows-more n = let e : suc n ≡ n + 1 = omega arith in subst (λ m. ◌≡◌ {A = List (Option (List ℕ))} (replicate n None ++ None ∷ []) (replicate m None)) e (no_rows-next n)

-- what holds of each element, seen by g, still does once one is gone
pub all-removed : {A B : Type 0} (g : A → B) (P : B → Type 0) (xs : List A) (i : ℕ) → All P (map g xs) → All P (map g (remove xs i))
all-removed g P [] zero all = all
all-removed g P [] (suc i) all = all
all-removed g P (x ∷ xs) zero all = λ k d within. all (suc k) d (omega (arith, within))
all-removed g P (x ∷ xs) (suc i) all =
    All-cons P (g x) (map g (remove xs i)) (all 0 (g x) (omega arith)) (all-removed g P xs i (λ k d within. all (suc k) d (omega (arith, within))))

-- ---- each stored number is small

small_at : (numbers : List ℕ) (i : ℕ) → ((j : ℕ) → get_or numbers j 0 < 2 ^ 64) → IfSome (slice_get numbers i) (λ n. n < 2 ^ 64)
small_at [] i small = tt
small_at (n ∷ numbers) zero small = small 0
small_at (n ∷ numbers) (suc i) small = small_at numbers i (λ j. small (suc j))

pub small_cells : (arrays : List (Vec ℕ Global)) (cell : Cell) → All (λ array. (i : ℕ) → get_or array.items i 0 < 2 ^ 64) arrays →
    IfSome (cell_of (map (λ a. a.items) arrays) cell) (λ stored. stored < 2 ^ 64)
small_cells arrays cell small = by arrays cell.array small
  where
    by : (arrays : List (Vec ℕ Global)) (i : ℕ) → All (λ array. (i : ℕ) → get_or array.items i 0 < 2 ^ 64) arrays →
        IfSome (option_and_then (λ row. slice_get row cell.index) (slice_get (map (λ (a : Vec ℕ Global). a.items) arrays) i)) (λ stored. stored < 2 ^ 64)
    by [] i small = tt
    by (array ∷ arrays) zero small = small_at array.items cell.index (small 0 array (omega arith))
    by (array ∷ arrays) (suc i) small = by arrays i (λ k d within. small (suc k) d (omega (arith, within)))
