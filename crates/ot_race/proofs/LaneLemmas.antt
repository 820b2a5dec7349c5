-- Rows by cell and by parent.
use Rattle.std.proofs.Common.{◌≡◌, ◌≢◌, ◌<◌, ◌≤◌, ◌⊎◌, ℕ, zero, suc, Bool, true, false, List, [], ◌∷◌, ◌++◌, length, set, refl, sym, ap, ◌∙◌, inl, inr, arith, is_eq}
use Rattle.std.specs.Prelude.{◌==◌, if◌then◌else◌, Some, None, slice_get}
use Rattle.std.specs.BTreeMap.{get}
use Rattle.std.specs.Ordering.{nat_cmp}
use Rattle.std.proofs.lemmas.Bool.{cases_eq, cases_lt}
use Rattle.std.proofs.lemmas.Bool.Decides.{nat_tests}
use Rattle.ot_model.proofs.CellsLemmas as cells
use Rattle.ot_model.specs.declared.expr.Cell.{Cell}
use Rattle.ot_model.specs.declared.stmt.Mode.{Mode}
use Rattle.ot_model.specs.declared.stmt.Use.{Use}
use Rattle.ot_race.specs.Siblings.{seen_in, seen_of, seen_lane, seen_of_lane, seen_at, seen_of_shelf, IsElsewhere}
use Rattle.ot_race.specs.declared.lanes.Lane.{Lane}
use Rattle.ot_race.specs.declared.lanes.Shelf.{Shelf}

-- ---- one cell

true_or_false : (b : Bool) → (b ≡ true) ⊎ (b ≡ false)
true_or_false true = inl refl
true_or_false false = inr refl

equal_of : (x y : ℕ) → (x == y) ≡ true → x ≡ y
equal_of x y h = grind (arith, nat_tests)

apart_of : (x y : ℕ) → x ≢ y → (x == y) ≡ false
apart_of x y h = elim (true_or_false (x == y)) [ inl same ↦ absurd (h (equal_of x y same)) | inr apart ↦ apart ]

pub itself : (x : ℕ) → (x == x) ≡ true
itself x = grind (arith, nat_tests)

pub apart_cmp : (k p : ℕ) → p ≢ k → is_eq (nat_cmp k p) ≡ false
apart_cmp k p h = same_cmp k p ∙ apart_of k p (λ e. h (sym e))
  where
    same_cmp : (x y : ℕ) → is_eq (nat_cmp x y) ≡ (x == y)
    same_cmp x y = elim (cases_lt x y) [ inl less ↦ grind (arith, nat_tests) | inr rest ↦ grind (arith, nat_tests) ]

pub first_seen : (lane : Lane) (p : ℕ) (m : Mode) → (lane.parent == p) ≡ true → seen_lane lane p m ≡ seen_in lane.row m
first_seen lane p m h = ap (λ b. if b then seen_in lane.row m else seen_of (get nat_cmp lane.others p) m) h

pub other_seen : (lane : Lane) (p : ℕ) (m : Mode) → (lane.parent == p) ≡ false → seen_lane lane p m ≡ seen_of (get nat_cmp lane.others p) m
other_seen lane p m h = ap (λ b. if b then seen_in lane.row m else seen_of (get nat_cmp lane.others p) m) h

-- another row for the first parent
pub row_changed : (old new : Lane) (parent : ℕ) → new.parent ≡ old.parent → new.others ≡ old.others → (old.parent == parent) ≡ true → (p : ℕ) (m : Mode)
    → p ≢ parent → seen_lane new p m ≡ seen_lane old p m
row_changed old new parent same others first p m apart =
    let away : (old.parent == p) ≡ false = apart_of old.parent p (λ e. apart (sym e ∙ equal_of old.parent parent first)) in
    other_seen new p m (ap (λ q. q == p) same ∙ away) ∙ ap (λ os. seen_of (get nat_cmp os p) m) others ∙ sym (other_seen old p m away)

-- other rows for others
pub others_changed : (old new : Lane) (parent : ℕ) → new.parent ≡ old.parent → new.row ≡ old.row
    → ((p : ℕ) → p ≢ parent → get nat_cmp new.others p ≡ get nat_cmp old.others p) → (p : ℕ) (m : Mode) → p ≢ parent → seen_lane new p m ≡ seen_lane old p m
others_changed old new parent same row others p m apart =
    elim (true_or_false (old.parent == p)) [
      | inl first ↦ first_seen new p m (ap (λ q. q == p) same ∙ first) ∙ ap (λ r. seen_in r m) row ∙ sym (first_seen old p m first)
      | inr other ↦ other_seen new p m (ap (λ q. q == p) same ∙ other) ∙ ap (λ r. seen_of r m) (others p apart) ∙ sym (other_seen old p m other)
    ]

-- another parent's row comes first
pub row_first : (old new : Lane) (parent : ℕ) → new.parent ≡ parent → (old.parent == parent) ≡ false → get nat_cmp new.others old.parent ≡ Some old.row
    → ((p : ℕ) → p ≢ old.parent → get nat_cmp new.others p ≡ get nat_cmp old.others p) → (p : ℕ) (m : Mode) → p ≢ parent → seen_lane new p m ≡ seen_lane old p m
row_first old new parent is away put others p m apart =
    let second : (new.parent == p) ≡ false = apart_of new.parent p (λ e. apart (sym e ∙ is)) in
    other_seen new p m second
    ∙ elim (cases_eq p old.parent) [
      | inl same ↦
          ap (λ q. seen_of (get nat_cmp new.others q) m) same ∙ ap (λ r. seen_of r m) put
          ∙ sym (first_seen old p m (to_equal old.parent p (sym same)))
      | inr far ↦ ap (λ r. seen_of r m) (others p far) ∙ sym (other_seen old p m (apart_of old.parent p (λ e. far (sym e))))
    ]
  where
    to_equal : (x y : ℕ) → x ≡ y → (x == y) ≡ true
    to_equal x y h = grind (arith, nat_tests)

-- ---- lists of them

get_here : {A : Type 0} (xs : List A) (i : ℕ) (x : A) → i < length xs → slice_get (set xs i x) i ≡ Some x
get_here [] i x l = absurd (omega (arith, l))
get_here (y ∷ xs) zero x l = refl
get_here (y ∷ xs) (suc i) x l = get_here xs i x (omega (arith, l))

get_other : {A : Type 0} (xs : List A) (i j : ℕ) (x : A) → j ≢ i → slice_get (set xs i x) j ≡ slice_get xs j
get_other [] i j x apart = refl
get_other (y ∷ xs) zero zero x apart = absurd (apart refl)
get_other (y ∷ xs) zero (suc j) x apart = refl
get_other (y ∷ xs) (suc i) zero x apart = refl
get_other (y ∷ xs) (suc i) (suc j) x apart = get_other xs i j x (λ e. apart (ap suc e))

pub not_found : {A : Type 0} (xs : List A) (i : ℕ) → length xs ≤ i → slice_get xs i ≡ None
not_found [] i l = refl
not_found (x ∷ xs) zero l = absurd (omega (arith, l))
not_found (x ∷ xs) (suc i) l = not_found xs i (omega (arith, l))

pub lane_pushed : (xs : List Lane) (y : Lane) (i p : ℕ) (m : Mode) → seen_lane y p m ≡ [] → seen_of_lane (slice_get (xs ++ y ∷ []) i) p m ≡ seen_of_lane (slice_get xs i) p m
lane_pushed [] y zero p m none = none
lane_pushed [] y (suc i) p m none = refl
lane_pushed (x ∷ xs) y zero p m none = refl
lane_pushed (x ∷ xs) y (suc i) p m none = lane_pushed xs y i p m none

pub shelf_pushed : (xs : List Shelf) (y : Shelf) (a i p : ℕ) (m : Mode) → seen_at y i p m ≡ []
    → seen_of_shelf (slice_get (xs ++ y ∷ []) a) i p m ≡ seen_of_shelf (slice_get xs a) i p m
shelf_pushed [] y zero i p m none = none
shelf_pushed [] y (suc a) i p m none = refl
shelf_pushed (x ∷ xs) y zero i p m none = refl
shelf_pushed (x ∷ xs) y (suc a) i p m none = shelf_pushed xs y a i p m none

pub lane_there : (xs : List Lane) (i : ℕ) (new : Lane) (p : ℕ) (m : Mode) → i < length xs → seen_of_lane (slice_get (set xs i new) i) p m ≡ seen_lane new p m
lane_there xs i new p m l = ap (λ o. seen_of_lane o p m) (get_here xs i new l)

pub lane_changed : (xs : List Lane) (i : ℕ) (old new : Lane) (parent : ℕ) → slice_get xs i ≡ Some old → i < length xs
    → ((p : ℕ) (m : Mode) → p ≢ parent → seen_lane new p m ≡ seen_lane old p m) → (j p : ℕ) (m : Mode) → (p ≢ parent) ⊎ (j ≢ i)
    → seen_of_lane (slice_get (set xs i new) j) p m ≡ seen_of_lane (slice_get xs j) p m
lane_changed xs i old new parent is l others j p m away =
    elim (cases_eq j i) [
      | inl same ↦
          let apart : p ≢ parent = elim away [ inl a ↦ a | inr b ↦ absurd (b same) ] in
          ap (λ k. seen_of_lane (slice_get (set xs i new) k) p m) same ∙ lane_there xs i new p m l ∙ others p m apart
          ∙ sym (ap (λ o. seen_of_lane o p m) is) ∙ sym (ap (λ k. seen_of_lane (slice_get xs k) p m) same)
      | inr far ↦ ap (λ o. seen_of_lane o p m) (get_other xs i j new far)
    ]

pub shelf_there : (xs : List Shelf) (a : ℕ) (new : Shelf) (i p : ℕ) (m : Mode) → a < length xs → seen_of_shelf (slice_get (set xs a new) a) i p m ≡ seen_at new i p m
shelf_there xs a new i p m l = ap (λ o. seen_of_shelf o i p m) (get_here xs a new l)

pub shelf_changed : (xs : List Shelf) (cell : Cell) (old new : Shelf) (parent : ℕ) → slice_get xs cell.array ≡ Some old → cell.array < length xs
    → ((i p : ℕ) (m : Mode) → (p ≢ parent) ⊎ (i ≢ cell.index) → seen_at new i p m ≡ seen_at old i p m) → (p : ℕ) (u : Use) → IsElsewhere parent cell p u
    → seen_of_shelf (slice_get (set xs cell.array new) u.cell.array) u.cell.index p u.mode ≡ seen_of_shelf (slice_get xs u.cell.array) u.cell.index p u.mode
shelf_changed xs cell old new parent is l others p u away =
    elim (cases_eq u.cell.array cell.array) [
      | inl same ↦
          let apart : (p ≢ parent) ⊎ (u.cell.index ≢ cell.index) =
          elim away [ inl a ↦ inl a | inr b ↦ inr (λ e. b (cells.same_cell u.cell cell same e)) ] in
          ap (λ k. seen_of_shelf (slice_get (set xs cell.array new) k) u.cell.index p u.mode) same ∙ shelf_there xs cell.array new u.cell.index p u.mode l
          ∙ others u.cell.index p u.mode apart ∙ sym (ap (λ o. seen_of_shelf o u.cell.index p u.mode) is)
          ∙ sym (ap (λ k. seen_of_shelf (slice_get xs k) u.cell.index p u.mode) same)
      | inr far ↦ ap (λ o. seen_of_shelf o u.cell.index p u.mode) (get_other xs cell.array u.cell.array new far)
    ]
