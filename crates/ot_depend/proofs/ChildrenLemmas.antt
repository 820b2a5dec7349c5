-- The code's records of the children, read as what they stand for.
use Rattle.std.proofs.Common.{◌≡◌, ◌==◌, ◌+◌, ℕ, zero, suc, ◌<◌, List, [], ◌∷◌, true, take, set, map, get_or, length, Some, refl, sym, ap, ◌∙◌}
use Rattle.std.specs.List.{slice_get}
use Rattle.std.specs.Option.{option_map, unwrap_or}
use Rattle.std.proofs.lemmas.Bool.{eq-eqb}
use Rattle.std.proofs.lemmas.Option.{slice_get-map, slice_get_read}
use Rattle.std.proofs.lemmas.List.{map-set, length-map, get_or-map}
use Rattle.std.proofs.lemmas.List.Folds.{list_any_at}
use Rattle.std.proofs.lemmas.List.Sums.{fold_more}
use Rattle.ot_model.proofs.CellsLemmas.{set-updated, map-updated, length-updated}
use Rattle.ot_model.specs.Cells.{updated}
use Rattle.ot_depend.specs.Kept.{Kid, woken, one_less, kids_enlisted, enlist, waiters_of}
use Rattle.ot_depend.specs.Siblings.{has}
use Rattle.ot_depend.specs.Children.{kid_of, kids_of}
use Rattle.ot_depend.specs.declared.child.Child.{Child}
use Rattle.ot_depend.proofs.LinkLemmas.{length-enlisted}

-- a changed record
pub kids_of-set : (f : Kid → Kid) (children : List Child) (i : ℕ) (c new : Child) → i < length children → c ≡ get_or children i c → kid_of new ≡ f (kid_of c) →
    kids_of (set children i new) ≡ updated (kids_of children) i f
kids_of-set f children i c new within is changed =
    map-set kid_of children i new
    ∙ set-updated (kids_of children) i (kid_of new) (kid_of c) f (changed ∙ ap f (ap kid_of is ∙ sym (get_or-map kid_of children i c (kid_of c) within)))

-- a record in which nothing is changed that counts
pub kids_of-set-same : (children : List Child) (i : ℕ) (c new : Child) → i < length children → c ≡ get_or children i c → kid_of new ≡ kid_of c → kids_of (set children i new) ≡ kids_of children
kids_of-set-same children i c new within is same = kids_of-set (λ k. k) children i c new within is same ∙ untouched (kids_of children) i
  where
    untouched : (ks : List Kid) (i : ℕ) → updated ks i (λ k. k) ≡ ks
    untouched [] i = refl
    untouched (k ∷ ks) zero = refl
    untouched (k ∷ ks) (suc i) = ap (λ r. k ∷ r) (untouched ks i)

pub waiters_of-woken : (told : List ℕ) (kids : List Kid) (i : ℕ) → waiters_of (woken kids told) i ≡ waiters_of kids i
waiters_of-woken told kids i =
    ap (λ o. unwrap_or o []) (sym (slice_get-map (λ (k : Kid). k.waiters) (woken kids told) i) ∙ ap (λ ws. slice_get ws i) (same told kids) ∙ slice_get-map (λ (k : Kid). k.waiters) kids i)
  where
    same : (told : List ℕ) (kids : List Kid) → map (λ (k : Kid). k.waiters) (woken kids told) ≡ map (λ (k : Kid). k.waiters) kids
    same [] kids = refl
    same (w ∷ ws) kids = same ws (updated kids w one_less) ∙ map-updated (λ (k : Kid). k.waiters) kids w one_less (λ k. refl)

pub length-woken : (told : List ℕ) (kids : List Kid) → length (woken kids told) ≡ length kids
length-woken [] kids = refl
length-woken (w ∷ ws) kids = length-woken ws (updated kids w one_less) ∙ length-updated kids w one_less

-- what stands at a place of a list is in it
pub has-place : (xs : List ℕ) (i d : ℕ) → i < length xs → has (get_or xs i d) xs ≡ true
has-place xs i d within = list_any_at (λ x. x == get_or xs i d) xs i d within (eq-eqb (get_or xs i d) (get_or xs i d) refl)

-- what a record stands for is at its place
pub kid_at : (children : List Child) (i : ℕ) (c : Child) → i < length children → c ≡ get_or children i c → slice_get (kids_of children) i ≡ Some (kid_of c)
kid_at children i c within is = slice_get-map kid_of children i ∙ ap (option_map kid_of) (slice_get_read children (length children) i c refl within is)

pub same_count : (xs ys : List Child) → kids_of xs ≡ kids_of ys → length xs ≡ length ys
same_count xs ys same = sym (length-map xs kid_of) ∙ ap length same ∙ length-map ys kid_of

pub enlisted_more : (child : ℕ) (kids : List Kid) (earlier : List ℕ) (i : ℕ) → i < length earlier →
    updated (kids_enlisted child kids (take i earlier)) (get_or earlier i 0) (enlist child) ≡ kids_enlisted child kids (take (i + 1) earlier)
enlisted_more child kids earlier i within = sym (fold_more (λ (ks : List Kid) p. updated ks p (enlist child)) kids earlier i 0 within)

pub length-enlisted_kids : (child : ℕ) (earlier : List ℕ) (old now : List Child) → kids_of now ≡ kids_enlisted child (kids_of old) earlier → length now ≡ length old
length-enlisted_kids child earlier old now is = sym (length-map now kid_of) ∙ ap length is ∙ length-enlisted child earlier (kids_of old) ∙ length-map old kid_of
