-- Parts of arrays, with one more: of each array the first is found, whether it is the new one or not.
use Rattle.std.proofs.Common.{◌≡◌, ℕ, nat_eq, ◌==◌, Bool, true, false, true≢false, cond, List, [], ◌∷◌, ◌++◌, map, find, Option, Some, None, is_some, option_map, refl, sym, ap, ◌∙◌, arith}
use Rattle.std.specs.Option.{option_or}
use Rattle.std.proofs.lemmas.Bool.Decides.{nat_tests}
use Rattle.std.proofs.lemmas.List.{map_push}
use Rattle.std.proofs.lemmas.List.Folds.{find-append}
use Rattle.indexmap.specs.IndexMap.{IndexMap, get}
use Rattle.ot_c_scope.specs.declared.scope.Portion.{Portion}
use Rattle.ot_c_scope.specs.Kept.{first_or}
use Rattle.ot_c_scope.specs.Scopes.{extent_of}

equal_of : (x y : ℕ) → nat_eq x y ≡ true → x ≡ y
equal_of x y h = grind (arith, nat_tests)

new_by : (b : Bool) (found : Option Portion) (p : Portion) → (b ≡ true → is_some found ≡ false) → cond b (Some p) found ≡ option_or found (cond b (Some p) None)
new_by true None p none = refl
new_by true (Some o) p none = absurd (true≢false (none refl))
new_by false None p none = refl
new_by false (Some o) p none = refl

kept_by : (b : Bool) (found : Option Portion) (p : Portion) → (b ≡ true → is_some found ≡ true) → found ≡ option_or found (cond b (Some p) None)
kept_by true None p some = absurd (true≢false (sym (some refl)))
kept_by false None p some = refl
kept_by b (Some o) p some = refl

or_is : (found : Option Portion) (p : Portion) (x : ℕ) → option_or found (cond (nat_eq p.array x) (Some p) None) ≡ first_or found p x
or_is None p x = refl
or_is (Some o) p x = refl

module _ {S : Type 0} (old : IndexMap ℕ Portion S) (p : Portion) (x : ℕ) where
  pub first_new : is_some (get nat_eq old p.array) ≡ false → cond (nat_eq p.array x) (Some p) (get nat_eq old x) ≡ first_or (get nat_eq old x) p x
  first_new absent =
      new_by (nat_eq p.array x) (get nat_eq old x) p (λ same. ap (λ y. is_some (get nat_eq old y)) (sym (equal_of p.array x same)) ∙ absent)
      ∙ or_is (get nat_eq old x) p x

  pub first_kept : is_some (get nat_eq old p.array) ≡ true → get nat_eq old x ≡ first_or (get nat_eq old x) p x
  first_kept there =
      kept_by (nat_eq p.array x) (get nat_eq old x) p (λ same. ap (λ y. is_some (get nat_eq old y)) (sym (equal_of p.array x same)) ∙ there)
      ∙ or_is (get nat_eq old x) p x

-- one more part behind the others
seen_by : (found : Option Portion) (p : Portion) (x : ℕ) → option_map extent_of (first_or found p x) ≡ option_or (option_map extent_of found) (find (λ e. e.array == x) (extent_of p ∷ []))
seen_by (Some o) p x = refl
seen_by None p x = by (p.array == x)
  where
    by : (b : Bool) → option_map extent_of (cond b (Some p) None) ≡ cond b (Some (extent_of p)) None
    by true = refl
    by false = refl

pub oldest_next : (made : List Portion) (p : Portion) (x : ℕ) (found now : Option Portion) → option_map extent_of found ≡ find (λ e. e.array == x) (map extent_of made)
    → now ≡ first_or found p x → option_map extent_of now ≡ find (λ e. e.array == x) (map extent_of (made ++ p ∷ []))
oldest_next made p x found now is one =
    ap (option_map extent_of) one ∙ seen_by found p x
    ∙ ap (λ f. option_or f (find (λ e. e.array == x) (extent_of p ∷ []))) is
    ∙ sym (find-append (λ e. e.array == x) (map extent_of made) (extent_of p ∷ []))
    ∙ ap (find (λ e. e.array == x)) (sym (map_push extent_of made p))
