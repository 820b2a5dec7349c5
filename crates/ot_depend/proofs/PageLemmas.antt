-- Lists of lists, as those of pages and of cells are: what stands at two places once one of the lists is changed.
use Rattle.std.proofs.Common.{◌≡◌, ◌≢◌, ◌<◌, ◌≤◌, ℕ, zero, suc, List, [], ◌∷◌, ◌++◌, length, set, take, get_or, Option, Some, IsSome, refl, sym, ap, ◌∙◌, subst, inl, inr, arith}
use Rattle.std.specs.Prelude.{option_and_then, unwrap_or, replicate}
use Rattle.std.specs.List.{slice_get}
use Rattle.std.proofs.lemmas.Bool.{cases_eq}
use Rattle.std.proofs.lemmas.List.{length-set, get_or-set_same, take_all}
use Rattle.std.proofs.lemmas.Option.{slice_get_read}

-- what a list of lists has at two places
abbrev pub at_two : {P X : Type 0} → (P → ℕ → Option X) → List P → ℕ → ℕ → Option X
at_two look ps i j = option_and_then (λ p. look p j) (slice_get ps i)

slice_get-set-other : {P : Type 0} (ps : List P) (i k : ℕ) (p : P) → k ≢ i → slice_get (set ps i p) k ≡ slice_get ps k
slice_get-set-other [] i k p apart = refl
slice_get-set-other (q ∷ ps) zero zero p apart = absurd (apart refl)
slice_get-set-other (q ∷ ps) zero (suc k) p apart = refl
slice_get-set-other (q ∷ ps) (suc i) zero p apart = refl
slice_get-set-other (q ∷ ps) (suc i) (suc k) p apart = slice_get-set-other ps i k p (λ e. apart (ap suc e))

slice_get-set-same : {P : Type 0} (ps : List P) (i : ℕ) (p : P) → i < length ps → slice_get (set ps i p) i ≡ Some p
slice_get-set-same ps i p within =
    slice_get_read (set ps i p) (length (set ps i p)) i p refl (omega (arith, within, length-set ps i p)) (sym (get_or-set_same ps i p p within))

-- one of the lists is changed
pub at_set : {P X : Type 0} (look : P → ℕ → Option X) (ps : List P) (i : ℕ) (p : P) → i < length ps → (j : ℕ) → at_two look (set ps i p) i j ≡ look p j
at_set look ps i p within j = ap (option_and_then (λ q. look q j)) (slice_get-set-same ps i p within)

at_set_other : {P X : Type 0} (look : P → ℕ → Option X) (ps : List P) (i : ℕ) (p : P) (k j : ℕ) → k ≢ i → at_two look (set ps i p) k j ≡ at_two look ps k j
at_set_other look ps i p k j apart = ap (option_and_then (λ q. look q j)) (slice_get-set-other ps i k p apart)

-- what was read from it
at_read : {P X : Type 0} (look : P → ℕ → Option X) (ps : List P) (i : ℕ) (p : P) → i < length ps → p ≡ get_or ps i p → (j : ℕ) → at_two look ps i j ≡ look p j
at_read look ps i p within is j = ap (option_and_then (λ q. look q j)) (slice_get_read ps (length ps) i p refl within is)

-- what is related where one of the lists is changed, and is related to itself, is related everywhere
pub at_changed : {P X : Type 0} (look : P → ℕ → Option X) (ps : List P) (i : ℕ) (old new : P) → i < length ps → old ≡ get_or ps i old → (R : Option X → Option X → Type 0) →
    ((o : Option X) → R o o) → ((j : ℕ) → R (look old j) (look new j)) → (k j : ℕ) → R (at_two look ps k j) (at_two look (set ps i new) k j)
at_changed look ps i old new within is R same each k j = elim (cases_eq k i) [
  | inl here ↦ subst (λ a. R (at_two look ps a j) (at_two look (set ps i new) a j)) (sym here)
      (subst (λ o. R o (at_two look (set ps i new) i j)) (sym (at_read look ps i old within is j)) (subst (R (look old j)) (sym (at_set look ps i new within j)) (each j)))
  | inr apart ↦ subst (R (at_two look ps k j)) (sym (at_set_other look ps i new k j apart)) (same (at_two look ps k j))
]

-- ---- a page that is filled up with the number of a cell that has none

read_or : (z : ℕ) (xs : List ℕ) (j : ℕ) → unwrap_or (slice_get xs j) z ≡ get_or xs j z
read_or z [] j = refl
read_or z (x ∷ xs) zero = refl
read_or z (x ∷ xs) (suc j) = read_or z xs j

pub there_is : (xs : List ℕ) (j : ℕ) → j < length xs → IsSome (slice_get xs j)
there_is [] j within = absurd (omega (arith, within))
there_is (x ∷ xs) zero within = refl
there_is (x ∷ xs) (suc j) within = there_is xs j (omega (arith, within))

nothing_more : (z n j : ℕ) → get_or (replicate n z) j z ≡ z
nothing_more z zero j = refl
nothing_more z (suc n) zero = refl
nothing_more z (suc n) (suc j) = nothing_more z n j

behind : (z : ℕ) (xs : List ℕ) (n j : ℕ) → get_or (xs ++ replicate n z) j z ≡ get_or xs j z
behind z [] n j = nothing_more z n j
behind z (x ∷ xs) n zero = refl
behind z (x ∷ xs) n (suc j) = behind z xs n j

pub filled : (z : ℕ) (old new : List ℕ) (n more : ℕ) → length old ≤ n → new ≡ take n old ++ replicate more z → (j : ℕ) → unwrap_or (slice_get new j) z ≡ unwrap_or (slice_get old j) z
filled z old new n more few is j =
    let all : new ≡ old ++ replicate more z = is ∙ ap (λ xs. xs ++ replicate more z) (take_all n old few) in
    read_or z new j ∙ ap (λ xs. get_or xs j z) all ∙ behind z old more j ∙ sym (read_or z old j)
