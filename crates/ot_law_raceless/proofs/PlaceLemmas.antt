-- Parts of a list of events, by their places in the whole.
use Rattle.std.proofs.Common.{◌≡◌, ℕ, suc, ◌+◌, Bool, true, false, List, [], ◌∷◌, ◌++◌, length, refl, subst, arith}
use Rattle.std.specs.Prelude.{◌==◌, if◌then◌else◌, Some, slice_get}
use Rattle.std.proofs.lemmas.List.{length-append}
use Rattle.ot_model.specs.Serial.{either}
use Rattle.ot_check.proofs.Cited.{slice_get-more}
use Rattle.ot_race.specs.Events.{Event}

-- the part stands in the whole, from place n on
abbrev pub StandsAt : List Event → ℕ → List Event → Type 0
StandsAt es n part = (i : ℕ) (e : Event) → slice_get part i ≡ Some e → slice_get es (n + i) ≡ Some e

at_right : (xs ys : List Event) (i : ℕ) (e : Event) → slice_get ys i ≡ Some e → slice_get (xs ++ ys) (length xs + i) ≡ Some e
at_right [] ys i e is = let at : i ≡ 0 + i = omega arith in subst (λ k. slice_get ys k ≡ Some e) at is
at_right (x ∷ xs) ys i e is =
    let at : suc (length xs + i) ≡ suc (length xs) + i = omega arith in
    subst (λ k. slice_get (x ∷ (xs ++ ys)) k ≡ Some e) at (at_right xs ys i e is)

pub stands_first : (es : List Event) (n : ℕ) (e : Event) (part : List Event) → StandsAt es n (e ∷ part) → slice_get es n ≡ Some e
stands_first es n e part h = let at : n + 0 ≡ n = omega arith in subst (λ k. slice_get es k ≡ Some e) at (h 0 e refl)

pub stands_rest : (es : List Event) (n : ℕ) (e : Event) (part : List Event) → StandsAt es n (e ∷ part) → StandsAt es (n + 1) part
stands_rest es n e part h = λ i x is. let at : n + suc i ≡ n + 1 + i = omega arith in subst (λ k. slice_get es k ≡ Some x) at (h (suc i) x is)

pub stands_left : (es : List Event) (n : ℕ) (xs ys : List Event) → StandsAt es n (xs ++ ys) → StandsAt es n xs
stands_left es n xs ys h = λ i e is. h i e (slice_get-more xs ys i e is)

pub stands_right : (es : List Event) (n : ℕ) (xs ys : List Event) → StandsAt es n (xs ++ ys) → StandsAt es (n + length xs) ys
stands_right es n xs ys h = λ i e is.
    let at : n + (length xs + i) ≡ n + length xs + i = omega arith in
    subst (λ k. slice_get es k ≡ Some e) at (h (length xs + i) e (at_right xs ys i e is))

-- where two parts end
pub end_of_both : (n : ℕ) (xs ys : List Event) → n + length xs + length ys ≡ n + length (xs ++ ys)
end_of_both n xs ys = let both = length-append xs ys in omega (arith, both)

pub end_of_more : (n : ℕ) (e : Event) (part : List Event) → n + 1 + length part ≡ n + length (e ∷ part)
end_of_more n e part = omega arith

-- what is so of both is so of either
if_of : {A : Type 0} (P : A → Type 0) (b : Bool) (x y : A) → P x → P y → P (if b then y else x)
if_of P true x y p q = q
if_of P false x y p q = p

pub either_of : {A : Type 0} (P : A → Type 0) (n : ℕ) (x y : A) → P x → P y → P (either n x y)
either_of P n x y p q = if_of P (n == 0) x y p q
