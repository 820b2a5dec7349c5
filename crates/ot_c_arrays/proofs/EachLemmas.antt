-- One after another: a loop by its index.
use Rattle.std.proofs.Common.{◌≡◌, ℕ, suc, ◌+◌, ◌<◌, ◌≤◌, List, [], ◌∷◌, length, map, drop, drop-cons, get_or, Result, Ok, Err, refl, sym, ap, ◌∙◌, arith}
use Rattle.std.proofs.lemmas.List.{drop_all}
use Rattle.ot_c_scope.specs.declared.fault.CFault.{CFault}
use Rattle.ot_c_scope.specs.declared.fault.CFault.TheVariants as errors
use Rattle.ot_c_scope.specs.Results.{Refusal, FailsAs}
use Rattle.ot_c_arrays.specs.Each.{each_or_refused}

-- those behind one of a list
pub front : {C : Type 0} (cs : List C) (i : ℕ) (x : C) → i < length cs → x ≡ get_or cs i x → drop i cs ≡ x ∷ drop (i + 1) cs
front cs i x h is =
    let next : suc i ≡ i + 1 = omega arith in
    drop-cons cs i x h ∙ ap (λ y. y ∷ drop (suc i) cs) (sym is) ∙ ap (λ n. x ∷ drop n cs) next

module _ {A B C : Type 0} (step : A → B → Result A Refusal) (view : C → B) where
  one_more : (a b : A) (x : B) (xs : List B) → step a x ≡ Ok b → each_or_refused step a (x ∷ xs) ≡ each_or_refused step b xs
  unfolding each_or_refused
  one_more a b x xs is = rw is refl

  one_fails : (a : A) (x : B) (xs : List B) (e : Refusal) → step a x ≡ Err e → each_or_refused step a (x ∷ xs) ≡ Err e
  unfolding each_or_refused
  one_fails a x xs e is = rw is refl

  each_none : (a : A) → each_or_refused step a [] ≡ Ok a
  unfolding each_or_refused
  each_none a = refl

  viewed : (cs : List C) (i : ℕ) (x : C) → i < length cs → x ≡ get_or cs i x → map view (drop i cs) ≡ view x ∷ map view (drop (i + 1) cs)
  viewed cs i x h is = ap (map view) (front cs i x h is)

  pub each_more : (cs : List C) (i : ℕ) (x : C) (a b : A) (whole : Result A Refusal) → i < length cs → x ≡ get_or cs i x → each_or_refused step a (map view (drop i cs)) ≡ whole → step a (view x) ≡ Ok b → each_or_refused step b (map view (drop (i + 1) cs)) ≡ whole
  each_more cs i x a b whole h at is done = sym (one_more a b (view x) (map view (drop (i + 1) cs)) done) ∙ sym (ap (each_or_refused step a) (viewed cs i x h at)) ∙ is

  pub each_fails : (cs : List C) (i : ℕ) (x : C) (a : A) (whole : Result A Refusal) (e : CFault) → i < length cs → x ≡ get_or cs i x → each_or_refused step a (map view (drop i cs)) ≡ whole → FailsAs e (step a (view x)) → FailsAs e whole
  each_fails cs i x a whole errors.Memory h at is fails = tt
  each_fails cs i x a whole (errors.Outside start why) h at is fails = sym is ∙ ap (each_or_refused step a) (viewed cs i x h at) ∙ one_fails a (view x) (map view (drop (i + 1) cs)) (start, why) fails

  pub each_last : (cs : List C) (i : ℕ) (a : A) (whole : Result A Refusal) → length cs ≤ i → each_or_refused step a (map view (drop i cs)) ≡ whole → whole ≡ Ok a
  each_last cs i a whole past is = sym is ∙ ap (λ xs. each_or_refused step a (map view xs)) (drop_all i cs past) ∙ each_none a
