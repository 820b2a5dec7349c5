-- One after the other, as a loop goes.
use Rattle.std.proofs.Common.{◌≡◌, ℕ, suc, ◌+◌, ◌≤◌, ◌<◌, List, ◌∷◌, length, get_or, drop, Result, Ok, sym, ap, ◌∙◌, add-one, drop-cons}
use Rattle.std.proofs.lemmas.List.{drop_all}
use Rattle.ot_exec_state.specs.Results.{◌>>=◌, each, Fails}
use Rattle.ot_exec_state.specs.declared.fault.Halt.{Halt}
use Rattle.ot_exec_state.specs.declared.fault.Halt.TheVariants as halts
use Rattle.ot_exec_state.specs.declared.fault.Reason.{Reason}

bind_ok : {A B : Type 0} (r : Result A Reason) (f : A → Result B Reason) (x : A) → r ≡ Ok x → (r >>= f) ≡ f x
bind_ok r f x e = ap (λ r. r >>= f) e

next_is : {A B : Type 0} (one : A → B → Result B Reason) (xs : List A) (i : ℕ) (x d : A) (b : B) → i < length xs → x ≡ get_or xs i d
    → each one (drop i xs) b ≡ (one x b >>= each one (drop (i + 1) xs))
unfolding each
next_is one xs i x d b within is =
    ap (λ ys. each one ys b) (drop-cons xs i d within ∙ ap (λ y. y ∷ drop (suc i) xs) (sym is) ∙ ap (λ n. x ∷ drop n xs) (sym (add-one i)))

pub goes_on : {A B : Type 0} (one : A → B → Result B Reason) (xs : List A) (i : ℕ) (x d : A) (b new : B) (all : Result B Reason) → i < length xs → x ≡ get_or xs i d
    → each one (drop i xs) b ≡ all → one x b ≡ Ok new → each one (drop (i + 1) xs) new ≡ all
goes_on one xs i x d b new all within is so_far made =
    sym (bind_ok (one x b) (each one (drop (i + 1) xs)) new made) ∙ sym (next_is one xs i x d b within is) ∙ so_far

fails : {A B : Type 0} (e : Halt) (r : Result A Reason) (f : A → Result B Reason) (all : Result B Reason) → Fails e r → (r >>= f) ≡ all → Fails e all
fails halts.Memory r f all told so_far = tt
fails (halts.For reason) r f all told so_far = sym so_far ∙ ap (λ r. r >>= f) told

pub stops : {A B : Type 0} (e : Halt) (one : A → B → Result B Reason) (xs : List A) (i : ℕ) (x d : A) (b : B) (all : Result B Reason) → i < length xs → x ≡ get_or xs i d
    → each one (drop i xs) b ≡ all → Fails e (one x b) → Fails e all
stops e one xs i x d b all within is so_far told = fails e (one x b) (each one (drop (i + 1) xs)) all told (sym (next_is one xs i x d b within is) ∙ so_far)

pub ends : {A B : Type 0} (one : A → B → Result B Reason) (xs : List A) (i : ℕ) (b : B) (all : Result B Reason) → length xs ≤ i
    → each one (drop i xs) b ≡ all → all ≡ Ok b
unfolding each
ends one xs i b all over so_far = sym so_far ∙ ap (λ ys. each one ys b) (drop_all i xs over)
