-- Arrays that a program names, one after the other.
use Rattle.std.proofs.Common.{◌≡◌, ℕ, ◌+◌, ◌≤◌, List, [], ◌∷◌, ◌++◌, length, drop, drop-cons, get_or, suc, ◌<◌, min, Bool, true, false, ◌||◌, refl, sym, ap, ◌∙◌, append_assoc, ◌⊎◌, inl, inr, arith}
use Rattle.std.specs.Prelude.{Vec, codes}
use Rattle.std.proofs.Math.Bool.{or_assoc, or-false}
use Rattle.std.proofs.lemmas.List.{append-nil, drop_all}
use Rattle.ot_model.specs.Programs.{Expanded, arrays_of}
use Rattle.ot_model.specs.declared.shape.ArrayShape.{ArrayShape}
use Rattle.ot_show_print.specs.Shown.{Text}
use Rattle.ot_show_c.specs.Programs.{Declared, any_declared, array_of, c_declared, declaration, each_declared, declarations, words_if, declared_from, lists_of}
use Rattle.ot_show_c.specs.Named.{names}

-- those from an array on
abbrev pub left : {Z : Type 0} → Expanded → ℕ → List ArrayShape → List (Vec ℕ Z) → List Declared
left p i xs vs = declared_from p i (arrays_of (drop i xs)) (lists_of (drop i vs))

text_of_first : (m : Text) (p : Expanded) (i : ℕ) (a : Text × ℕ) (others : List (Text × ℕ)) (ns : List ℕ) (more : List (List ℕ)) (b : Bool) → names p i ≡ b
    → each_declared m (declared_from p i (a ∷ others) (ns ∷ more)) ≡ words_if (names p i) (declaration m (c_declared a ns)) ++ each_declared m (declared_from p (i + 1) others more)
text_of_first m p i a others ns more true h = rw h refl
text_of_first m p i a others ns more false h = rw h refl

any_of_first : (p : Expanded) (i : ℕ) (a : Text × ℕ) (others : List (Text × ℕ)) (ns : List ℕ) (more : List (List ℕ)) (b : Bool) → names p i ≡ b
    → any_declared (declared_from p i (a ∷ others) (ns ∷ more)) ≡ (names p i || any_declared (declared_from p (i + 1) others more))
any_of_first p i a others ns more true h = rw h refl
any_of_first p i a others ns more false h = rw h refl

-- a text that has grown by the first of those that are left
pub text_step : {Z : Type 0} (m : Text) (p : Expanded) (i : ℕ) (xs : List ArrayShape) (vs : List (Vec ℕ Z)) (a : ArrayShape) (v : Vec ℕ Z) (t u all : Text)
    → drop i xs ≡ a ∷ drop (i + 1) xs → drop i vs ≡ v ∷ drop (i + 1) vs → u ≡ t ++ words_if (names p i) (declaration m (c_declared (array_of a) v.items))
    → t ++ each_declared m (left p i xs vs) ≡ all → u ++ each_declared m (left p (i + 1) xs vs) ≡ all
text_step m p i xs vs a v t u all one two grown before =
    let rest = each_declared m (left p (i + 1) xs vs) in
    let word = words_if (names p i) (declaration m (c_declared (array_of a) v.items)) in
    let both : each_declared m (left p i xs vs) ≡ word ++ rest =
    rw (one, two) (text_of_first m p i (array_of a) (arrays_of (drop (i + 1) xs)) v.items (lists_of (drop (i + 1) vs)) (names p i) refl) in
    ap (λ x. x ++ rest) grown ∙ append_assoc t word rest ∙ ap (λ x. t ++ x) (sym both) ∙ before

pub any_step : {Z : Type 0} (p : Expanded) (i : ℕ) (xs : List ArrayShape) (vs : List (Vec ℕ Z)) (a : ArrayShape) (v : Vec ℕ Z) (any all : Bool)
    → drop i xs ≡ a ∷ drop (i + 1) xs → drop i vs ≡ v ∷ drop (i + 1) vs
    → (any || any_declared (left p i xs vs)) ≡ all → ((any || names p i) || any_declared (left p (i + 1) xs vs)) ≡ all
any_step p i xs vs a v any all one two before =
    let both : any_declared (left p i xs vs) ≡ (names p i || any_declared (left p (i + 1) xs vs)) =
    rw (one, two) (any_of_first p i (array_of a) (arrays_of (drop (i + 1) xs)) v.items (lists_of (drop (i + 1) vs)) (names p i) refl) in
    or_assoc any (names p i) (any_declared (left p (i + 1) xs vs)) ∙ ap (λ b. any || b) (sym both) ∙ before

no_numbers : (p : Expanded) (i : ℕ) (xs : List (Text × ℕ)) → declared_from p i xs [] ≡ []
no_numbers p i [] = refl
no_numbers p i (x ∷ xs) = refl

-- none are left behind the last array, or behind the last numbers
pub none_left : {Z : Type 0} (p : Expanded) (i : ℕ) (xs : List ArrayShape) (vs : List (Vec ℕ Z)) → min (length xs) (length vs) ≤ i → left p i xs vs ≡ []
none_left p i xs vs h = elim (shorter (length xs) (length vs) i h) [
  | inl e ↦ ap (λ ys. declared_from p i (arrays_of ys) (lists_of (drop i vs))) (drop_all i xs e)
  | inr e ↦ ap (λ ws. declared_from p i (arrays_of (drop i xs)) (lists_of ws)) (drop_all i vs e) ∙ no_numbers p i (arrays_of (drop i xs))
]
  where
    shorter : (a b i : ℕ) → min a b ≤ i → (a ≤ i) ⊎ (b ≤ i)
    shorter a b i h = grind arith

-- the text once none are left
pub ended : (m : Text) (rest all : List Declared) (any : Bool) (t u start : Text) → rest ≡ [] → t ++ each_declared m rest ≡ start ++ each_declared m all → (any || any_declared rest) ≡ any_declared all → u ≡ t ++ words_if any (codes "\n")
    → u ≡ start ++ declarations m all
ended m rest all any t u start none text some last =
    let t_is : t ≡ start ++ each_declared m all = sym (append-nil t) ∙ ap (λ ds. t ++ each_declared m ds) (sym none) ∙ text in
    let any_is : any ≡ any_declared all = sym (or-false any) ∙ ap (λ ds. any || any_declared ds) (sym none) ∙ some in
    last ∙ ap (λ x. x ++ words_if any (codes "\n")) t_is ∙ ap (λ b. (start ++ each_declared m all) ++ words_if b (codes "\n")) any_is ∙ append_assoc start (each_declared m all) (words_if (any_declared all) (codes "\n"))

-- the element at a place, and those behind it
pub there : {A : Type 0} (xs : List A) (i : ℕ) (a : A) → i < length xs → a ≡ get_or xs i a → drop i xs ≡ a ∷ drop (i + 1) xs
there xs i a within is =
    let next : suc i ≡ i + 1 = omega arith in
    drop-cons xs i a within ∙ ap (λ b. b ∷ drop (suc i) xs) (sym is) ∙ ap (λ k. a ∷ drop k xs) next
