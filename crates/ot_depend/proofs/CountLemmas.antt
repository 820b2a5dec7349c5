-- What it says of each child that none is counted.
use Rattle.std.proofs.Common.{◌≡◌, ◌↔◌, ◌&&◌, ◌+◌, ℕ, suc, List, [], ◌∷◌, Bool, true, false, not, cond, get_or, IsTrue, refl, sym, ap, ◌∙◌, arith}
use Rattle.std.specs.List.{All, count_by}
use Rattle.std.proofs.lemmas.List.Elements.{All-cons}
use Rattle.std.proofs.lemmas.List.Sums.{sum_by-cons}
use Rattle.ot_depend.specs.Siblings.{Sibling, is_unfinished, is_in, is_unfinished_in}

-- none is counted where none passes, and only there
none_pass : {A : Type 0} (p : A → Bool) (xs : List A) → count_by p xs ≡ 0 → All (λ x. p x ≡ false) xs
none_pass p [] none = λ k d within. absurd (omega (arith, within))
none_pass p (x ∷ xs) none =
    let count : cond (p x) 1 0 + count_by p xs ≡ 0 = sym (sum_by-cons (λ y. cond (p y) 1 0) x xs) ∙ none in
    All-cons (λ y. p y ≡ false) x xs (first (p x) (count_by p xs) count) (none_pass p xs (omega (arith, count)))
  where
    first : (b : Bool) (n : ℕ) → cond b 1 0 + n ≡ 0 → b ≡ false
    first true n count = absurd (omega (arith, count))
    first false n count = refl

none_counted : {A : Type 0} (p : A → Bool) (xs : List A) → All (λ x. p x ≡ false) xs → count_by p xs ≡ 0
none_counted p [] none = refl
none_counted p (x ∷ xs) none =
    sum_by-cons (λ y. cond (p y) 1 0) x xs ∙ ap (λ b. cond b 1 0 + count_by p xs) (none 0 x (omega arith))
    ∙ omega (arith, none_counted p xs (λ k d within. none (suc k) d (omega (arith, within))))

-- the count of those that pass is 0 exactly where each has P, which those have that don't pass
pub count_by-zero : {A : Type 0} (p : A → Bool) (P : A → Type 0) → ((x : A) → p x ≡ false → P x) → ((x : A) → P x → p x ≡ false) →
    (xs : List A) → (count_by p xs ≡ 0) ↔ All P xs
count_by-zero p P out in_P xs = (
  λ none k d within. out (get_or xs k d) (none_pass p xs none k d within),
  λ all. none_counted p xs (λ k d within. in_P (get_or xs k d) (all k d within)),
)

pub none_unfinished : (siblings : List Sibling) → (count_by is_unfinished siblings ≡ 0) ↔ All (λ s. IsTrue s.finished) siblings
none_unfinished = count_by-zero is_unfinished (λ s. IsTrue s.finished) (λ s. out s.finished) (λ s. back s.finished)
  where
    out : (finished : Bool) → not finished ≡ false → finished ≡ true
    out true none = refl
    out false none = sym none

    back : (finished : Bool) → finished ≡ true → not finished ≡ false
    back true done = refl
    back false done = sym done

pub none_unfinished_in : (group : ℕ) (siblings : List Sibling) →
    (count_by (is_unfinished_in group) siblings ≡ 0) ↔ All (λ s. IsTrue (is_in group s) → IsTrue s.finished) siblings
none_unfinished_in group =
    count_by-zero (is_unfinished_in group) (λ s. IsTrue (is_in group s) → IsTrue s.finished) (λ s. out s.finished (is_in group s)) (λ s. back s.finished (is_in group s))
  where
    out : (finished here : Bool) → (not finished && here) ≡ false → here ≡ true → finished ≡ true
    out true here none there = refl
    out false here none there = sym (sym there ∙ none)

    back : (finished here : Bool) → (here ≡ true → finished ≡ true) → (not finished && here) ≡ false
    back true here done = refl
    back false true done = sym (done refl)
    back false false done = refl
