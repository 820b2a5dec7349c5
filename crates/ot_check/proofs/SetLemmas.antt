-- Some task of several, by its number and what it declares.
use Rattle.std.proofs.Common.{◌≡◌, ◌==◌, ℕ, zero, suc, ◌+◌, ◌<◌, ◌++◌, ◌&&◌, ◌||◌, Bool, true, false, List, [], ◌∷◌, length, refl, sym, ap, ◌∙◌, arith}
use Rattle.std.specs.Prelude.{Some, slice_get}
use Rattle.std.specs.List.{list_any}
use Rattle.ot_model.specs.declared.stmt.Use.{Use}
use Rattle.ot_check.specs.walk.States.{some_task}
use Rattle.ot_check.proofs.Bits.{or_none, or_assoc, none_any, true_or, or_right}
use Rattle.ot_check.proofs.SameLemmas.{eq_itself, eq_apart}

-- ---- lists

swap_or : (a b c d : Bool) → ((a || b) || (c || d)) ≡ ((a || c) || (b || d))
swap_or true b c d = refl
swap_or false true true d = refl
swap_or false true false d = refl
swap_or false false c d = refl

any-both : {X : Type 0} (f g : X → Bool) (xs : List X) → list_any (λ x. f x || g x) xs ≡ (list_any f xs || list_any g xs)
any-both f g [] = refl
any-both f g (x ∷ xs) = ap (λ b. (f x || g x) || b) (any-both f g xs) ∙ swap_or (f x) (g x) (list_any f xs) (list_any g xs)

-- some pair of two lists
pub any-swap : {X Y : Type 0} (f : X → Y → Bool) (xs : List X) (ys : List Y)
    → list_any (λ x. list_any (λ y. f x y) ys) xs ≡ list_any (λ y. list_any (λ x. f x y) xs) ys
any-swap f [] ys = none_any ys
any-swap f (x ∷ xs) ys =
    ap (λ b. list_any (λ y. f x y) ys || b) (any-swap f xs ys) ∙ sym (any-both (λ y. f x y) (λ y. list_any (λ x. f x y) xs) ys)

pub slice_get-more : {X : Type 0} (xs ys : List X) (i : ℕ) (x : X) → slice_get xs i ≡ Some x → slice_get (xs ++ ys) i ≡ Some x
slice_get-more [] ys i x is = cc
slice_get-more (y ∷ xs) ys zero x is = is
slice_get-more (y ∷ xs) ys (suc i) x is = slice_get-more xs ys i x is

-- ---- some task

pub some-same : (f g : ℕ → List Use → Bool) (k : ℕ) (decls : List (List Use))
    → ((i : ℕ) (d : List Use) → slice_get decls i ≡ Some d → f (k + i) d ≡ g (k + i) d) → some_task f k decls ≡ some_task g k decls
some-same f g k [] same = refl
some-same f g k (d ∷ decls) same =
    let at : k + 0 ≡ k = omega arith in
    ap (λ b. b || some_task f (suc k) decls) (sym (ap (λ n. f n d) at) ∙ same 0 d refl ∙ ap (λ n. g n d) at)
    ∙ ap (λ b. g k d || b) (some-same f g (suc k) decls (λ i e is.
    let moved : suc k + i ≡ k + suc i = omega arith in ap (λ n. f n e) moved ∙ same (suc i) e is ∙ ap (λ n. g n e) (sym moved)))

pub some-append : (f : ℕ → List Use → Bool) (k : ℕ) (decls more : List (List Use))
    → some_task f k (decls ++ more) ≡ (some_task f k decls || some_task f (k + length decls) more)
some-append f k [] more = let at : k ≡ k + 0 = omega arith in ap (λ n. some_task f n more) at
some-append f k (d ∷ decls) more =
    let at : suc k + length decls ≡ k + suc (length decls) = omega arith in
    ap (λ b. f k d || b) (some-append f (suc k) decls more ∙ ap (λ n. some_task f (suc k) decls || some_task f n more) at)
    ∙ sym (or_assoc (f k d) (some_task f (suc k) decls) (some_task f (k + suc (length decls)) more))

pub some-none : (f : ℕ → List Use → Bool) (k : ℕ) (decls : List (List Use)) → ((i : ℕ) (d : List Use) → f (k + i) d ≡ false) → some_task f k decls ≡ false
some-none f k [] none = refl
some-none f k (d ∷ decls) none =
    let at : k + 0 ≡ k = omega arith in
    ap (λ b. b || some_task f (suc k) decls) (sym (ap (λ n. f n d) at) ∙ none 0 d)
    ∙ some-none f (suc k) decls (λ i e. let moved : suc k + i ≡ k + suc i = omega arith in ap (λ n. f n e) moved ∙ none (suc i) e)

-- later tasks, none of which passes
pub some-earlier : (f : ℕ → List Use → Bool) (decls more : List (List Use)) → ((i : ℕ) (d : List Use) → f (length decls + i) d ≡ false)
    → some_task f 0 (decls ++ more) ≡ some_task f 0 decls
some-earlier f decls more none =
    some-append f 0 decls more
    ∙ ap (λ b. some_task f 0 decls || b) (some-none f (0 + length decls) more (λ i d.
    let at : 0 + length decls + i ≡ length decls + i = omega arith in ap (λ n. f n d) at ∙ none i d))
    ∙ or_none (some_task f 0 decls)

pub some-both : (f g : ℕ → List Use → Bool) (k : ℕ) (decls : List (List Use))
    → some_task (λ k d. f k d || g k d) k decls ≡ (some_task f k decls || some_task g k decls)
some-both f g k [] = refl
some-both f g k (d ∷ decls) =
    ap (λ b. (f k d || g k d) || b) (some-both f g (suc k) decls) ∙ swap_or (f k d) (g k d) (some_task f (suc k) decls) (some_task g (suc k) decls)

-- one task alone
pub some-one : (f : List Use → Bool) (n k : ℕ) (decls : List (List Use)) (i : ℕ) (d : List Use) → n ≡ k + i → slice_get decls i ≡ Some d
    → some_task (λ j e. (j == n) && f e) k decls ≡ f d
some-one f n k [] i d at is = cc
some-one f n k (e ∷ decls) zero d at is =
    let here : k ≡ n = omega (arith, at) in
    let same : e ≡ d = cc in
    ap (λ b. (b && f e) || some_task (λ j e. (j == n) && f e) (suc k) decls) (ap (λ m. k == m) (sym here) ∙ eq_itself k)
    ∙ ap (λ b. f e || b) (some-none (λ j e. (j == n) && f e) (suc k) decls (λ i e. ap (λ b. b && f e) (eq_apart (suc k + i) n (λ is. absurd (omega (arith, is, here))))))
    ∙ or_none (f e) ∙ ap f same
some-one f n k (e ∷ decls) (suc i) d at is =
    ap (λ b. (b && f e) || some_task (λ j e. (j == n) && f e) (suc k) decls) (eq_apart k n (λ is. absurd (omega (arith, is, at))))
    ∙ some-one f n (suc k) decls i d (omega (arith, at)) is

-- one that is there
pub some-there : (f : ℕ → List Use → Bool) (k : ℕ) (decls : List (List Use)) (i : ℕ) → i < length decls → ((d : List Use) → f (k + i) d ≡ true)
    → some_task f k decls ≡ true
some-there f k [] i l is = absurd (omega (arith, l))
some-there f k (d ∷ decls) zero l is =
    let at : k + 0 ≡ k = omega arith in
    true_or (f k d) (some_task f (suc k) decls) (sym (ap (λ n. f n d) at) ∙ is d)
some-there f k (d ∷ decls) (suc i) l is =
    or_right (f k d) (some_task f (suc k) decls) (some-there f (suc k) decls i (omega (arith, l))
    (λ e. let moved : suc k + i ≡ k + suc i = omega arith in ap (λ n. f n e) moved ∙ is e))
