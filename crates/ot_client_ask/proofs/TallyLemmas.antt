-- Replies counted, one after another, and the first refusal among them.
use Rattle.std.proofs.Common.{◌≡◌, ◌||◌, ◌∙◌, ◌+◌, ◌-◌, ◌≤◌, ℕ, suc, Bool, true, false, cond, List, [], ◌∷◌, ◌++◌, length, take, filter, Option, Some, None, refl, sym, ap, ap₂, subst, length-append, arith}
use Rattle.std.proofs.Math.Bool.{or-false, or-true}
use Rattle.std.specs.List.{position_from}
use Rattle.std.specs.Prelude.{All}
use Rattle.ot_client_ask.specs.Streams.{is_last, is_refusal}
use Rattle.ot_client_ask.specs.Exchanges.{first_or, with_reply}
use Rattle.ot_client_ask.specs.Asking.{is_untaken, asked_tally, tally_of}

abbrev Replies : Type 0
Replies = List (List ℕ)

abbrev grown : Bool → ℕ → ℕ
grown true n = n + 1
grown false n = n

grown-suc : (b : Bool) (n : ℕ) → suc (grown b n) ≡ grown b (suc n)
grown-suc true n = omega arith
grown-suc false n = refl

filter-more : (xs : Replies) (x : List ℕ) (b : Bool) → is_untaken x ≡ b → length (filter is_untaken (xs ++ x ∷ [])) ≡ grown b (length (filter is_untaken xs))
filter-more [] x true is = ap (λ c. length (cond c (x ∷ []) [])) is
filter-more [] x false is = ap (λ c. length (cond c (x ∷ []) [])) is
filter-more (y ∷ xs) x b is = at (is_untaken y) (filter-more xs x b is)
  where
    at : (c : Bool) → length (filter is_untaken (xs ++ x ∷ [])) ≡ grown b (length (filter is_untaken xs))
        → length (cond c (y ∷ filter is_untaken (xs ++ x ∷ [])) (filter is_untaken (xs ++ x ∷ []))) ≡ grown b (length (cond c (y ∷ filter is_untaken xs) (filter is_untaken xs)))
    at true more = ap suc more ∙ grown-suc b (length (filter is_untaken xs))
    at false more = more

abbrev found : Bool → Option ℕ → ℕ → Option ℕ
found true first number = first_or first number
found false first number = first

first-more : (n : ℕ) (xs : Replies) (x : List ℕ) (b : Bool) → is_untaken x ≡ b
    → position_from is_untaken n (xs ++ x ∷ []) ≡ found b (position_from is_untaken n xs) (n + length xs)
first-more n [] x true is = let same : n ≡ n + 0 = omega arith in ap (λ c. cond c (Some n) None) is ∙ ap (λ k. Some k) same
first-more n [] x false is = ap (λ c. cond c (Some n) None) is
first-more n (y ∷ xs) x b is = at (is_untaken y) (first-more (n + 1) xs x b is)
  where
    kept : (b : Bool) (number : ℕ) → Some n ≡ found b (Some n) number
    kept true number = refl
    kept false number = refl

    at : (c : Bool) → position_from is_untaken (n + 1) (xs ++ x ∷ []) ≡ found b (position_from is_untaken (n + 1) xs) (n + 1 + length xs)
        → cond c (Some n) (position_from is_untaken (n + 1) (xs ++ x ∷ [])) ≡ found b (cond c (Some n) (position_from is_untaken (n + 1) xs)) (n + length (y ∷ xs))
    at true more = kept b (n + length (y ∷ xs))
    at false more =
        let number : n + 1 + length xs ≡ n + length (y ∷ xs) = omega arith in
        more ∙ ap (found b (position_from is_untaken (n + 1) xs)) number

same_tally : (a b c d : ℕ) (e f : Option ℕ) → a ≡ b → c ≡ d → e ≡ f → asked_tally a c e ≡ asked_tally b d f
same_tally a b c d e f lines refused first = ap₂ (λ x y. asked_tally x y e) lines refused ∙ ap (asked_tally b d) first

-- one reply more
pub tally_more : (xs : Replies) (x : List ℕ) (b : Bool) → is_untaken x ≡ b → with_reply (tally_of xs) b ≡ tally_of (xs ++ x ∷ [])
tally_more xs x true is =
    let number : 1 + length xs ≡ length xs + 1 = omega arith in
    sym (same_tally _ _ _ _ _ _ (length-append xs (x ∷ [])) (filter-more xs x true is)
    (first-more 1 xs x true is ∙ ap (first_or (position_from is_untaken 1 xs)) number))
tally_more xs x false is = sym (same_tally _ _ _ _ _ _ (length-append xs (x ∷ [])) (filter-more xs x false is) (first-more 1 xs x false is))

-- no more replies are counted than there are
pub untaken_few : (xs : Replies) → length (filter is_untaken xs) ≤ length xs
untaken_few [] = omega arith
untaken_few (x ∷ xs) = at (is_untaken x) (untaken_few xs)
  where
    at : (c : Bool) → length (filter is_untaken xs) ≤ length xs → length (cond c (x ∷ filter is_untaken xs) (filter is_untaken xs)) ≤ length (x ∷ xs)
    at true few = omega (arith, few)
    at false few = omega (arith, few)

-- what a reply that doesn't end the session is counted as, and one that does
pub untaken-of : (x : List ℕ) (s : Bool) → s ≡ is_refusal x → is_last x ≡ false → is_untaken x ≡ s
untaken-of x s told goes_on = ap₂ (λ a b. a || b) (sym told) goes_on ∙ or-false s

pub untaken_last : (x : List ℕ) → is_last x ≡ true → is_untaken x ≡ true
untaken_last x last = ap (λ b. is_refusal x || b) last ∙ or-true (is_refusal x)

-- ---- a session that is to stop at a refusal

-- so far it didn't stop
pub record Calm (stop is_refused : Bool) (replies : List (List ℕ)) : Type 0 where
  pub none : stop ≡ true → is_refused ≡ false
  pub all : stop ≡ true → All (λ reply. is_refusal reply ≡ false) replies

front : (xs : Replies) (x : List ℕ) → take (length xs) (xs ++ x ∷ []) ≡ xs
front [] x = refl
front (y ∷ xs) x = ap (λ l. y ∷ l) (front xs x)

-- the replies before the last
pub all_before : (xs : Replies) (x : List ℕ) → All (λ reply. is_refusal reply ≡ false) xs
    → All (λ reply. is_refusal reply ≡ false) (take (length (xs ++ x ∷ []) - 1) (xs ++ x ∷ []))
all_before xs x all =
    let n : length (xs ++ x ∷ []) - 1 ≡ length xs = ap (λ k. k - 1) (length-append xs (x ∷ [])) ∙ (omega arith) in
    subst (All (λ reply. is_refusal reply ≡ false)) (sym (ap (λ k. take k (xs ++ x ∷ [])) n ∙ front xs x)) all
