-- Words in C, and what stands behind them.
use Rattle.std.proofs.Common.{◌≡◌, ℕ, ◌<◌, ◌^◌, ◌==◌, List, [], ◌∷◌, ◌++◌, Bool, true, false, not, ◌&&◌, ◌||◌, length, refl, sym, ap, ◌∙◌, arith, true≢false, ◌+◌, ◌%◌}
use Rattle.std.specs.Prelude.{decimal}
use Rattle.std.proofs.lemmas.Bool.Decides.{nat_tests}
use Rattle.std.proofs.lemmas.Fmt.{decimal_by_steps, decimal_injective}
use Rattle.ot_model.specs.declared.expr.Cell.{Cell}
use Rattle.ot_show_print.specs.Shown.{Text, name}
use Rattle.ot_show_print.specs.Laws.{is_digit}
use Rattle.ot_show_print.proofs.WordLemmas.{and_true, or_false, head_of, tail_of, digits_are}
use Rattle.ot_show_print.proofs.ValueLemmas.{same_cell}
use Rattle.ot_show_c.specs.Laws.{in_identifier, all_identifier, is_identifier, AreIdentifiers}
use Rattle.ot_show_c.proofs.NameLemmas.{all_words}

-- whether a byte of a word stands in front
abbrev pub starts : Text → Bool
starts [] = false
starts (b ∷ bs) = in_identifier b

-- whether a value goes on here: a byte of a word or a blank stands in front
abbrev pub goes : Text → Bool
goes [] = false
goes (b ∷ bs) = in_identifier b || b == 32

pub no_start : (t : Text) → goes t ≡ false → starts t ≡ false
no_start [] h = refl
no_start (b ∷ bs) h = (or_false (in_identifier b) (b == 32) h).0

-- two words with something behind them that is no part of a word
pub split : (xs ys r s : Text) → all_identifier xs ≡ true → all_identifier ys ≡ true → starts r ≡ false → starts s ≡ false → xs ++ r ≡ ys ++ s → (xs ≡ ys) × (r ≡ s)
split [] [] r s hx hy hr hs is = (refl, is)
split [] (y ∷ ys) r s hx hy hr hs is = absurd (true≢false (sym (and_true (in_identifier y) (all_identifier ys) hy).0 ∙ sym (ap starts is) ∙ hr))
split (x ∷ xs) [] r s hx hy hr hs is = absurd (true≢false (sym (and_true (in_identifier x) (all_identifier xs) hx).0 ∙ ap starts is ∙ hs))
split (x ∷ xs) (y ∷ ys) r s hx hy hr hs is =
    let inner = split xs ys r s (and_true (in_identifier x) (all_identifier xs) hx).1 (and_true (in_identifier y) (all_identifier ys) hy).1 hr hs (ap tail_of is) in
    (ap (λ b. b ∷ xs) (ap head_of is) ∙ ap (λ bs. y ∷ bs) inner.0, inner.1)

-- ---- digits

-- whether all bytes are such
abbrev pub all_of : (ℕ → Bool) → Text → Bool
all_of p [] = true
all_of p (b ∷ bs) = p b && all_of p bs

-- whether such a byte stands in front
abbrev pub front_of : (ℕ → Bool) → Text → Bool
front_of p [] = false
front_of p (b ∷ bs) = p b

pub all_append : (p : ℕ → Bool) (xs ys : Text) → all_of p xs ≡ true → all_of p ys ≡ true → all_of p (xs ++ ys) ≡ true
all_append p [] ys hx hy = hy
all_append p (x ∷ xs) ys hx hy = rw ((and_true (p x) (all_of p xs) hx).0) (all_append p xs ys (and_true (p x) (all_of p xs) hx).1 hy)

-- two such texts with something behind them that isn't such
pub split_by : (p : ℕ → Bool) (xs ys r s : Text) → all_of p xs ≡ true → all_of p ys ≡ true → front_of p r ≡ false → front_of p s ≡ false → xs ++ r ≡ ys ++ s → (xs ≡ ys) × (r ≡ s)
split_by p [] [] r s hx hy hr hs is = (refl, is)
split_by p [] (y ∷ ys) r s hx hy hr hs is = absurd (true≢false (sym (and_true (p y) (all_of p ys) hy).0 ∙ sym (ap (front_of p) is) ∙ hr))
split_by p (x ∷ xs) [] r s hx hy hr hs is = absurd (true≢false (sym (and_true (p x) (all_of p xs) hx).0 ∙ ap (front_of p) is ∙ hs))
split_by p (x ∷ xs) (y ∷ ys) r s hx hy hr hs is =
    let inner = split_by p xs ys r s (and_true (p x) (all_of p xs) hx).1 (and_true (p y) (all_of p ys) hy).1 hr hs (ap tail_of is) in
    (ap (λ b. b ∷ xs) (ap head_of is) ∙ ap (λ bs. y ∷ bs) inner.0, inner.1)

abbrev pub all_digits : Text → Bool
all_digits t = all_of is_digit t

digit_of : (d : ℕ) → d < 10 → is_digit (48 + d) ≡ true
digit_of d small = grind (arith, nat_tests)

one_digit : (d : ℕ) → d < 10 → all_digits ((48 + d) ∷ []) ≡ true
one_digit d small = rw (digit_of d small) refl

pub only_digits : (n : ℕ) → n < 2 ^ 64 → all_digits (decimal n) ≡ true
only_digits n small = decimal_by_steps (λ n ds. all_digits ds ≡ true) one_digit (λ n ds large all. all_append is_digit ds ((48 + n % 10) ∷ []) all (one_digit (n % 10) (omega arith))) n small

pub number_word : (n : ℕ) → n < 2 ^ 64 → all_identifier (decimal n) ≡ true
number_word n small = all_words (decimal n) (digits_are n small).word

-- ---- constants

-- what may stand behind the digits of a constant
pub record IsSuffix (u : Text) : Type 0 where
  pub word : all_identifier u ≡ true
  pub no_digit : front_of is_digit u ≡ false

pub no_suffix : IsSuffix []
no_suffix = record { word = refl; no_digit = refl }

pub long_suffix : IsSuffix (85 ∷ 76 ∷ 76 ∷ [])
long_suffix = record { word = refl; no_digit = refl }

pub word_append : (xs ys : Text) → all_identifier xs ≡ true → all_identifier ys ≡ true → all_identifier (xs ++ ys) ≡ true
word_append [] ys hx hy = hy
word_append (x ∷ xs) ys hx hy = rw ((and_true (in_identifier x) (all_identifier xs) hx).0) (word_append xs ys (and_true (in_identifier x) (all_identifier xs) hx).1 hy)

-- constants with something behind them that is no part of a word are of one number
pub same_constant : (m n : ℕ) (u v r s : Text) → m < 2 ^ 64 → n < 2 ^ 64 → IsSuffix u → IsSuffix v → starts r ≡ false → starts s ≡ false → (decimal m ++ u) ++ r ≡ (decimal n ++ v) ++ s → (m ≡ n) × (r ≡ s)
same_constant m n u v r s hm hn su sv hr hs is =
    let words = split (decimal m ++ u) (decimal n ++ v) r s (word_append (decimal m) u (number_word m hm) su.word) (word_append (decimal n) v (number_word n hn) sv.word) hr hs is in
    let digits = split_by is_digit (decimal m) (decimal n) u v (only_digits m hm) (only_digits n hn) su.no_digit sv.no_digit words.0 in
    (decimal_injective m n hm hn digits.0, words.1)

pub same_number : (m n : ℕ) (r s : Text) → m < 2 ^ 64 → n < 2 ^ 64 → starts r ≡ false → starts s ≡ false → decimal m ++ r ≡ decimal n ++ s → (m ≡ n) × (r ≡ s)
same_number m n r s hm hn hr hs is =
    let words = split (decimal m) (decimal n) r s (number_word m hm) (number_word n hn) hr hs is in
    (decimal_injective m n hm hn words.0, words.1)

-- ---- names

pub name_word : (w : Text) → is_identifier w ≡ true → all_identifier w ≡ true
name_word [] h = refl
name_word (b ∷ bs) h = (and_true (not (is_digit b)) (all_identifier (b ∷ bs)) h).1

-- an array behind its name
pub same_array : (names : List Text) → AreIdentifiers names → (i j : ℕ) (t u : Text) → i < length names → j < length names → starts t ≡ false → starts u ≡ false → name names i ++ t ≡ name names j ++ u → (i ≡ j) × (t ≡ u)
same_array names are i j t u hi hj ht hu is =
    let both = split (name names i) (name names j) t u (name_word (name names i) (are.each i hi)) (name_word (name names j) (are.each j hj)) ht hu is in
    (are.differ i j hi hj both.0, both.1)

-- a cell behind its array and its place
pub one_cell : (names : List Text) → AreIdentifiers names → (c d : Cell) (t u : Text) → c.array < length names → c.index < 2 ^ 64 → d.array < length names → d.index < 2 ^ 64
    → name names c.array ++ (91 ∷ (decimal c.index ++ (93 ∷ t))) ≡ name names d.array ++ (91 ∷ (decimal d.index ++ (93 ∷ u))) → (c ≡ d) × (t ≡ u)
one_cell names are c d t u hc ic hd id is =
    let arrays = same_array names are c.array d.array (91 ∷ (decimal c.index ++ (93 ∷ t))) (91 ∷ (decimal d.index ++ (93 ∷ u))) hc hd refl refl is in
    let places = same_number c.index d.index (93 ∷ t) (93 ∷ u) ic id refl refl (ap tail_of arrays.1) in
    (same_cell c d arrays.0 places.0, ap tail_of places.1)
