-- Words, and what stands behind them.
use Rattle.std.proofs.Common.{◌≡◌, ℕ, ◌+◌, ◌%◌, ◌<◌, ◌^◌, ◌==◌, List, [], ◌∷◌, ◌++◌, Bool, true, false, ◌&&◌, ◌||◌, refl, sym, ap, ◌∙◌, append_assoc, arith, true≢false}
use Rattle.std.specs.Prelude.{decimal}
use Rattle.std.proofs.lemmas.Bool.Decides.{nat_tests}
use Rattle.std.proofs.lemmas.Fmt.{decimal_by_steps}
use Rattle.ot_show_print.specs.Shown.{Text, Writing}
use Rattle.ot_show_print.specs.Laws.{is_digit, in_word, all_word, goes}

pub and_true : (a b : Bool) → (a && b) ≡ true → (a ≡ true) × (b ≡ true)
and_true true b h = (refl, h)
and_true false b h = absurd (true≢false (sym h))

pub or_false : (a b : Bool) → (a || b) ≡ false → (a ≡ false) × (b ≡ false)
or_false true b h = absurd (true≢false h)
or_false false b h = (refl, h)

abbrev pub head_of : Text → ℕ
head_of [] = 0
head_of (b ∷ bs) = b

abbrev pub tail_of : Text → Text
tail_of [] = []
tail_of (b ∷ bs) = bs

-- whether a byte of a word stands in front
abbrev pub starts : Text → Bool
starts [] = false
starts (b ∷ bs) = in_word b

pub no_start : (t : Text) → goes t ≡ false → starts t ≡ false
no_start [] h = refl
no_start (b ∷ bs) h = (or_false (in_word b) (b == 32) h).0

-- two words with something behind them that is no part of a word
pub split : (xs ys r s : Text) → all_word xs ≡ true → all_word ys ≡ true → starts r ≡ false → starts s ≡ false → xs ++ r ≡ ys ++ s → (xs ≡ ys) × (r ≡ s)
split [] [] r s hx hy hr hs is = (refl, is)
split [] (y ∷ ys) r s hx hy hr hs is = absurd (true≢false (sym (and_true (in_word y) (all_word ys) hy).0 ∙ sym (ap starts is) ∙ hr))
split (x ∷ xs) [] r s hx hy hr hs is = absurd (true≢false (sym (and_true (in_word x) (all_word xs) hx).0 ∙ ap starts is ∙ hs))
split (x ∷ xs) (y ∷ ys) r s hx hy hr hs is =
    let inner = split xs ys r s (and_true (in_word x) (all_word xs) hx).1 (and_true (in_word y) (all_word ys) hy).1 hr hs (ap tail_of is) in
    (ap (λ b. b ∷ xs) (ap head_of is) ∙ ap (λ bs. y ∷ bs) inner.0, inner.1)

-- digits
abbrev pub front_digit : Text → Bool
front_digit [] = false
front_digit (b ∷ bs) = is_digit b

pub record AreDigits (ds : Text) : Type 0 where
  pub word : all_word ds ≡ true
  pub front : front_digit ds ≡ true

digit_in_word : (b : ℕ) → is_digit b ≡ true → in_word b ≡ true
digit_in_word b h = grind (arith, nat_tests)

digit_of : (d : ℕ) → d < 10 → is_digit (48 + d) ≡ true
digit_of d small = grind (arith, nat_tests)

all_word-append : (xs ys : Text) → all_word xs ≡ true → all_word ys ≡ true → all_word (xs ++ ys) ≡ true
all_word-append [] ys hx hy = hy
all_word-append (x ∷ xs) ys hx hy = rw ((and_true (in_word x) (all_word xs) hx).0) (all_word-append xs ys (and_true (in_word x) (all_word xs) hx).1 hy)

one_digit : (d : ℕ) → d < 10 → AreDigits ((48 + d) ∷ [])
one_digit d small = record { word = rw (digit_in_word (48 + d) (digit_of d small)) refl; front = digit_of d small }

more_digits : (ds : Text) (d : ℕ) → d < 10 → AreDigits ds → AreDigits (ds ++ ((48 + d) ∷ []))
more_digits [] d small are = one_digit d small
more_digits (b ∷ bs) d small are = record { word = all_word-append (b ∷ bs) ((48 + d) ∷ []) are.word (one_digit d small).word; front = are.front }

pub digits_are : (n : ℕ) → n < 2 ^ 64 → AreDigits (decimal n)
digits_are n small = decimal_by_steps (λ n ds. AreDigits ds) one_digit (λ n ds large are. more_digits ds (n % 10) (omega arith) are) n small

-- a text that has grown by one text and then by another
pub grown : (one two : List Text → Text) (a b c : Writing) → b.text ≡ a.text ++ one a.names → b.names ≡ a.names → c.text ≡ b.text ++ two b.names → c.text ≡ a.text ++ (one a.names ++ two a.names)
grown one two a b c first names second =
    second ∙ ap (λ ns. b.text ++ two ns) names ∙ ap (λ t. t ++ two a.names) first ∙ append_assoc a.text (one a.names) (two a.names)
