-- Numbers grow with each digit.
use Rattle.std.proofs.Common.{◌≡◌, ℕ, ◌+◌, ◌*◌, ◌≤◌, ◌<◌, [], ◌∷◌, drop, length, get_or, Some, None, arith}
use Rattle.std.proofs.lemmas.Bool.Decides.{nat_tests}
use Rattle.std.proofs.lemmas.List.{at_drop_more, at_drop_all}
use Rattle.ot_c_words.specs.Tables.{Text}
use Rattle.ot_c_words.specs.declared.number.Base.{Base}
use Rattle.ot_c_words.specs.declared.number.Base.TheVariants as b
use Rattle.ot_c_words.specs.Numbers.{base_of, figure, value_behind, value_of}

grown : (base : Base) (n f : ℕ) → n ≤ n * base_of base + f
grown b.Decimal n f = omega arith
grown b.Hexadecimal n f = omega arith

-- no further digit makes a number smaller
pub value_grows : (base : Base) (n : ℕ) (ds : Text) → n ≤ value_behind base n ds
value_grows base n [] = omega arith
value_grows base n (d ∷ ds) =
    let further : n * base_of base + figure d ≤ value_behind base (n * base_of base + figure d) ds = value_grows base (n * base_of base + figure d) ds in
    omega (arith, grown base n (figure d), further)

-- what is reached with the next digit is no more than the whole
pub reached : (base : Base) (n : ℕ) (ds : Text) (i : ℕ) → i < length ds → n * base_of base + figure (get_or ds i 0) ≤ value_behind base n (drop i ds)
reached base n ds i within =
    let front : value_behind base n (drop i ds) ≡ value_behind base (n * base_of base + figure (get_or ds i 0)) (drop (i + 1) ds) = at_drop_more (λ (rest : Text). value_behind base n rest) ds i 0 within in
    rw front (value_grows base (n * base_of base + figure (get_or ds i 0)) (drop (i + 1) ds))

pub none_fits : (base : Base) (ds : Text) → 18446744073709551616 ≤ value_behind base 0 ds → value_of base ds ≡ None
unfolding value_of
none_fits base ds large = grind (arith, nat_tests)

pub some_fits : (base : Base) (ds : Text) (n : ℕ) → n < 18446744073709551616 → n ≡ value_behind base 0 ds → Some n ≡ value_of base ds
unfolding value_of
some_fits base ds n small is = grind (arith, nat_tests)

pub all_read : (base : Base) (n : ℕ) (ds : Text) (i : ℕ) → length ds ≤ i → value_behind base n (drop i ds) ≡ n
all_read base n ds i past = at_drop_all (λ (rest : Text). value_behind base n rest) ds i past
