-- How far goes what begins here, one byte further on.
use Rattle.std.proofs.Common.{◌≡◌, ℕ, zero, suc, ◌+◌, ◌<◌, Bool, true, false, [], ◌∷◌, ◌||◌, take, drop, length, get_or, Option, Some, None, refl, sym, ap, ◌∙◌, subst, lit<, arith}
use Rattle.std.specs.Prelude.{option_map, nat_eq, codes, if◌then◌else◌}
use Rattle.std.specs.List.{starts_with, prefix_len}
use Rattle.std.specs.Str.{IsAscii}
use Rattle.std.proofs.lemmas.Bool.Decides.{nat_tests}
use Rattle.ot_c_words.specs.Names.{in_name}
use Rattle.std.proofs.lemmas.List.{at_drop_more}
use Rattle.ot_c_words.specs.Tables.{Text}
use Rattle.ot_c_words.specs.Spans.{one_more, comment_len, begins_trigraph, has_trigraph}

shifted : (n : ℕ) (o : Option ℕ) → option_map (λ m. n + m) (one_more o) ≡ option_map (λ m. n + 1 + m) o
shifted n None = refl
shifted n (Some m) = ap (λ k. Some k) (omega arith)

comment_step : (n b : ℕ) (bs : Text) → starts_with nat_eq (b ∷ bs) (codes "*/") ≡ false → option_map (λ m. n + m) (comment_len (b ∷ bs)) ≡ option_map (λ m. n + 1 + m) (comment_len bs)
comment_step n b bs h = rw h (shifted n (comment_len bs))

-- where no comment ends, what is left tells it as before
pub comment_goes_on : (bytes : Text) (i : ℕ) → i < length bytes → starts_with nat_eq (drop i bytes) (codes "*/") ≡ false
    → option_map (λ m. i + 1 + m) (comment_len (drop (i + 1) bytes)) ≡ option_map (λ m. i + m) (comment_len (drop i bytes))
comment_goes_on bytes i within h =
    let front = at_drop_more (λ (rest : Text). rest) bytes i 0 within in
    sym (ap (λ rest. option_map (λ m. i + m) (comment_len rest)) front ∙ comment_step i (get_or bytes i 0) (drop (i + 1) bytes) (sym (ap (λ rest. starts_with nat_eq rest (codes "*/")) front) ∙ h))

trigraph_step : (b : ℕ) (bs : Text) → begins_trigraph (b ∷ bs) ≡ false → has_trigraph (b ∷ bs) ≡ has_trigraph bs
trigraph_step b bs h = ap (λ x. x || has_trigraph bs) h

-- where no trigraph begins, what is left tells it as before
pub trigraph_goes_on : (bytes : Text) (i : ℕ) → i < length bytes → begins_trigraph (drop i bytes) ≡ false → has_trigraph (drop (i + 1) bytes) ≡ has_trigraph (drop i bytes)
trigraph_goes_on bytes i within h =
    let front = at_drop_more (λ (rest : Text). rest) bytes i 0 within in
    sym (ap (λ rest. has_trigraph rest) front ∙ trigraph_step (get_or bytes i 0) (drop (i + 1) bytes) (sym (ap (λ rest. begins_trigraph rest) front) ∙ h))

-- ---- names

letters_ascii : (b : ℕ) → in_name b ≡ true → b < 128
letters_ascii b h = grind (arith, nat_tests)

ascii_behind : (b : ℕ) (text : Text) → b < 128 → IsAscii text → IsAscii (b ∷ text)
ascii_behind b text small rest zero = small
ascii_behind b text small rest (suc i) = rest i

taken : (b n : ℕ) (bs : Text) → take (1 + n) (b ∷ bs) ≡ b ∷ take n bs
taken b n bs = let e : 1 + n ≡ suc n = omega arith in ap (λ k. take k (b ∷ bs)) e

named_front : (b : ℕ) (t : Bool) (bs : Text) → in_name b ≡ t → IsAscii (take (prefix_len in_name bs) bs) → IsAscii (take (if t then 1 + prefix_len in_name bs else 0) (b ∷ bs))
named_front b true bs h rest = subst (λ (text : Text). IsAscii text) (sym (taken b (prefix_len in_name bs) bs)) (ascii_behind b (take (prefix_len in_name bs) bs) (letters_ascii b h) rest)
named_front b false bs h rest = λ i. lit< tt

-- letters, digits and `_` have one byte each
pub name_ascii : (bs : Text) → IsAscii (take (prefix_len in_name bs) bs)
name_ascii [] = λ i. lit< tt
name_ascii (b ∷ bs) = named_front b (in_name b) bs refl (name_ascii bs)
