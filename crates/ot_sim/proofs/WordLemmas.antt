-- The first word, and what is a name.
use Rattle.std.proofs.Common.{◌≡◌, ℕ, zero, suc, ◌-◌, ◌<◌, ◌≤◌, List, [], ◌∷◌, length, take, drop, refl, ap, arith, Bool, true, false}
use Rattle.std.specs.Prelude.{Some, None, ◌==◌, ◌&&◌, nat_lt, nat_le, slice_index}
use Rattle.memchr.specs.Find.{Nowhere, Passes, is_byte}
use Rattle.std.proofs.lemmas.Bool.Decides.{nat_tests}
use Rattle.std.proofs.lemmas.Bool.{false≢true, false_from_ne_true}
use Rattle.std.proofs.lemmas.Str.{IsUtf8-from_ascii}
use Rattle.std.specs.Str.{IsAscii, IsUtf8}
use Rattle.std.specs.List.{list_all}
use Rattle.ot_program.specs.Meanings.{is_digit, is_name, is_name_byte, is_letter}
use Rattle.ot_sim.specs.Lines.{word_before, behind_space}

below : (b : ℕ) (bs : List ℕ) (j : ℕ) → Nowhere (Passes (is_byte 32) (b ∷ bs)) 0 (suc j) → Nowhere (Passes (is_byte 32) bs) 0 j
below b bs j none = λ k low high. none (suc k) (omega arith) (omega (arith, high))

other : (b : ℕ) (bs : List ℕ) (j : ℕ) → Nowhere (Passes (is_byte 32) (b ∷ bs)) 0 (suc j) → (b == 32) ≡ false
other b bs j none = false_from_ne_true (b == 32) (none 0 (omega arith) (omega arith))

-- before the first space, and behind it
pub word-front : (bytes : List ℕ) (at : ℕ) → at < length bytes → Nowhere (Passes (is_byte 32) bytes) 0 at → Passes (is_byte 32) bytes at → word_before bytes ≡ take at bytes
word-front [] at within none is = absurd (omega (arith, within))
word-front (b ∷ bs) zero within none is = rw is refl
word-front (b ∷ bs) (suc at) within none is =
    rw (other b bs at none) (ap (λ w. b ∷ w) (word-front bs at (omega (arith, within)) (below b bs at none) is))

pub behind-front : (bytes : List ℕ) (at : ℕ) → at < length bytes → Nowhere (Passes (is_byte 32) bytes) 0 at → Passes (is_byte 32) bytes at → behind_space bytes ≡ Some (drop 1 (drop at bytes))
behind-front [] at within none is = absurd (omega (arith, within))
behind-front (b ∷ bs) zero within none is = rw is refl
behind-front (b ∷ bs) (suc at) within none is = rw (other b bs at none) (behind-front bs at (omega (arith, within)) (below b bs at none) is)

-- where no space is
pub word-all : (bytes : List ℕ) → Nowhere (Passes (is_byte 32) bytes) 0 (length bytes) → word_before bytes ≡ bytes
word-all [] none = refl
word-all (b ∷ bs) none = rw (other b bs (length bs) none) (ap (λ w. b ∷ w) (word-all bs (below b bs (length bs) none)))

pub behind-none : (bytes : List ℕ) → Nowhere (Passes (is_byte 32) bytes) 0 (length bytes) → behind_space bytes ≡ None
behind-none [] none = refl
behind-none (b ∷ bs) none = rw (other b bs (length bs) none) (behind-none bs (below b bs (length bs) none))

-- what a digit is worth
pub digit-small : (b : ℕ) → true ≡ is_digit b → b - 48 ≤ 9
digit-small b is = grind (arith, nat_tests)

-- ---- the bytes of a name are ASCII

and_left : (a b : Bool) → (a && b) ≡ true → a ≡ true
and_left true b is = refl
and_left false b is = is

and_right : (a b : Bool) → (a && b) ≡ true → b ≡ true
and_right true b is = is
and_right false b is = absurd (false≢true is)

byte-small : (b : ℕ) → is_name_byte b ≡ true → b < 128
byte-small b is = grind (arith, nat_tests)

bytes-small : (bs : List ℕ) → list_all is_name_byte bs ≡ true → IsAscii bs
bytes-small [] all i = omega arith
bytes-small (b ∷ bs) all zero = byte-small b (and_left (is_name_byte b) (list_all is_name_byte bs) all)
bytes-small (b ∷ bs) all (suc i) = bytes-small bs (and_right (is_name_byte b) (list_all is_name_byte bs) all) i

pub other-bytes : (bs : List ℕ) → ¬ (IsUtf8 bs) → is_name bs ≡ false
other-bytes bs other = false_from_ne_true (is_name bs) (λ is. other (IsUtf8-from_ascii bs (bytes-small bs (and_right (nat_lt 0 (length bs) && nat_le (length bs) 16 && is_letter (slice_index bs 0)) (list_all is_name_byte bs) is))))
