-- Each of the seven operations keeps the laws.
use Rattle.std.specs.Prelude.{◌≡◌, ℕ, ◌+◌, ◌-◌, ◌*◌, ◌%◌, ◌^◌, ◌<◌, max, bit_and, bit_or, bit_xor}
use Rattle.std.specs.Int.{bit_at}
use Rattle.std.proofs.Common.{sym, ap, ◌∙◌, arith, mul_assoc, mod-eq_of_lt}
use Rattle.std.proofs.lemmas.Nat.{and_comm, or_comm, xor_comm, and_assoc, mul-mod_first, mul-mod_second, and_mask, and_mod}
use Rattle.std.proofs.lemmas.Nat.Bits.{bit_at_or, bit_at_xor, bit_at-lt, bit_at-zero, same_from_bits}
use Rattle.ot_model.specs.declared.fold.Fold.{Fold}
use Rattle.ot_model.specs.declared.fold.Fold.TheVariants.{Plus, Times, And, Or, Xor, Min, Max}
use Rattle.ot_model.specs.Joining.{join_by, unit_of, IsAssociative, IsCommutative, IsNeutral, IsAbsorbed}

or_assoc : (a b c : ℕ) → bit_or (bit_or a b) c ≡ bit_or a (bit_or b c)
or_assoc a b c = same_from_bits (bit_or (bit_or a b) c) (bit_or a (bit_or b c)) λ i.
    let one : bit_at (bit_or (bit_or a b) c) i ≡ max (max (bit_at a i) (bit_at b i)) (bit_at c i) =
    bit_at_or (bit_or a b) c i ∙ ap (λ x. max x (bit_at c i)) (bit_at_or a b i) in
    let two : bit_at (bit_or a (bit_or b c)) i ≡ max (bit_at a i) (max (bit_at b i) (bit_at c i)) =
    bit_at_or a (bit_or b c) i ∙ ap (max (bit_at a i)) (bit_at_or b c i) in
    omega (arith, one, two)

xor_assoc : (a b c : ℕ) → bit_xor (bit_xor a b) c ≡ bit_xor a (bit_xor b c)
xor_assoc a b c = same_from_bits (bit_xor (bit_xor a b) c) (bit_xor a (bit_xor b c)) λ i.
    let one : bit_at (bit_xor (bit_xor a b) c) i ≡ ((bit_at a i + bit_at b i) % 2 + bit_at c i) % 2 =
    bit_at_xor (bit_xor a b) c i ∙ ap (λ x. (x + bit_at c i) % 2) (bit_at_xor a b i) in
    let two : bit_at (bit_xor a (bit_xor b c)) i ≡ (bit_at a i + (bit_at b i + bit_at c i) % 2) % 2 =
    bit_at_xor a (bit_xor b c) i ∙ ap (λ x. (bit_at a i + x) % 2) (bit_at_xor b c i) in
    omega (arith, one, two)

or_zero : (a : ℕ) → bit_or a 0 ≡ a
or_zero a = same_from_bits (bit_or a 0) a λ i.
    let one : bit_at (bit_or a 0) i ≡ max (bit_at a i) 0 = bit_at_or a 0 i ∙ ap (max (bit_at a i)) (bit_at-zero i) in
    omega (arith, one)

xor_zero : (a : ℕ) → bit_xor a 0 ≡ a
xor_zero a = same_from_bits (bit_xor a 0) a λ i.
    let one : bit_at (bit_xor a 0) i ≡ (bit_at a i + 0) % 2 = bit_at_xor a 0 i ∙ ap (λ x. (bit_at a i + x) % 2) (bit_at-zero i) in
    omega (arith, one, bit_at-lt a i)

mod_twice : (a : ℕ) → a % 2 ^ 64 % 2 ^ 64 ≡ a % 2 ^ 64
mod_twice a = omega arith

-- ---- the seven

pub join-associative : (f : Fold) → IsAssociative (join_by f)
join-associative Plus a b c = omega arith
join-associative Times a b c = mul-mod_first (a * b) c (2 ^ 64) ∙ ap (λ x. x % 2 ^ 64) (mul_assoc a b c) ∙ sym (mul-mod_second a (b * c) (2 ^ 64))
join-associative And a b c =
    and_mod (bit_and a b % 2 ^ 64) c 64 ∙ ap (λ x. bit_and x (c % 2 ^ 64)) (mod_twice (bit_and a b)) ∙ sym (and_mod (bit_and a b) c 64)
    ∙ ap (λ x. x % 2 ^ 64) (and_assoc c a b)
    ∙ and_mod a (bit_and b c) 64 ∙ ap (bit_and (a % 2 ^ 64)) (sym (mod_twice (bit_and b c))) ∙ sym (and_mod a (bit_and b c % 2 ^ 64) 64)
join-associative Or a b c = or_assoc a b c
join-associative Xor a b c = xor_assoc a b c
join-associative Min a b c = omega arith
join-associative Max a b c = omega arith

pub join-commutative : (f : Fold) → IsCommutative (join_by f)
join-commutative Plus a b = omega arith
join-commutative Times a b = ap (λ x. x % 2 ^ 64) (grind arith)
join-commutative And a b = ap (λ x. x % 2 ^ 64) (and_comm a b)
join-commutative Or a b = or_comm a b
join-commutative Xor a b = xor_comm a b
join-commutative Min a b = omega arith
join-commutative Max a b = omega arith

join-unit : (f : Fold) (a : ℕ) → a < 2 ^ 64 → join_by f a (unit_of f) ≡ a
join-unit Plus a l = omega arith
join-unit Times a l = omega arith
join-unit And a l = ap (λ x. x % 2 ^ 64) (and_mask a 64) ∙ mod_twice a ∙ mod-eq_of_lt l
join-unit Or a l = or_zero a
join-unit Xor a l = xor_zero a
join-unit Min a l = omega arith
join-unit Max a l = omega arith

pub join-neutral : (f : Fold) → IsNeutral (join_by f) (unit_of f)
join-neutral f a l = (join-unit f a l, join-commutative f (unit_of f) a ∙ join-unit f a l)

and_absorbs : (a b : ℕ) → bit_and a (bit_and (2 ^ 64 - 1) b % 2 ^ 64) % 2 ^ 64 ≡ bit_and a b % 2 ^ 64
and_absorbs a b =
    let inner : bit_and (2 ^ 64 - 1) b % 2 ^ 64 ≡ b % 2 ^ 64 = ap (λ x. x % 2 ^ 64) (and_comm (2 ^ 64 - 1) b ∙ and_mask b 64) ∙ mod_twice b in
    ap (λ x. bit_and a x % 2 ^ 64) inner ∙ and_mod a (b % 2 ^ 64) 64 ∙ ap (bit_and (a % 2 ^ 64)) (mod_twice b) ∙ sym (and_mod a b 64)

or_zero_left : (a : ℕ) → bit_or 0 a ≡ a
or_zero_left a = or_comm 0 a ∙ or_zero a

pub join-absorbed : (f : Fold) → IsAbsorbed (join_by f) (unit_of f)
join-absorbed Plus a b = omega arith
join-absorbed Times a b = mul-mod_second a (1 * b) (2 ^ 64) ∙ ap (λ x. (a * x) % 2 ^ 64) (omega arith)
join-absorbed And a b = and_absorbs a b
join-absorbed Or a b = ap (bit_or a) (or_zero_left b)
join-absorbed Xor a b = ap (bit_xor a) (xor_comm 0 b ∙ xor_zero b)
join-absorbed Min a b = omega arith
join-absorbed Max a b = omega arith

-- two that are joined to a third may change places
pub join-swap : (f : Fold) (a b n : ℕ) → join_by f (join_by f n a) b ≡ join_by f (join_by f n b) a
join-swap f a b n = join-associative f n a b ∙ ap (join_by f n) (join-commutative f a b) ∙ sym (join-associative f n b a)
