-- What isn't known stands for whatever there may be.
use Rattle.std.proofs.Common.{◌≡◌, ◌∙◌, ℕ, ◌+◌, ◌*◌, ◌%◌, ◌==◌, Bool, true, false, ◌&&◌, ◌||◌, ◌^◌, refl, sym, ap, subst, arith, true≢false}
use Rattle.std.specs.Prelude.{if◌then◌else◌, Result, Ok, Err, bit_and}
use Rattle.std.proofs.lemmas.Bool.Decides.{nat_tests}
use Rattle.std.proofs.lemmas.Nat.{and_le_l, and_le_r}
use Rattle.ot_exec_code.specs.Numbers.{narrow}
use Rattle.ot_exec_code.specs.declared.kind.Kind.{Kind}
use Rattle.ot_exec_code.specs.declared.kind.Width.{Width}
use Rattle.ot_exec_code.specs.declared.kind.Width.TheVariants.{Bits8, Bits16, Bits32, Bits64}
use Rattle.ot_exec_code.specs.declared.operation.Operation.{Operation}
use Rattle.ot_exec_code.specs.declared.operation.Operation.TheVariants as o
use Rattle.ot_exec_state.specs.Laws.{Covers}
use Rattle.ot_exec_state.specs.Values.{is_so, is_zero, is_somewhere, vanishes, is_equality, one_is_null, fits_pointer, values_compared, values_combined, value_converted, place_advanced, distance}
use Rattle.ot_exec_state.specs.declared.fault.Reason.{Reason}
use Rattle.ot_exec_state.specs.declared.value.Value.{Value}
use Rattle.ot_exec_state.specs.declared.value.Value.TheVariants.{Number, Pointer, Within, Function, Unknown}

-- ---- values

covers_same : (a c : Value) → a ≡ c → Covers a c
covers_same (Number n) c e = e
covers_same (Pointer p k) c e = e
covers_same (Function f) c e = e
covers_same Unknown c e = tt
covers_same (Within p p1 p2) c e = subst (Covers (Within p p1 p2)) e refl

abbrev pub is_exact : Value → Bool
is_exact (Number n) = true
is_exact (Pointer p k) = true
is_exact (Function f) = true
is_exact (Within p p1 p2) = false
is_exact Unknown = false

same_if_exact : (a c : Value) → is_exact a ≡ true → Covers a c → a ≡ c
same_if_exact (Number n) c exact covers = covers
same_if_exact (Pointer p k) c exact covers = covers
same_if_exact (Function f) c exact covers = covers
same_if_exact (Within p p1 p2) c exact covers = absurd (true≢false (sym exact))
same_if_exact Unknown c exact covers = absurd (true≢false (sym exact))

zero_covers : (a c : Value) → Covers a c → is_zero a ≡ true → is_zero c ≡ true
zero_covers (Number n) c covers zero = subst (λ (v : Value). is_zero v ≡ true) covers zero
zero_covers (Pointer p k) c covers zero = absurd (true≢false (sym zero))
zero_covers (Function f) c covers zero = absurd (true≢false (sym zero))
zero_covers (Within p p1 p2) c covers zero = absurd (true≢false (sym zero))
zero_covers Unknown c covers zero = absurd (true≢false (sym zero))

within_number : (p p1 p2 n : ℕ) → Within p p1 p2 ≡ Number n → ⊥
within_number p p1 p2 n h = cc

within_function : (p p1 p2 f : ℕ) → Within p p1 p2 ≡ Function f → ⊥
within_function p p1 p2 f h = cc

within_unknown : (p p1 p2 : ℕ) → Within p p1 p2 ≡ Unknown → ⊥
within_unknown p p1 p2 h = cc

somewhere_covers : (a c : Value) → Covers a c → is_somewhere a ≡ true → is_somewhere c ≡ true
somewhere_covers (Number n) c covers there = absurd (true≢false (sym there))
somewhere_covers Unknown c covers there = absurd (true≢false (sym there))
somewhere_covers (Pointer p k) c covers there = subst (λ (v : Value). is_somewhere v ≡ true) covers there
somewhere_covers (Function f) c covers there = subst (λ (v : Value). is_somewhere v ≡ true) covers there
somewhere_covers (Within p p1 p2) (Pointer q k) covers there = refl
somewhere_covers (Within p p1 p2) (Within q q1 q2) covers there = refl
somewhere_covers (Within p p1 p2) (Number n) covers there = absurd (within_number p p1 p2 n covers)
somewhere_covers (Within p p1 p2) (Function f) covers there = absurd (within_function p p1 p2 f covers)
somewhere_covers (Within p p1 p2) Unknown covers there = absurd (within_unknown p p1 p2 covers)

or_covers : (a b c d : Bool) → (a ≡ true → c ≡ true) → (b ≡ true → d ≡ true) → (a || b) ≡ true → (c || d) ≡ true
or_covers true b c d f g h = rw (f refl) refl
or_covers false true true d f g h = refl
or_covers false true false d f g h = g refl
or_covers false false c d f g h = absurd (true≢false (sym h))

and_covers : (a b c d : Bool) → (a ≡ true → c ≡ true) → (b ≡ true → d ≡ true) → (a && b) ≡ true → (c && d) ≡ true
and_covers true true c d f g h = rw (f refl, g refl) refl
and_covers true false c d f g h = absurd (true≢false (sym h))
and_covers false b c d f g h = absurd (true≢false (sym h))

left_of : (a b : Bool) → (a && b) ≡ true → a ≡ true
left_of true b h = refl
left_of false b h = h

right_of : (a b : Bool) → (a && b) ≡ true → b ≡ true
right_of true b h = h
right_of false b h = absurd (true≢false (sym h))

null_covers : (a b c d : Value) → Covers a c → Covers b d → one_is_null a b ≡ true → one_is_null c d ≡ true
null_covers a b c d p q = or_covers (is_zero a && is_somewhere b) (is_zero b && is_somewhere a) (is_zero c && is_somewhere d) (is_zero d && is_somewhere c)
    (and_covers (is_zero a) (is_somewhere b) (is_zero c) (is_somewhere d) (zero_covers a c p) (somewhere_covers b d q))
    (and_covers (is_zero b) (is_somewhere a) (is_zero d) (is_somewhere c) (zero_covers b d q) (somewhere_covers a c p))

-- ---- a 0

narrow_zero : (kind : Kind) → narrow kind 0 ≡ 0
narrow_zero kind = by_width kind.width kind.signed
  where
    by_width : (w : Width) (s : Bool) → narrow (record { width = w; signed = s }) 0 ≡ 0
    by_width Bits8 true = refl
    by_width Bits8 false = refl
    by_width Bits16 true = refl
    by_width Bits16 false = refl
    by_width Bits32 true = refl
    by_width Bits32 false = refl
    by_width Bits64 true = refl
    by_width Bits64 false = refl

is_none : (n : ℕ) → (n == 0) ≡ true → n ≡ 0
is_none n h = grind (arith, nat_tests)

no_product : (m n : ℕ) (b : Bool) → (m == 0) ≡ b → (b || (n == 0)) ≡ true → m * n ≡ 0
no_product m n true is z = let e = is_none m is in rw e (omega arith)
no_product m n false is z = let e = is_none n z in rw e (omega arith)

no_bits : (m n : ℕ) (b : Bool) → (m == 0) ≡ b → (b || (n == 0)) ≡ true → bit_and m n ≡ 0
no_bits m n true is z = let e = is_none m is in let least = and_le_l m n in omega (arith, e, least)
no_bits m n false is z = let e = is_none n z in let least = and_le_r m n in omega (arith, e, least)

zero_numbers : (op : Operation) (kind : Kind) (m n : ℕ) → vanishes op ≡ true → ((m == 0) || (n == 0)) ≡ true → values_combined op kind (Number m) (Number n) ≡ Ok (Number 0)
unfolding values_combined
zero_numbers o.Multiply kind m n v z =
    ap (λ (k : ℕ). Ok (Number (narrow kind (k % 2 ^ 64)))) (no_product m n (m == 0) refl z) ∙ ap (λ (k : ℕ). Ok (Number k)) (narrow_zero kind)
zero_numbers o.And kind m n v z =
    ap (λ (k : ℕ). Ok (Number (narrow kind k))) (no_bits m n (m == 0) refl z) ∙ ap (λ (k : ℕ). Ok (Number k)) (narrow_zero kind)
zero_numbers o.Add kind m n v z = absurd (true≢false (sym v))
zero_numbers o.Subtract kind m n v z = absurd (true≢false (sym v))
zero_numbers o.Divide kind m n v z = absurd (true≢false (sym v))
zero_numbers o.Remainder kind m n v z = absurd (true≢false (sym v))
zero_numbers o.Or kind m n v z = absurd (true≢false (sym v))
zero_numbers o.Xor kind m n v z = absurd (true≢false (sym v))
zero_numbers o.ShiftLeft kind m n v z = absurd (true≢false (sym v))
zero_numbers o.ShiftRight kind m n v z = absurd (true≢false (sym v))
zero_numbers o.Less kind m n v z = absurd (true≢false (sym v))
zero_numbers o.LessOrEqual kind m n v z = absurd (true≢false (sym v))
zero_numbers o.Equal kind m n v z = absurd (true≢false (sym v))

zero_op : (op : Operation) (kind : Kind) (c d : Value) → vanishes op ≡ true → (is_zero c || is_zero d) ≡ true → values_combined op kind c d ≡ Ok (Number 0)
unfolding values_combined
zero_op op kind (Number m) (Number n) v z = zero_numbers op kind m n v z
zero_op op kind (Number m) (Pointer p k) v z = rw (v, z) refl
zero_op op kind (Number m) (Within p p1 p2) v z = rw (v, z) refl
zero_op op kind (Number m) (Function f) v z = rw (v, z) refl
zero_op op kind (Number m) Unknown v z = rw (v, z) refl
zero_op op kind (Pointer p k) d v z = rw (v, z) refl
zero_op op kind (Within p p1 p2) d v z = rw (v, z) refl
zero_op op kind (Function f) d v z = rw (v, z) refl
zero_op op kind Unknown d v z = rw (v, z) refl

-- ---- where one isn't known

abbrev pub by_default : Operation → Value → Value → Result Value Reason
by_default op a b = if vanishes op && (is_zero a || is_zero b) then Ok (Number 0) else Ok (values_compared op a b)

abbrev pub by_null : Operation → Value → Value → Value
by_null op a b = if is_equality op && one_is_null a b then Number 0 else Unknown

combined_inexact : (op : Operation) (kind : Kind) (a b : Value) → (is_exact a && is_exact b) ≡ false → values_combined op kind a b ≡ by_default op a b
unfolding values_combined
combined_inexact op kind (Number m) (Number n) h = absurd (true≢false h)
combined_inexact op kind (Number m) (Pointer p k) h = refl
combined_inexact op kind (Number m) (Within p p1 p2) h = refl
combined_inexact op kind (Number m) (Function f) h = refl
combined_inexact op kind (Number m) Unknown h = refl
combined_inexact op kind (Pointer p k) b h = refl
combined_inexact op kind (Within p p1 p2) b h = refl
combined_inexact op kind (Function f) b h = refl
combined_inexact op kind Unknown b h = refl

compared_inexact : (op : Operation) (a b : Value) → (is_exact a && is_exact b) ≡ false → values_compared op a b ≡ by_null op a b
unfolding values_compared
compared_inexact op (Number m) b h = refl
compared_inexact op (Within p p1 p2) b h = refl
compared_inexact op Unknown b h = refl
compared_inexact op (Pointer p k) (Pointer q l) h = absurd (true≢false h)
compared_inexact op (Pointer p k) (Number n) h = refl
compared_inexact op (Pointer p k) (Within q q1 q2) h = refl
compared_inexact op (Pointer p k) (Function f) h = refl
compared_inexact op (Pointer p k) Unknown h = refl
compared_inexact op (Function f) (Function g) h = absurd (true≢false h)
compared_inexact op (Function f) (Number n) h = refl
compared_inexact op (Function f) (Within q q1 q2) h = refl
compared_inexact op (Function f) (Pointer q l) h = refl
compared_inexact op (Function f) Unknown h = refl

-- null beside what isn't

compared_null : (c d : Value) → one_is_null c d ≡ true → values_compared o.Equal c d ≡ Number 0
unfolding values_compared
compared_null (Number m) d h = rw h refl
compared_null (Within p p1 p2) d h = rw h refl
compared_null Unknown d h = rw h refl
compared_null (Pointer p k) (Pointer q l) h = absurd (true≢false (sym h))
compared_null (Pointer p k) (Number n) h = rw h refl
compared_null (Pointer p k) (Within q q1 q2) h = absurd (true≢false (sym h))
compared_null (Pointer p k) (Function f) h = absurd (true≢false (sym h))
compared_null (Pointer p k) Unknown h = absurd (true≢false (sym h))
compared_null (Function f) (Function g) h = absurd (true≢false (sym h))
compared_null (Function f) (Number n) h = rw h refl
compared_null (Function f) (Within q q1 q2) h = absurd (true≢false (sym h))
compared_null (Function f) (Pointer q l) h = absurd (true≢false (sym h))
compared_null (Function f) Unknown h = absurd (true≢false (sym h))

never : (a b : Bool) → ((a && false) || (b && false)) ≡ true → ⊥
never true true h = true≢false (sym h)
never true false h = true≢false (sym h)
never false true h = true≢false (sym h)
never false false h = true≢false (sym h)

combined_null : (kind : Kind) (c d : Value) → one_is_null c d ≡ true → values_combined o.Equal kind c d ≡ Ok (values_compared o.Equal c d)
unfolding values_combined
combined_null kind (Number m) (Number n) h = absurd (never (m == 0) (n == 0) h)
combined_null kind (Number m) (Pointer p k) h = refl
combined_null kind (Number m) (Within p p1 p2) h = refl
combined_null kind (Number m) (Function f) h = refl
combined_null kind (Number m) Unknown h = refl
combined_null kind (Pointer p k) d h = refl
combined_null kind (Within p p1 p2) d h = refl
combined_null kind (Function f) d h = refl
combined_null kind Unknown d h = refl

-- ---- operations

ok_same : (x y : Value) (r : Result Value Reason) → r ≡ Ok x → r ≡ Ok y → x ≡ y
ok_same x y r g h = cc

is_equal : (op : Operation) (kind : Kind) (c d y : Value) → is_equality op ≡ true → one_is_null c d ≡ true → values_combined op kind c d ≡ Ok y → Number 0 ≡ y
is_equal o.Equal kind c d y e null k = sym (compared_null c d null) ∙ ok_same (values_compared o.Equal c d) y (values_combined o.Equal kind c d) (combined_null kind c d null) k
is_equal o.Add kind c d y e null k = absurd (true≢false (sym e))
is_equal o.Subtract kind c d y e null k = absurd (true≢false (sym e))
is_equal o.Multiply kind c d y e null k = absurd (true≢false (sym e))
is_equal o.Divide kind c d y e null k = absurd (true≢false (sym e))
is_equal o.Remainder kind c d y e null k = absurd (true≢false (sym e))
is_equal o.And kind c d y e null k = absurd (true≢false (sym e))
is_equal o.Or kind c d y e null k = absurd (true≢false (sym e))
is_equal o.Xor kind c d y e null k = absurd (true≢false (sym e))
is_equal o.ShiftLeft kind c d y e null k = absurd (true≢false (sym e))
is_equal o.ShiftRight kind c d y e null k = absurd (true≢false (sym e))
is_equal o.Less kind c d y e null k = absurd (true≢false (sym e))
is_equal o.LessOrEqual kind c d y e null k = absurd (true≢false (sym e))

by_null_covers : (op : Operation) (kind : Kind) (a b c d y : Value) → Covers a c → Covers b d → values_combined op kind c d ≡ Ok y
    → (t : Bool) → (is_equality op && one_is_null a b) ≡ t → Covers (by_null op a b) y
by_null_covers op kind a b c d y p q k true is =
    rw is (is_equal op kind c d y (left_of (is_equality op) (one_is_null a b) is) (null_covers a b c d p q (right_of (is_equality op) (one_is_null a b) is)) k)
by_null_covers op kind a b c d y p q k false is = rw is tt

by_default_covers : (op : Operation) (kind : Kind) (a b c d x y : Value) → Covers a c → Covers b d → (is_exact a && is_exact b) ≡ false → by_default op a b ≡ Ok x
    → values_combined op kind c d ≡ Ok y → (t : Bool) → (vanishes op && (is_zero a || is_zero b)) ≡ t → Covers x y
by_default_covers op kind a b c d x y p q inexact h k true is =
    let v = left_of (vanishes op) (is_zero a || is_zero b) is in
    let z = or_covers (is_zero a) (is_zero b) (is_zero c) (is_zero d) (zero_covers a c p) (zero_covers b d q) (right_of (vanishes op) (is_zero a || is_zero b) is) in
    let first : by_default op a b ≡ Ok (Number 0) = rw is refl in
    covers_same x y (sym (ok_same (Number 0) x (by_default op a b) first h) ∙ ok_same (Number 0) y (values_combined op kind c d) (zero_op op kind c d v z) k)
by_default_covers op kind a b c d x y p q inexact h k false is =
    let first : by_default op a b ≡ Ok (values_compared op a b) = rw is refl in
    let x_is : by_null op a b ≡ x = sym (compared_inexact op a b inexact) ∙ ok_same (values_compared op a b) x (by_default op a b) first h in
    subst (λ (v : Value). Covers v y) x_is (by_null_covers op kind a b c d y p q k (is_equality op && one_is_null a b) refl)

by_exact : (op : Operation) (kind : Kind) (a b c d x y : Value) → Covers a c → Covers b d → values_combined op kind a b ≡ Ok x → values_combined op kind c d ≡ Ok y
    → (t : Bool) → (is_exact a && is_exact b) ≡ t → Covers x y
by_exact op kind a b c d x y p q h k true is =
    let first = same_if_exact a c (left_of (is_exact a) (is_exact b) is) p in
    let second = same_if_exact b d (right_of (is_exact a) (is_exact b) is) q in
    let same : values_combined op kind a b ≡ values_combined op kind c d = ap (λ (v : Value). values_combined op kind v b) first ∙ ap (values_combined op kind c) second in
    covers_same x y (ok_same x y (values_combined op kind a b) h (same ∙ k))
by_exact op kind a b c d x y p q h k false is =
    by_default_covers op kind a b c d x y p q is (sym (combined_inexact op kind a b is) ∙ h) k (vanishes op && (is_zero a || is_zero b)) refl

pub operation_covers : (op : Operation) (kind : Kind) (a b c d x y : Value) → Covers a c → Covers b d
    → values_combined op kind a b ≡ Ok x → values_combined op kind c d ≡ Ok y → Covers x y
operation_covers op kind a b c d x y p q h k = by_exact op kind a b c d x y p q h k (is_exact a && is_exact b) refl

-- ---- the others

pub branch_covers : (a c : Value) (answer : Bool) → Covers a c → is_so a (is_so c answer) ≡ is_so c answer
branch_covers Unknown c answer p = refl
branch_covers (Number n) c answer p = ap (λ (v : Value). is_so v answer) p
branch_covers (Pointer q k) c answer p = ap (λ (v : Value). is_so v answer) p
branch_covers (Function f) c answer p = ap (λ (v : Value). is_so v answer) p
branch_covers (Within q q1 q2) (Pointer r k) answer p = refl
branch_covers (Within q q1 q2) (Within r r1 r2) answer p = refl
branch_covers (Within q q1 q2) (Number n) answer p = absurd (within_number q q1 q2 n p)
branch_covers (Within q q1 q2) (Function f) answer p = absurd (within_function q q1 q2 f p)
branch_covers (Within q q1 q2) Unknown answer p = absurd (within_unknown q q1 q2 p)

either : (b : Bool) (a c : Value) → Covers a c → Covers (if b then a else Unknown) (if b then c else Unknown)
either true a c p = p
either false a c p = tt

unknown_either : (b : Bool) (c : Value) → Covers (if b then Unknown else Unknown) c
unknown_either true c = tt
unknown_either false c = tt

pub conversion_covers : (kind : Kind) (a c : Value) → Covers a c → Covers (value_converted kind a) (value_converted kind c)
unfolding value_converted
conversion_covers kind (Number n) c p = covers_same (value_converted kind (Number n)) (value_converted kind c) (ap (value_converted kind) p)
conversion_covers kind (Pointer q k) c p = covers_same (value_converted kind (Pointer q k)) (value_converted kind c) (ap (value_converted kind) p)
conversion_covers kind (Function f) c p = covers_same (value_converted kind (Function f)) (value_converted kind c) (ap (value_converted kind) p)
conversion_covers kind Unknown c p = unknown_either (fits_pointer kind.width) (value_converted kind c)
conversion_covers kind (Within q q1 q2) (Pointer r k) p = either (fits_pointer kind.width) (Within q q1 q2) (Pointer r k) p
conversion_covers kind (Within q q1 q2) (Within r r1 r2) p = either (fits_pointer kind.width) (Within q q1 q2) (Within r r1 r2) p
conversion_covers kind (Within q q1 q2) (Number n) p = absurd (within_number q q1 q2 n p)
conversion_covers kind (Within q q1 q2) (Function f) p = absurd (within_function q q1 q2 f p)
conversion_covers kind (Within q q1 q2) Unknown p = absurd (within_unknown q q1 q2 p)

moved : (q q1 q2 k : ℕ) (d : Value) (stride cells : ℕ) → Covers (Within q q1 q2) (place_advanced (Pointer q k) d stride cells)
unfolding place_advanced
moved q q1 q2 k (Number n) stride cells = refl
moved q q1 q2 k (Pointer r l) stride cells = refl
moved q q1 q2 k (Within r r1 r2) stride cells = refl
moved q q1 q2 k (Function f) stride cells = refl
moved q q1 q2 k Unknown stride cells = refl

moved_from : (q q1 q2 k : ℕ) (c d : Value) (stride cells : ℕ) → Pointer q k ≡ c → Covers (Within q q1 q2) (place_advanced c d stride cells)
moved_from q q1 q2 k c d stride cells is = subst (λ (c : Value). Covers (Within q q1 q2) (place_advanced c d stride cells)) is (moved q q1 q2 k d stride cells)

exact_move : (a b c d : Value) (stride cells : ℕ) → a ≡ c → b ≡ d → Covers (place_advanced a b stride cells) (place_advanced c d stride cells)
exact_move a b c d stride cells p q =
    covers_same (place_advanced a b stride cells) (place_advanced c d stride cells) (ap (λ (v : Value). place_advanced v b stride cells) p ∙ ap (λ (v : Value). place_advanced c v stride cells) q)

pub advance_covers : (a b c d : Value) (stride cells : ℕ) → Covers a c → Covers b d → Covers (place_advanced a b stride cells) (place_advanced c d stride cells)
unfolding place_advanced
advance_covers Unknown b c d stride cells p q = tt
advance_covers (Function f) b c d stride cells p q = tt
advance_covers (Number m) (Number n) c d stride cells p q = exact_move (Number m) (Number n) c d stride cells p q
advance_covers (Number m) (Pointer r l) c d stride cells p q = tt
advance_covers (Number m) (Within r r1 r2) c d stride cells p q = tt
advance_covers (Number m) (Function f) c d stride cells p q = tt
advance_covers (Number m) Unknown c d stride cells p q = tt
advance_covers (Pointer o k) (Number n) c d stride cells p q = exact_move (Pointer o k) (Number n) c d stride cells p q
advance_covers (Pointer o k) (Pointer r l) c d stride cells p q = moved_from o k cells k c d stride cells p
advance_covers (Pointer o k) (Within r r1 r2) c d stride cells p q = moved_from o k cells k c d stride cells p
advance_covers (Pointer o k) (Function f) c d stride cells p q = moved_from o k cells k c d stride cells p
advance_covers (Pointer o k) Unknown c d stride cells p q = moved_from o k cells k c d stride cells p
advance_covers (Within o o1 o2) b (Pointer r k) d stride cells p q = subst (λ (x : ℕ). Covers (Within x o1 o2) (place_advanced (Pointer r k) d stride cells)) (sym p) (moved r o1 o2 k d stride cells)
advance_covers (Within o o1 o2) b (Within r r1 r2) d stride cells p q = p
advance_covers (Within o o1 o2) b (Number n) d stride cells p q = absurd (within_number o o1 o2 n p)
advance_covers (Within o o1 o2) b (Function f) d stride cells p q = absurd (within_function o o1 o2 f p)
advance_covers (Within o o1 o2) b Unknown d stride cells p q = absurd (within_unknown o o1 o2 p)

exact_distance : (a b c d : Value) (stride : ℕ) → a ≡ c → b ≡ d → Covers (distance a b stride) (distance c d stride)
exact_distance a b c d stride p q =
    covers_same (distance a b stride) (distance c d stride) (ap (λ (v : Value). distance v b stride) p ∙ ap (λ (v : Value). distance c v stride) q)

pub distance_covers : (a b c d : Value) (stride : ℕ) → Covers a c → Covers b d → Covers (distance a b stride) (distance c d stride)
unfolding distance
distance_covers (Number m) b c d stride p q = tt
distance_covers (Within r r1 r2) b c d stride p q = tt
distance_covers (Function f) b c d stride p q = tt
distance_covers Unknown b c d stride p q = tt
distance_covers (Pointer r k) (Pointer s l) c d stride p q = exact_distance (Pointer r k) (Pointer s l) c d stride p q
distance_covers (Pointer r k) (Number n) c d stride p q = tt
distance_covers (Pointer r k) (Within s s1 s2) c d stride p q = tt
distance_covers (Pointer r k) (Function f) c d stride p q = tt
distance_covers (Pointer r k) Unknown c d stride p q = tt
