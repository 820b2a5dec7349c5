-- What is told of a part, from what is told of its parts one after the other.
use Rattle.std.proofs.Common.{◌≡◌, ℕ, ◌+◌, ◌-◌, ◌^◌, ◌<◌, min, Bool, true, false, cond, ◌||◌, nat_lt, nat_le, List, [], ◌∷◌, ◌++◌, length, get_or, drop, Option, Some, None, codes, refl, ap, ◌∙◌, arith}
use Rattle.std.proofs.Math.Seq.{drop-cons}
use Rattle.std.proofs.lemmas.Grind.{common_steps}
use Rattle.std.specs.Prelude.{find, is_some, unwrap_or, option_map, bytes_eq, string_bytes, not, ◌==◌}
use Rattle.std.specs.List.{list_any}
use Rattle.serde_json.specs.Data.{Data, Num, number, string, array}
use Rattle.serde_json.specs.View.{view, items_view}
use Rattle.serde_json.specs.declared.value.Value.{Value}
use Rattle.ot_model.specs.Programs.{Arrays, arrays_of}
use Rattle.ot_model.specs.Tree.{Literal, CellAt, Apply, PickFrom}
use Rattle.ot_model.specs.declared.expr.Op.{Op}
use Rattle.ot_model.specs.declared.expr.Op.TheVariants.{Plus}
use Rattle.ot_model.specs.declared.shape.ArrayShape.{ArrayShape}
use Rattle.ot_program.specs.Limits.{size_depth}
use Rattle.ot_program.specs.Meanings.{Bindings, letters, number_bound, sign_of, in_range, exact, size, length_of, op_of, cell_indexed, section, value, whole_number, is_word}
use Rattle.ot_why_fault.specs.Whys.{Why, Form, TooGreat, NotExact, Unknown, NoCell, NoCells, Empty, after, whys_unless, name_whys, variable_whys, size_whys, whys_deep, array_whys, indexed_whys, section_of_whys, section_whys, value_whys}
use Rattle.ot_why_fault.specs.declared.why.Wanted.TheVariants as wanted
use Rattle.ot_why_mixed.proofs.ClauseLemmas.{three_items}
use Rattle.ot_why_fault.proofs.AfterLemmas.{after-append}

-- ---- sizes

is-in_range : (b : Bool) (n : ℕ) → is_some (cond b (Some n) None) ≡ b
is-in_range true n = refl
is-in_range false n = refl

size_whys-number : (variables : Bindings) (d : Data) (n : Num) → d ≡ number n
    → size_whys variables d
    ≡ whys_unless (is_some (whole_number n)) (Form d wanted.Size)
    ++ whys_unless (is_some (in_range (unwrap_or (whole_number n) 0))) (TooGreat (unwrap_or (whole_number n) 0))
unfolding size_whys
size_whys-number variables d n is = rw is refl

pub number_told : (variables : Bindings) (d : Data) (n : Num) (t0 t1 t2 : Option Why) (found : Option ℕ) (has : Bool) (k : ℕ) (small : Bool)
    → d ≡ number n → found ≡ whole_number n → has ≡ is_some found → k ≡ unwrap_or found 0 → small ≡ nat_lt k (2 ^ 32)
    → t1 ≡ after t0 (whys_unless has (Form d wanted.Size)) → t2 ≡ after t1 (whys_unless small (TooGreat k))
    → t2 ≡ after t0 (size_whys variables d)
number_told variables d n t0 t1 t2 found has k small is found_is has_is k_is small_is h j =
    rw (size_whys-number variables d n is, ← found_is, ← k_is, is-in_range (nat_lt k (2 ^ 32)) k, ← has_is, ← small_is)
    (simp (after-append, ← h, ← j))

pub size_whys-string : (variables : Bindings) (d : Data) (s : List ℕ) → d ≡ string s → size_whys variables d ≡ variable_whys variables s
unfolding size_whys
size_whys-string variables d s is = rw is refl

size_whys-three : (variables : Bindings) (xs : List Value) (t a b : Value) → length xs ≡ 3 → t ≡ get_or xs 0 t → a ≡ get_or xs 1 a → b ≡ get_or xs 2 b
    → size_whys variables (array (items_view xs))
    ≡ whys_unless (is_some (sign_of (view t))) (Form (view t) wanted.Sign) ++ ((size_whys variables (view a) ++ size_whys variables (view b))
    ++ whys_unless (is_some (exact (sign_of (view t)) (size variables (view a)) (size variables (view b))))
    (NotExact (unwrap_or (sign_of (view t)) Plus) (size variables (view a)) (size variables (view b))))
unfolding size_whys
size_whys-three variables xs t a b three p q r = rw (three_items xs t a b three p q r) refl

pub operation_told : (variables : Bindings) (xs : List Value) (t a b : Value) (t0 t1 t2 t3 t4 : Option Why)
    (sign : Option Op) (has fits : Bool) (one two : ℕ) (result : Option ℕ) (op : Op)
    → length xs ≡ 3 → t ≡ get_or xs 0 t → a ≡ get_or xs 1 a → b ≡ get_or xs 2 b
    → sign ≡ sign_of (view t) → has ≡ is_some sign → t1 ≡ after t0 (whys_unless has (Form (view t) wanted.Sign))
    → one ≡ size variables (view a) → t2 ≡ after t1 (size_whys variables (view a))
    → two ≡ size variables (view b) → t3 ≡ after t2 (size_whys variables (view b))
    → result ≡ exact sign one two → fits ≡ is_some result → op ≡ unwrap_or sign Plus → t4 ≡ after t3 (whys_unless fits (NotExact op one two))
    → t4 ≡ after t0 (size_whys variables (array (items_view xs)))
operation_told variables xs t a b t0 t1 t2 t3 t4 sign has fits one two result op three p q r sign_is has_is h one_is j two_is k result_is fits_is op_is l =
    rw (size_whys-three variables xs t a b three p q r, ← sign_is, ← one_is, ← two_is, ← result_is, ← op_is, ← has_is, ← fits_is)
    (simp (after-append, ← h, ← j, ← k, ← l))

-- ---- arrays

pub find_here : (name : List ℕ) (arrays : List ArrayShape) (i : ℕ) (a : ArrayShape) → i < length arrays → a ≡ get_or arrays i a
    → bytes_eq (string_bytes a.name) name ≡ true
    → find (λ a. bytes_eq a.0 name) (arrays_of (drop i arrays)) ≡ find (λ a. bytes_eq a.0 name) (arrays_of arrays)
    → Some a.len ≡ option_map (λ a. a.1) (find (λ a. bytes_eq a.0 name) (arrays_of arrays))
find_here name arrays i a within is eq invariant = rw (← invariant, drop-cons arrays i a within, ← is, eq) refl

some-if : (b : Bool) (a : List ℕ × ℕ) (rest : Option (List ℕ × ℕ)) (tail : Bool) → is_some (option_map (λ (x : List ℕ × ℕ). x.1) rest) ≡ tail
    → is_some (option_map (λ (x : List ℕ × ℕ). x.1) (cond b (Some a) rest)) ≡ (b || tail)
some-if true a rest tail h = refl
some-if false a rest tail h = h

is-known : (name : List ℕ) (xs : List (List ℕ × ℕ))
    → is_some (option_map (λ a. a.1) (find (λ a. bytes_eq a.0 name) xs)) ≡ list_any (λ a. bytes_eq a.0 name) xs
is-known name [] = refl
is-known name (x ∷ xs) = some-if (bytes_eq x.0 name) x (find (λ a. bytes_eq a.0 name) xs) (list_any (λ a. bytes_eq a.0 name) xs) (is-known name xs)

pub array_told : (shape : Arrays) (part : Data) (t0 t1 t2 : Option Why) (name : List ℕ) (len : Option ℕ) (has : Bool)
    → name ≡ letters part → len ≡ option_map (λ a. a.1) (find (λ a. bytes_eq a.0 name) shape.arrays)
    → t1 ≡ after t0 (name_whys part) → has ≡ is_some len → t2 ≡ after t1 (whys_unless has (Unknown name))
    → t2 ≡ after t0 (array_whys shape part)
array_told shape part t0 t1 t2 name len has name_is len_is h has_is j =
    rw (j, h, has_is, len_is, name_is, is-known (letters part) shape.arrays) (simp after-append)

pub indexed_told : (shape : Arrays) (variables : Bindings) (name index : Data) (t0 t1 t2 t3 t4 : Option Why) (named : List ℕ) (len at : ℕ) (test : Bool)
    → named ≡ letters name → len ≡ length_of shape name → t1 ≡ after t0 (array_whys shape name)
    → at ≡ size variables index → t2 ≡ after t1 (size_whys variables index)
    → test ≡ nat_lt at len → t3 ≡ after t2 (whys_unless test (NoCell named at len)) → t4 ≡ after t3 (whys_deep index (size_depth index))
    → t4 ≡ after t0 (indexed_whys shape variables name index)
indexed_told shape variables name index t0 t1 t2 t3 t4 named len at test named_is len_is h at_is j test_is k l =
    rw (l, k, test_is, j, h, at_is, len_is, named_is) (simp after-append)

-- ---- cells and sections

le-capped : (n len : ℕ) → len < 2 ^ 32 → nat_le (min n (2 ^ 64 - 1)) len ≡ nat_le n len
le-capped n len short = grind (arith, common_steps)

pub section_told : (shape : Arrays) (variables : Bindings) (a b c : Data) (t0 t1 t2 t3 t4 t5 t6 t7 : Option Why)
    (named : List ℕ) (len from count sum : ℕ) (fits some : Bool)
    → named ≡ letters a → len ≡ length_of shape a → len < 2 ^ 32 → t1 ≡ after t0 (array_whys shape a)
    → from ≡ size variables b → t2 ≡ after t1 (size_whys variables b)
    → count ≡ size variables c → t3 ≡ after t2 (size_whys variables c)
    → sum ≡ min (from + count) (2 ^ 64 - 1) → fits ≡ nat_le sum len → t4 ≡ after t3 (whys_unless fits (NoCells named from count len))
    → some ≡ not (count == 0) → t5 ≡ after t4 (whys_unless some (Empty named from))
    → t6 ≡ after t5 (whys_deep b (size_depth b)) → t7 ≡ after t6 (whys_deep c (size_depth c))
    → t7 ≡ after t0 (section_of_whys shape variables a b c)
section_told shape variables a b c t0 t1 t2 t3 t4 t5 t6 t7 named len from count sum fits some named_is len_is short h from_is j count_is k sum_is fits_is l some_is m n o =
    let test : fits ≡ nat_le (from + count) len = fits_is ∙ ap (λ (s : ℕ). nat_le s len) sum_is ∙ le-capped (from + count) len short in
    rw (o, n, m, l, test, some_is, k, j, h, from_is, count_is, len_is, named_is) (simp after-append)

-- ---- values

pub value_whys-number : (shape : Arrays) (variables : Bindings) (d : Data) (n : Num) → d ≡ number n
    → value_whys shape variables d ≡ whys_unless (is_some (whole_number n)) (Form d wanted.Number)
unfolding value_whys
value_whys-number shape variables d n is = rw is refl

pub value-number : (shape : Arrays) (variables : Bindings) (d : Data) (n : Num) → d ≡ number n
    → value shape variables d ≡ Literal (unwrap_or (whole_number n) 0)
unfolding value
value-number shape variables d n is = rw is refl

pub value_whys-string : (shape : Arrays) (variables : Bindings) (d : Data) (s : List ℕ) → d ≡ string s
    → value_whys shape variables d ≡ variable_whys variables s
unfolding value_whys
value_whys-string shape variables d s is = rw is refl

pub value-string : (shape : Arrays) (variables : Bindings) (d : Data) (s : List ℕ) → d ≡ string s
    → value shape variables d ≡ Literal (unwrap_or (number_bound variables s) 0)
unfolding value
value-string shape variables d s is = rw is refl

pub value_whys-cell : (shape : Arrays) (variables : Bindings) (xs : List Value) (t a b : Value) → length xs ≡ 3 → t ≡ get_or xs 0 t → a ≡ get_or xs 1 a → b ≡ get_or xs 2 b
    → is_word (view t) (codes "c") ≡ true → value_whys shape variables (array (items_view xs)) ≡ indexed_whys shape variables (view a) (view b)
unfolding value_whys
value_whys-cell shape variables xs t a b three p q r is = rw (three_items xs t a b three p q r, is) refl

pub value-cell : (shape : Arrays) (variables : Bindings) (xs : List Value) (t a b : Value) → length xs ≡ 3 → t ≡ get_or xs 0 t → a ≡ get_or xs 1 a → b ≡ get_or xs 2 b
    → is_word (view t) (codes "c") ≡ true → value shape variables (array (items_view xs)) ≡ CellAt (cell_indexed shape variables (view a) (view b))
unfolding value
value-cell shape variables xs t a b three p q r is = rw (three_items xs t a b three p q r, is) refl

pub value_whys-pick : (shape : Arrays) (variables : Bindings) (xs : List Value) (t a b : Value) → length xs ≡ 3 → t ≡ get_or xs 0 t → a ≡ get_or xs 1 a → b ≡ get_or xs 2 b
    → is_word (view t) (codes "c") ≡ false → is_word (view t) (codes "pick") ≡ true
    → value_whys shape variables (array (items_view xs)) ≡ section_whys shape variables (view a) ++ value_whys shape variables (view b)
unfolding value_whys
value_whys-pick shape variables xs t a b three p q r other is = rw (three_items xs t a b three p q r, other, is) refl

pub value-pick : (shape : Arrays) (variables : Bindings) (xs : List Value) (t a b : Value) → length xs ≡ 3 → t ≡ get_or xs 0 t → a ≡ get_or xs 1 a → b ≡ get_or xs 2 b
    → is_word (view t) (codes "c") ≡ false → is_word (view t) (codes "pick") ≡ true
    → value shape variables (array (items_view xs)) ≡ PickFrom (section shape variables (view a)) (value shape variables (view b))
unfolding value
value-pick shape variables xs t a b three p q r other is = rw (three_items xs t a b three p q r, other, is) refl

pub value_whys-operation : (shape : Arrays) (variables : Bindings) (xs : List Value) (t a b : Value) → length xs ≡ 3 → t ≡ get_or xs 0 t → a ≡ get_or xs 1 a → b ≡ get_or xs 2 b
    → is_word (view t) (codes "c") ≡ false → is_word (view t) (codes "pick") ≡ false
    → value_whys shape variables (array (items_view xs))
    ≡ whys_unless (is_some (op_of (view t))) (Form (view t) wanted.Operation) ++ (value_whys shape variables (view a) ++ value_whys shape variables (view b))
unfolding value_whys
value_whys-operation shape variables xs t a b three p q r other no_pick = rw (three_items xs t a b three p q r, other, no_pick) refl

pub value-operation : (shape : Arrays) (variables : Bindings) (xs : List Value) (t a b : Value) → length xs ≡ 3 → t ≡ get_or xs 0 t → a ≡ get_or xs 1 a → b ≡ get_or xs 2 b
    → is_word (view t) (codes "c") ≡ false → is_word (view t) (codes "pick") ≡ false
    → value shape variables (array (items_view xs)) ≡ Apply (unwrap_or (op_of (view t)) Plus) (value shape variables (view a)) (value shape variables (view b))
unfolding value
value-operation shape variables xs t a b three p q r other no_pick = rw (three_items xs t a b three p q r, other, no_pick) refl
