-- In C, a value's text determines the value.
use Rattle.std.proofs.Common.{◌≡◌, ℕ, ◌<◌, ◌^◌, ◌==◌, List, [], ◌∷◌, ◌++◌, Bool, true, false, not, if◌then◌else◌, refl, sym, ap, ◌∙◌, append_assoc, arith, true≢false}
use Rattle.std.specs.Prelude.{codes, decimal, nat_lt}
use Rattle.std.proofs.lemmas.Bool.{not-true}
use Rattle.std.proofs.lemmas.Bool.Decides.{nat_tests}
use Rattle.std.proofs.lemmas.List.{append_cancel_left}
use Rattle.ot_model.specs.declared.expr.Cell.{Cell}
use Rattle.ot_model.specs.declared.expr.Section.{Section}
use Rattle.ot_model.specs.declared.expr.Op.{Op}
use Rattle.ot_model.specs.declared.expr.Op.TheVariants as o
use Rattle.ot_model.specs.Tree.{E, Literal, CellAt, Apply, PickFrom}
use Rattle.ot_model.specs.Signs.{is_call, sign}
use Rattle.ot_show_print.specs.Shown.{Text, name, is_nested}
use Rattle.ot_show_print.specs.Laws.{is_digit, Fits}
use Rattle.ot_show_print.proofs.WordLemmas.{and_true, head_of, tail_of, front_digit, digits_are}
use Rattle.ot_show_print.proofs.ValueLemmas.{same_section, same_op, pick_eq, apply_eq}
use Rattle.ot_show_c.specs.Statements.{suffix, constant, is_comparison, is_number, first_offset, c_value, operand, left_side}
use Rattle.ot_show_c.specs.Laws.{in_identifier, all_identifier, is_identifier, AreIdentifiers, CValueIsDetermined}
use Rattle.ot_show_c.proofs.WordLemmas.{starts, goes, no_start, number_word, IsSuffix, no_suffix, long_suffix, word_append, same_constant, same_number, name_word, same_array, one_cell}

-- ---- which kind of operand a text begins with

-- behind a word: 3 before `(`, 1 before anything else
abbrev behind : Text → ℕ
behind [] = 9
behind (b ∷ bs) = if in_identifier b then behind bs else (if b == 40 then 3 else 1)

-- behind a bracket and a word: 4 before `)`, 2 before anything else
abbrev inside : Text → ℕ
inside [] = 9
inside (b ∷ bs) = if in_identifier b then inside bs else (if b == 41 then 4 else 2)

-- 0 a number, 1 an array, 2 a bracket, 3 a call, 4 a cast
abbrev kind : Text → ℕ
kind [] = 9
kind (b ∷ bs) = if is_digit b then 0 else (if b == 40 then inside bs else behind (b ∷ bs))

abbrev shape_of : Op → ℕ
shape_of op = if is_call op then 3 else (if is_comparison op then 4 else 2)

abbrev shape : E → ℕ
shape (Literal n) = 0
shape (Apply op a b) = shape_of op
shape _ = 1

shape_above : (op : Op) → 1 < shape_of op
shape_above o.Min = omega arith
shape_above _ = omega arith

shape_called : (op : Op) → is_call op ≡ (shape_of op == 3)
shape_called o.Min = refl
shape_called _ = refl

-- ---- operations

call_plain : (op : Op) → is_call op ≡ true → is_comparison op ≡ false
call_plain o.Min h = refl
call_plain o.Max h = refl
call_plain _ h = absurd (true≢false (sym h))

-- what stands before an operation that is a side
abbrev opening : ℕ → Text
opening n = if n == 4 then codes "(uint64_t)(" else codes "("

call_shown : (names : List Text) (op : Op) (a b : E) (r : Text) → is_call op ≡ true → operand names (Apply op a b) ++ r ≡ sign op ++ (c_value names a ++ (44 ∷ 32 ∷ (c_value names b ++ (41 ∷ r))))
call_shown names op a b r h = rw (call_plain op h, h) (simp append_assoc refl)

infix_shown : (names : List Text) (op : Op) (a b : E) (r : Text) → is_call op ≡ false → c_value names (Apply op a b) ++ r ≡ left_side names a b ++ (sign op ++ (operand names b ++ r))
infix_shown names op a b r h = rw h (simp append_assoc refl)

enclosed_shown : (names : List Text) (op : Op) (a b : E) (r : Text) → is_call op ≡ false → operand names (Apply op a b) ++ r ≡ opening (shape_of op) ++ (c_value names (Apply op a b) ++ (41 ∷ r))
enclosed_shown names o.Min a b r h = absurd (true≢false h)
enclosed_shown names o.Max a b r h = absurd (true≢false h)
enclosed_shown names _ a b r h = simp append_assoc refl

-- ---- cells and picks

-- a pick's text behind its array's name and `[`
abbrev chosen : List Text → Section → E → Text → Text
chosen names t e r = first_offset t.start ++ (operand names e ++ (32 ∷ 37 ∷ 32 ∷ (decimal t.len ++ (93 ∷ r))))

cell_shown : (names : List Text) (c : Cell) (r : Text) → operand names (CellAt c) ++ r ≡ name names c.array ++ (91 ∷ (decimal c.index ++ (93 ∷ r)))
cell_shown names c r = simp append_assoc refl

pick_shown : (names : List Text) (t : Section) (e : E) (r : Text) → operand names (PickFrom t e) ++ r ≡ name names t.array ++ (91 ∷ chosen names t e r)
pick_shown names t e r = simp append_assoc refl

-- ---- constants

suffix_is : (n : ℕ) (b : Bool) → nat_lt 9223372036854775807 n ≡ b → IsSuffix (suffix n)
suffix_is n true h = rw h long_suffix
suffix_is n false h = rw h no_suffix

-- the text of a number as a left side
pub record IsConstant (n : ℕ) (t : Text) : Type 0 where
  pub behind : Text
  pub suffix : IsSuffix behind
  pub is : t ≡ decimal n ++ behind

pub constant_is : (n : ℕ) → IsConstant n (constant n)
constant_is n = record { behind = suffix n; suffix = suffix_is n (nat_lt 9223372036854775807 n) refl; is = refl }

left_number : (names : List Text) (n : ℕ) (b : E) (c : Bool) → is_number b ≡ c → IsConstant n (left_side names (Literal n) b)
left_number names n b true h = record { behind = 85 ∷ 76 ∷ 76 ∷ []; suffix = long_suffix; is = rw h refl }
left_number names n b false h = record { behind = suffix n; suffix = suffix_is n (nat_lt 9223372036854775807 n) refl; is = rw h refl }

pub same_literal : (m n : ℕ) (t u r s : Text) → m < 2 ^ 64 → n < 2 ^ 64 → IsConstant m t → IsConstant n u → starts r ≡ false → starts s ≡ false → t ++ r ≡ u ++ s → (m ≡ n) × (r ≡ s)
same_literal m n t u r s hm hn one two hr hs is =
    same_constant m n one.behind two.behind r s hm hn one.suffix two.suffix hr hs (sym (ap (λ x. x ++ r) one.is) ∙ is ∙ ap (λ x. x ++ s) two.is)

-- ---- kinds

kind_digits : (ds r : Text) → front_digit ds ≡ true → kind (ds ++ r) ≡ 0
kind_digits [] r h = absurd (true≢false (sym h))
kind_digits (d ∷ ds) r h = rw h refl

kind_constant : (n : ℕ) (t r : Text) → n < 2 ^ 64 → IsConstant n t → kind (t ++ r) ≡ 0
kind_constant n t r small one = ap (λ x. kind (x ++ r)) one.is ∙ ap kind (append_assoc (decimal n) one.behind r) ∙ kind_digits (decimal n) (one.behind ++ r) (digits_are n small).front

behind_word : (w t : Text) → all_identifier w ≡ true → behind (w ++ (91 ∷ t)) ≡ 1
behind_word [] t h = refl
behind_word (b ∷ bs) t h = rw ((and_true (in_identifier b) (all_identifier bs) h).0) (behind_word bs t (and_true (in_identifier b) (all_identifier bs) h).1)

inside_word : (w t : Text) → all_identifier w ≡ true → inside (w ++ t) ≡ inside t
inside_word [] t h = refl
inside_word (b ∷ bs) t h = rw ((and_true (in_identifier b) (all_identifier bs) h).0) (inside_word bs t (and_true (in_identifier b) (all_identifier bs) h).1)

no_bracket : (b : ℕ) → in_identifier b ≡ true → (b == 40) ≡ false
no_bracket b h = grind (arith, nat_tests)

neither : (d e : Bool) (x y : ℕ) → d ≡ false → e ≡ false → (if d then 0 else (if e then y else x)) ≡ x
neither d e x y p q = rw (p, q) refl

kind_name : (w t : Text) → is_identifier w ≡ true → kind (w ++ (91 ∷ t)) ≡ 1
kind_name [] t h = absurd (true≢false (sym h))
kind_name (b ∷ bs) t h =
    let both = and_true (not (is_digit b)) (all_identifier (b ∷ bs)) h in
    let no_digit = not-true (is_digit b) both.0 in
    let no_open = no_bracket b (and_true (in_identifier b) (all_identifier bs) both.1).0 in
    neither (is_digit b) (b == 40) (behind (b ∷ (bs ++ (91 ∷ t)))) (inside (bs ++ (91 ∷ t))) no_digit no_open ∙ behind_word (b ∷ bs) t both.1

kind_call : (op : Op) (t : Text) → is_call op ≡ true → kind (sign op ++ t) ≡ shape_of op
kind_call o.Min t h = refl
kind_call o.Max t h = refl
kind_call _ t h = absurd (true≢false (sym h))

kind_opening : (op : Op) (t : Text) → is_call op ≡ false → inside t ≡ 2 → kind (opening (shape_of op) ++ t) ≡ shape_of op
kind_opening o.Min t h k = absurd (true≢false h)
kind_opening o.Max t h k = absurd (true≢false h)
kind_opening o.Less t h k = refl
kind_opening o.Equal t h k = refl
kind_opening _ t h k = k

blank : (op : Op) (t : Text) → is_call op ≡ false → head_of (sign op ++ t) ≡ 32
blank o.Min t h = absurd (true≢false h)
blank o.Max t h = absurd (true≢false h)
blank _ t h = refl

blank_stops : (t : Text) → head_of t ≡ 32 → starts t ≡ false
blank_stops [] h = refl
blank_stops (b ∷ bs) h = rw h refl

blank_goes : (t : Text) → head_of t ≡ 32 → goes t ≡ false → ⊥
blank_goes [] h g = omega (arith, h)
blank_goes (b ∷ bs) h g = true≢false (sym (rw h refl) ∙ g)

inside_blank : (t : Text) → head_of t ≡ 32 → inside t ≡ 2
inside_blank [] h = absurd (omega (arith, h))
inside_blank (b ∷ bs) h = rw h refl

inside_call : (op : Op) (t : Text) → is_call op ≡ true → inside (sign op ++ t) ≡ 2
inside_call o.Min t h = refl
inside_call o.Max t h = refl
inside_call _ t h = absurd (true≢false (sym h))

inside_opening : (op : Op) (t : Text) → inside (opening (shape_of op) ++ t) ≡ 2
inside_opening o.Less t = refl
inside_opening _ t = refl

-- a left side in a bracket is no type
inside_apply : (names : List Text) (op : Op) (a b : E) (t : Text) (c : Bool) → is_call op ≡ c → inside (operand names (Apply op a b) ++ t) ≡ 2
inside_apply names op a b t true h = ap inside (call_shown names op a b t h) ∙ inside_call op (c_value names a ++ (44 ∷ 32 ∷ (c_value names b ++ (41 ∷ t)))) h
inside_apply names op a b t false h = ap inside (enclosed_shown names op a b t h) ∙ inside_opening op (c_value names (Apply op a b) ++ (41 ∷ t))

inside_left : (names : List Text) → AreIdentifiers names → (a b : E) (t : Text) → Fits names a → head_of t ≡ 32 → inside (left_side names a b ++ t) ≡ 2
inside_left names are (Literal n) b t fits h =
    let one = left_number names n b (is_number b) refl in
    ap (λ x. inside (x ++ t)) one.is ∙ inside_word (decimal n ++ one.behind) t (word_append (decimal n) one.behind (number_word n fits) one.suffix.word) ∙ inside_blank t h
inside_left names are (CellAt c) b t fits h =
    ap inside (cell_shown names c t) ∙ inside_word (name names c.array) (91 ∷ (decimal c.index ++ (93 ∷ t))) (name_word (name names c.array) (are.each c.array fits.0))
inside_left names are (Apply op x y) b t fits h = inside_apply names op x y t (is_call op) refl
inside_left names are (PickFrom s e) b t fits h =
    ap inside (pick_shown names s e t) ∙ inside_word (name names s.array) (91 ∷ chosen names s e t) (name_word (name names s.array) (are.each s.array fits.0))

kind_apply : (names : List Text) → AreIdentifiers names → (op : Op) (a b : E) (r : Text) → Fits names a → (c : Bool) → is_call op ≡ c → kind (operand names (Apply op a b) ++ r) ≡ shape_of op
kind_apply names are op a b r fits true h = ap kind (call_shown names op a b r h) ∙ kind_call op (c_value names a ++ (44 ∷ 32 ∷ (c_value names b ++ (41 ∷ r)))) h
kind_apply names are op a b r fits false h =
    ap kind (enclosed_shown names op a b r h)
    ∙ kind_opening op (c_value names (Apply op a b) ++ (41 ∷ r)) h
    (ap inside (infix_shown names op a b (41 ∷ r) h) ∙ inside_left names are a b (sign op ++ (operand names b ++ (41 ∷ r))) fits (blank op (operand names b ++ (41 ∷ r)) h))

kind_operand : (names : List Text) → AreIdentifiers names → (e : E) (r : Text) → Fits names e → kind (operand names e ++ r) ≡ shape e
kind_operand names are (Literal n) r fits = kind_constant n (constant n) r fits (constant_is n)
kind_operand names are (CellAt c) r fits = ap kind (cell_shown names c r) ∙ kind_name (name names c.array) (decimal c.index ++ (93 ∷ r)) (are.each c.array fits.0)
kind_operand names are (Apply op a b) r fits = kind_apply names are op a b r fits.0 (is_call op) refl
kind_operand names are (PickFrom s e) r fits = ap kind (pick_shown names s e r) ∙ kind_name (name names s.array) (chosen names s e r) (are.each s.array fits.0)

same_shape : (names : List Text) → AreIdentifiers names → (a b : E) (r s : Text) → Fits names a → Fits names b → operand names a ++ r ≡ operand names b ++ s → shape a ≡ shape b
same_shape names are a b r s one two is = sym (kind_operand names are a r one) ∙ ap kind is ∙ kind_operand names are b s two

-- ---- operands and values

abbrev pub IsByOperand : List Text → E → Type 0
IsByOperand names a = (b : E) (r s : Text) → Fits names b → starts r ≡ false → starts s ≡ false → operand names a ++ r ≡ operand names b ++ s → (a ≡ b) × (r ≡ s)

abbrev pub IsByValue : List Text → E → Type 0
IsByValue names a = (b : E) (r s : Text) → Fits names b → goes r ≡ false → goes s ≡ false → c_value names a ++ r ≡ c_value names b ++ s → (a ≡ b) × (r ≡ s)

-- a value's text and its text as an operand determine it and what stands behind
pub record Determined (names : List Text) (a : E) : Type 0 where
  pub operand : IsByOperand names a
  pub value : IsByValue names a

-- the values in a value
abbrev Inner : List Text → E → Type 0
Inner names (Apply op a b) = Determined names a × Determined names b
Inner names (PickFrom t e) = Determined names e
Inner names _ = Unit {0}

-- digits are no operand that something else follows
digits_operand : (names : List Text) → AreIdentifiers names → (n : ℕ) (e : E) (r s : Text) → n < 2 ^ 64 → Fits names e → starts r ≡ false → starts s ≡ false → (r ≡ s → ⊥) → decimal n ++ r ≡ operand names e ++ s → ⊥
digits_operand names are n (Literal m) r s small fits hr hs apart is =
    let one : IsConstant n (decimal n ++ []) = record { behind = []; suffix = no_suffix; is = refl } in
    apart (same_literal n m (decimal n ++ []) (constant m) r s small fits one (constant_is m) hr hs (append_assoc (decimal n) [] r ∙ is)).1
digits_operand names are n e r s small fits hr hs apart is = omega (arith, sym (kind_digits (decimal n) r (digits_are n small).front) ∙ ap kind is ∙ kind_operand names are e s fits, shape_above)

-- what stands behind the start of a pick
abbrev rest_of : List Text → Section → E → Text → Text
rest_of names t e r = operand names e ++ (32 ∷ 37 ∷ 32 ∷ (decimal t.len ++ (93 ∷ r)))

from_start : (names : List Text) (t : Section) (e : E) (r : Text) → (t.start == 0) ≡ true → chosen names t e r ≡ rest_of names t e r
from_start names t e r h = rw h refl

from_later : (names : List Text) (t : Section) (e : E) (r : Text) → (t.start == 0) ≡ false → chosen names t e r ≡ decimal t.start ++ (32 ∷ 43 ∷ 32 ∷ rest_of names t e r)
from_later names t e r h = rw h (append_assoc (decimal t.start) (32 ∷ 43 ∷ 32 ∷ []) (rest_of names t e r))

no_percent : (t u : Text) → 93 ∷ t ≡ 32 ∷ u → ⊥
no_percent t u is = omega (arith, ap head_of is)

no_plus : (t u : Text) → 32 ∷ 37 ∷ t ≡ 32 ∷ 43 ∷ u → ⊥
no_plus t u is = omega (arith, ap (λ w. head_of (tail_of w)) is)

-- an index is no pick's text
index_pick : (names : List Text) → AreIdentifiers names → (n : ℕ) (t : Section) (e : E) (r s : Text) → n < 2 ^ 64 → Fits names (PickFrom t e) → (b : Bool) → (t.start == 0) ≡ b → decimal n ++ (93 ∷ r) ≡ chosen names t e s → ⊥
index_pick names are n t e r s small fits true h is =
    digits_operand names are n e (93 ∷ r) (32 ∷ 37 ∷ 32 ∷ (decimal t.len ++ (93 ∷ s))) small fits.3 refl refl (no_percent r (37 ∷ 32 ∷ (decimal t.len ++ (93 ∷ s)))) (is ∙ from_start names t e s h)
index_pick names are n t e r s small fits false h is =
    no_percent r (43 ∷ 32 ∷ rest_of names t e s) (same_number n t.start (93 ∷ r) (32 ∷ 43 ∷ 32 ∷ rest_of names t e s) small fits.1 refl refl (is ∙ from_later names t e s h)).1

-- a pick from the start is none from a later cell
start_later : (names : List Text) → AreIdentifiers names → (t u : Section) (e f : E) (r s : Text) → Fits names (PickFrom t e) → Fits names (PickFrom u f) → (t.start == 0) ≡ true → (u.start == 0) ≡ false → chosen names t e r ≡ chosen names u f s → ⊥
start_later names are t u e f r s one two h k is =
    digits_operand names are u.start e (32 ∷ 43 ∷ 32 ∷ rest_of names u f s) (32 ∷ 37 ∷ 32 ∷ (decimal t.len ++ (93 ∷ r))) two.1 one.3 refl refl
    (λ same. no_plus (32 ∷ (decimal t.len ++ (93 ∷ r))) (32 ∷ rest_of names u f s) (sym same))
    (sym (from_later names u f s k) ∙ sym is ∙ from_start names t e r h)

is_zero : (n : ℕ) → (n == 0) ≡ true → n ≡ 0
is_zero n h = grind (arith, nat_tests)

-- what is chosen, and of how many cells
same_rest : (names : List Text) (t u : Section) (e f : E) (r s : Text) → Determined names e → Fits names (PickFrom t e) → Fits names (PickFrom u f) → rest_of names t e r ≡ rest_of names u f s → (e ≡ f) × (t.len ≡ u.len) × (r ≡ s)
same_rest names t u e f r s inner one two is =
    let values = inner.operand f (32 ∷ 37 ∷ 32 ∷ (decimal t.len ++ (93 ∷ r))) (32 ∷ 37 ∷ 32 ∷ (decimal u.len ++ (93 ∷ s))) two.3 refl refl is in
    let lens = same_number t.len u.len (93 ∷ r) (93 ∷ s) one.2 two.2 refl refl (ap (λ w. tail_of (tail_of (tail_of w))) values.1) in
    (values.0, lens.0, ap tail_of lens.1)

same_chosen : (names : List Text) → AreIdentifiers names → (t u : Section) (e f : E) (r s : Text) → Determined names e → Fits names (PickFrom t e) → Fits names (PickFrom u f) → (b c : Bool) → (t.start == 0) ≡ b → (u.start == 0) ≡ c → chosen names t e r ≡ chosen names u f s
    → (t.start ≡ u.start) × (e ≡ f) × (t.len ≡ u.len) × (r ≡ s)
same_chosen names are t u e f r s inner one two true true h k is =
    let all = same_rest names t u e f r s inner one two (sym (from_start names t e r h) ∙ is ∙ from_start names u f s k) in
    (is_zero t.start h ∙ sym (is_zero u.start k), all.0, all.1, all.2)
same_chosen names are t u e f r s inner one two true false h k is = absurd (start_later names are t u e f r s one two h k is)
same_chosen names are t u e f r s inner one two false true h k is = absurd (start_later names are u t f e s r two one k h (sym is))
same_chosen names are t u e f r s inner one two false false h k is =
    let first = same_number t.start u.start (32 ∷ 43 ∷ 32 ∷ rest_of names t e r) (32 ∷ 43 ∷ 32 ∷ rest_of names u f s) one.1 two.1 refl refl (sym (from_later names t e r h) ∙ is ∙ from_later names u f s k) in
    let all = same_rest names t u e f r s inner one two (ap (λ w. tail_of (tail_of (tail_of w))) first.1) in
    (first.0, all.0, all.1, all.2)

-- ---- left sides

-- an operand is a left side beside a cell
beside : E
beside = CellAt (record { array = 0; index = 0 })

as_left : (names : List Text) (a : E) → operand names a ≡ left_side names a beside
unfolding beside
as_left names (Literal n) = refl
as_left names _ = refl

kind_left : (names : List Text) → AreIdentifiers names → (a b : E) (r : Text) → Fits names a → kind (left_side names a b ++ r) ≡ shape a
kind_left names are (Literal n) b r fits = kind_constant n (left_side names (Literal n) b) r fits (left_number names n b (is_number b) refl)
kind_left names are a b r fits = kind_operand names are a r fits

left_by_kind : (names : List Text) (a b x y : E) (r s : Text) → IsByOperand names a → Fits names a → Fits names x → starts r ≡ false → starts s ≡ false → shape a ≡ shape x → left_side names a b ++ r ≡ left_side names x y ++ s → (a ≡ x) × (r ≡ s)
left_by_kind names (Literal n) b (Literal m) y r s by one two hr hs shapes is =
    let both = same_literal n m (left_side names (Literal n) b) (left_side names (Literal m) y) r s one two (left_number names n b (is_number b) refl) (left_number names m y (is_number y) refl) hr hs is in
    (ap Literal both.0, both.1)
left_by_kind names (Literal n) b x y r s by one two hr hs shapes is = absurd (omega (arith, shapes, shape_above))
left_by_kind names a b (Literal m) y r s by one two hr hs shapes is = absurd (omega (arith, shapes, shape_above))
left_by_kind names a b x y r s by one two hr hs shapes is = by x r s two hr hs is

-- left sides of one text are one
same_left : (names : List Text) → AreIdentifiers names → (a b x y : E) (r s : Text) → IsByOperand names a → Fits names a → Fits names x → starts r ≡ false → starts s ≡ false → left_side names a b ++ r ≡ left_side names x y ++ s → (a ≡ x) × (r ≡ s)
same_left names are a b x y r s by one two hr hs is = left_by_kind names a b x y r s by one two hr hs (sym (kind_left names are a b r one) ∙ ap kind is ∙ kind_left names are x y s two) is

-- ---- operations with a sign, alone

same_infix : (names : List Text) → AreIdentifiers names → (op other : Op) (a b x y : E) → is_call op ≡ false → is_call other ≡ false → Inner names (Apply op a b) → Fits names (Apply op a b) → Fits names (Apply other x y) → (r s : Text) → goes r ≡ false → goes s ≡ false
    → c_value names (Apply op a b) ++ r ≡ c_value names (Apply other x y) ++ s → (Apply op a b ≡ Apply other x y) × (r ≡ s)
same_infix names are op other a b x y h k inner one two r s hr hs is =
    let left = sign op ++ (operand names b ++ r) in
    let right = sign other ++ (operand names y ++ s) in
    let firsts = same_left names are a b x y left right inner.0.operand one.0 two.0 (blank_stops left (blank op (operand names b ++ r) h)) (blank_stops right (blank other (operand names y ++ s) k))
    (sym (infix_shown names op a b r h) ∙ is ∙ infix_shown names other x y s k) in
    let ops = same_op op other (operand names b ++ r) (operand names y ++ s) firsts.1 in
    let seconds = inner.1.operand y r s two.1 (no_start r hr) (no_start s hs) ops.1 in
    (apply_eq op other a b x y ops.0 firsts.0 seconds.0, seconds.1)

-- ---- operands

-- two calls, or two operations that are enclosed alike
same_apply : (names : List Text) → AreIdentifiers names → (op other : Op) (a b x y : E) → Inner names (Apply op a b) → Fits names (Apply op a b) → Fits names (Apply other x y) → (r s : Text) → shape_of op ≡ shape_of other → (c : Bool) → is_call op ≡ c
    → operand names (Apply op a b) ++ r ≡ operand names (Apply other x y) ++ s → (Apply op a b ≡ Apply other x y) × (r ≡ s)
same_apply names are op other a b x y inner one two r s shapes true h is =
    let g : is_call other ≡ true = shape_called other ∙ ap (λ n. n == 3) (sym shapes) ∙ sym (shape_called op) ∙ h in
    let ops = same_op op other (c_value names a ++ (44 ∷ 32 ∷ (c_value names b ++ (41 ∷ r)))) (c_value names x ++ (44 ∷ 32 ∷ (c_value names y ++ (41 ∷ s)))) (sym (call_shown names op a b r h) ∙ is ∙ call_shown names other x y s g) in
    let firsts = inner.0.value x (44 ∷ 32 ∷ (c_value names b ++ (41 ∷ r))) (44 ∷ 32 ∷ (c_value names y ++ (41 ∷ s))) two.0 refl refl ops.1 in
    let seconds = inner.1.value y (41 ∷ r) (41 ∷ s) two.1 refl refl (ap (λ w. tail_of (tail_of w)) firsts.1) in
    (apply_eq op other a b x y ops.0 firsts.0 seconds.0, ap tail_of seconds.1)
same_apply names are op other a b x y inner one two r s shapes false h is =
    let g : is_call other ≡ false = shape_called other ∙ ap (λ n. n == 3) (sym shapes) ∙ sym (shape_called op) ∙ h in
    let both = same_infix names are op other a b x y h g inner one two (41 ∷ r) (41 ∷ s) refl refl (append_cancel_left (opening (shape_of op)) (c_value names (Apply op a b) ++ (41 ∷ r)) (c_value names (Apply other x y) ++ (41 ∷ s))
    (sym (enclosed_shown names op a b r h) ∙ is ∙ enclosed_shown names other x y s g ∙ ap (λ n. opening n ++ (c_value names (Apply other x y) ++ (41 ∷ s))) (sym shapes))) in
    (both.0, ap tail_of both.1)

same_operand : (names : List Text) → AreIdentifiers names → (a b : E) → Inner names a → Fits names a → Fits names b → (r s : Text) → starts r ≡ false → starts s ≡ false → shape a ≡ shape b → operand names a ++ r ≡ operand names b ++ s → (a ≡ b) × (r ≡ s)
same_operand names are (Literal n) (Literal m) inner one two r s hr hs shapes is =
    let both = same_literal n m (constant n) (constant m) r s one two (constant_is n) (constant_is m) hr hs is in
    (ap Literal both.0, both.1)
same_operand names are (CellAt c) (CellAt d) inner one two r s hr hs shapes is =
    let both = one_cell names are c d r s one.0 one.1 two.0 two.1 (sym (cell_shown names c r) ∙ is ∙ cell_shown names d s) in
    (ap CellAt both.0, both.1)
same_operand names are (CellAt c) (PickFrom t e) inner one two r s hr hs shapes is =
    let arrays = same_array names are c.array t.array (91 ∷ (decimal c.index ++ (93 ∷ r))) (91 ∷ chosen names t e s) one.0 two.0 refl refl (sym (cell_shown names c r) ∙ is ∙ pick_shown names t e s) in
    absurd (index_pick names are c.index t e r s one.1 two (t.start == 0) refl (ap tail_of arrays.1))
same_operand names are (PickFrom t e) (CellAt d) inner one two r s hr hs shapes is =
    let arrays = same_array names are t.array d.array (91 ∷ chosen names t e r) (91 ∷ (decimal d.index ++ (93 ∷ s))) one.0 two.0 refl refl (sym (pick_shown names t e r) ∙ is ∙ cell_shown names d s) in
    absurd (index_pick names are d.index t e s r two.1 one (t.start == 0) refl (sym (ap tail_of arrays.1)))
same_operand names are (PickFrom t e) (PickFrom u f) inner one two r s hr hs shapes is =
    let arrays = same_array names are t.array u.array (91 ∷ chosen names t e r) (91 ∷ chosen names u f s) one.0 two.0 refl refl (sym (pick_shown names t e r) ∙ is ∙ pick_shown names u f s) in
    let all = same_chosen names are t u e f r s inner one two (t.start == 0) (u.start == 0) refl refl (ap tail_of arrays.1) in
    (pick_eq t u e f (same_section t u arrays.0 all.0 all.2) all.1, all.3)
same_operand names are (Apply op a b) (Apply other x y) inner one two r s hr hs shapes is = same_apply names are op other a b x y inner one two r s shapes (is_call op) refl is
same_operand names are _ _ inner one two r s hr hs shapes is = absurd (omega (arith, shapes, shape_above))

-- ---- each value

plain_operand : (names : List Text) (e : E) → is_nested e ≡ false → operand names e ≡ c_value names e
plain_operand names (Apply o.Min a b) h = refl
plain_operand names (Apply o.Max a b) h = refl
plain_operand names (Apply _ a b) h = absurd (true≢false h)
plain_operand names _ h = refl

same_value : (names : List Text) → AreIdentifiers names → (p q : Bool) (a b : E) → is_nested a ≡ p → is_nested b ≡ q → IsByOperand names a → Inner names a → Fits names a → Fits names b → (r s : Text) → goes r ≡ false → goes s ≡ false → c_value names a ++ r ≡ c_value names b ++ s → (a ≡ b) × (r ≡ s)
same_value names are false false a b h k by inner one two r s hr hs is =
    by b r s two (no_start r hr) (no_start s hs) (ap (λ t. t ++ r) (plain_operand names a h) ∙ is ∙ sym (ap (λ t. t ++ s) (plain_operand names b k)))
same_value names are false true a (Apply op x y) h k by inner one two r s hr hs is =
    let right = sign op ++ (operand names y ++ s) in
    let front = blank op (operand names y ++ s) (not-true (is_call op) k) in
    let both = same_left names are a beside x y r right by one two.0 (no_start r hr) (blank_stops right front)
    (ap (λ t. t ++ r) (sym (as_left names a) ∙ plain_operand names a h) ∙ is ∙ infix_shown names op x y s (not-true (is_call op) k)) in
    absurd (blank_goes r (ap head_of both.1 ∙ front) hr)
same_value names are true false (Apply op x y) b h k by inner one two r s hr hs is =
    let left = sign op ++ (operand names y ++ r) in
    let front = blank op (operand names y ++ r) (not-true (is_call op) h) in
    let both = same_left names are x y b beside left s inner.0.operand one.0 two (blank_stops left front) (no_start s hs)
    (sym (infix_shown names op x y r (not-true (is_call op) h)) ∙ is ∙ ap (λ t. t ++ s) (sym (plain_operand names b k) ∙ as_left names b)) in
    absurd (blank_goes s (sym (ap head_of both.1) ∙ front) hs)
same_value names are true true (Apply op a b) (Apply other x y) h k by inner one two r s hr hs is = same_infix names are op other a b x y (not-true (is_call op) h) (not-true (is_call other) k) inner one two r s hr hs is
same_value names are _ _ _ _ h k by inner one two r s hr hs is = absurd (cc)

of_inner : (names : List Text) → AreIdentifiers names → (a : E) → Fits names a → Inner names a → Determined names a
of_inner names are a fits inner =
    let by : IsByOperand names a = λ b r s other hr hs is. same_operand names are a b inner fits other r s hr hs (same_shape names are a b r s fits other is) is in
    record { operand = by; value = λ b r s other hr hs is. same_value names are (is_nested a) (is_nested b) a b refl refl by inner fits other r s hr hs is }

pub determined : (names : List Text) → AreIdentifiers names → (a : E) → Fits names a → Determined names a
determined names are (Literal n) fits = of_inner names are (Literal n) fits tt
determined names are (CellAt c) fits = of_inner names are (CellAt c) fits tt
determined names are (Apply op a b) fits = of_inner names are (Apply op a b) fits (determined names are a fits.0, determined names are b fits.1)
determined names are (PickFrom t e) fits = of_inner names are (PickFrom t e) fits (determined names are e fits.3)

pub value_law : CValueIsDetermined
value_law names are a b one two is = ((determined names are a one).value b [] [] two refl refl (ap (λ t. t ++ []) is)).0
