-- A value's text determines the value.
use Rattle.std.proofs.Common.{◌≡◌, ℕ, ◌<◌, ◌^◌, ◌==◌, List, [], ◌∷◌, ◌++◌, length, Bool, true, false, not, if◌then◌else◌, refl, sym, ap, ◌∙◌, append_assoc, arith, true≢false}
use Rattle.std.specs.Prelude.{decimal}
use Rattle.std.proofs.lemmas.Bool.Decides.{nat_tests}
use Rattle.std.proofs.lemmas.Fmt.{decimal_injective}
use Rattle.std.proofs.lemmas.List.{append_cancel_left}
use Rattle.ot_model.specs.declared.expr.Cell.{Cell}
use Rattle.ot_model.specs.declared.expr.Section.{Section}
use Rattle.ot_model.specs.declared.expr.Op.{Op}
use Rattle.ot_model.specs.declared.expr.Op.TheVariants as o
use Rattle.ot_model.specs.Tree.{E, Literal, CellAt, Apply, PickFrom}
use Rattle.ot_show_print.specs.Shown.{Text, name, is_nested, value, side}
use Rattle.ot_model.specs.Signs.{is_call, sign}
use Rattle.ot_show_print.specs.Laws.{is_digit, in_word, all_word, is_name, AreNames, Fits, goes, ValueIsDetermined}
use Rattle.ot_show_print.proofs.WordLemmas.{and_true, head_of, tail_of, starts, no_start, split, front_digit, digits_are}

-- ---- which kind of side a text begins with

-- behind a word: 2 before `(`, 3 before `[`
abbrev behind : Text → ℕ
behind [] = 9
behind (b ∷ bs) = if in_word b then behind bs else (if b == 40 then 2 else 3)

-- 0 a number, 1 a bracket, 2 a call, 3 an array
abbrev kind : Text → ℕ
kind [] = 9
kind (b ∷ bs) = if is_digit b then 0 else (if b == 40 then 1 else behind (b ∷ bs))

abbrev shape_of : Op → ℕ
shape_of op = if is_call op then 2 else 1

abbrev shape : E → ℕ
shape (Literal n) = 0
shape (CellAt c) = 3
shape (Apply op a b) = shape_of op
shape (PickFrom s e) = 3

kind_number : (ds r : Text) → front_digit ds ≡ true → kind (ds ++ r) ≡ 0
kind_number [] r h = absurd (true≢false (sym h))
kind_number (d ∷ ds) r h = rw h refl

behind_word : (w t : Text) → all_word w ≡ true → behind (w ++ (91 ∷ t)) ≡ 3
behind_word [] t h = refl
behind_word (b ∷ bs) t h = rw ((and_true (in_word b) (all_word bs) h).0) (behind_word bs t (and_true (in_word b) (all_word bs) h).1)

no_bracket : (b : ℕ) → in_word b ≡ true → (b == 40) ≡ false
no_bracket b h = grind (arith, nat_tests)

not_true : (b : Bool) → not b ≡ true → b ≡ false
not_true true h = absurd (true≢false (sym h))
not_true false h = refl

pub name_word : (w : Text) → is_name w ≡ true → all_word w ≡ true
name_word [] h = refl
name_word (b ∷ bs) h = (and_true (not (is_digit b)) (all_word (b ∷ bs)) h).1

neither : (d e : Bool) (x : ℕ) → d ≡ false → e ≡ false → (if d then 0 else (if e then 1 else x)) ≡ x
neither d e x p q = rw (p, q) refl

kind_name : (w t : Text) → is_name w ≡ true → kind (w ++ (91 ∷ t)) ≡ 3
kind_name [] t h = absurd (true≢false (sym h))
kind_name (b ∷ bs) t h =
    let both = and_true (not (is_digit b)) (all_word (b ∷ bs)) h in
    let no_digit = not_true (is_digit b) both.0 in
    let no_open = no_bracket b (and_true (in_word b) (all_word bs) both.1).0 in
    neither (is_digit b) (b == 40) (behind (b ∷ (bs ++ (91 ∷ t)))) no_digit no_open ∙ behind_word (b ∷ bs) t both.1

-- ---- texts, ended by what stands behind them

cell_text : (w ds r : Text) → (w ++ (91 ∷ []) ++ ds ++ (93 ∷ [])) ++ r ≡ w ++ (91 ∷ (ds ++ (93 ∷ r)))
cell_text w ds r = simp append_assoc refl

bracket_text : (v r : Text) → (40 ∷ (v ++ (41 ∷ []))) ++ r ≡ 40 ∷ (v ++ (41 ∷ r))
bracket_text v r = ap (λ u. 40 ∷ u) (append_assoc v (41 ∷ []) r)

pick_text : (w ds x es r : Text) → (w ++ (91 ∷ []) ++ ds ++ (32 ∷ 43 ∷ 32 ∷ []) ++ x ++ (32 ∷ 37 ∷ 32 ∷ []) ++ es ++ (93 ∷ [])) ++ r ≡ w ++ (91 ∷ (ds ++ (32 ∷ 43 ∷ 32 ∷ (x ++ (32 ∷ 37 ∷ 32 ∷ (es ++ (93 ∷ r)))))))
pick_text w ds x es r = simp append_assoc refl

call_text : (sg v w r : Text) → (sg ++ v ++ (44 ∷ 32 ∷ []) ++ w ++ (41 ∷ [])) ++ r ≡ sg ++ (v ++ (44 ∷ 32 ∷ (w ++ (41 ∷ r))))
call_text sg v w r = simp append_assoc refl

infix_text : (x sg y r : Text) → (x ++ sg ++ y) ++ r ≡ x ++ (sg ++ (y ++ r))
infix_text x sg y r = simp append_assoc refl

nested_side : (names : List Text) (e : E) → is_nested e ≡ true → side names e ≡ 40 ∷ (value names e ++ (41 ∷ []))
nested_side names e h = rw h refl

plain_side : (names : List Text) (e : E) → is_nested e ≡ false → side names e ≡ value names e
plain_side names e h = rw h refl

call_value : (names : List Text) (op : Op) (a b : E) → is_call op ≡ true → value names (Apply op a b) ≡ sign op ++ value names a ++ (44 ∷ 32 ∷ []) ++ value names b ++ (41 ∷ [])
call_value names op a b h = rw h refl

infix_value : (names : List Text) (op : Op) (a b : E) → is_call op ≡ false → value names (Apply op a b) ≡ side names a ++ sign op ++ side names b
infix_value names op a b h = rw h refl

-- ---- signs

abbrev op_at : Text → Op
op_at [] = o.Plus
op_at (b ∷ []) = o.Plus
op_at (b ∷ c ∷ t) = if c == 43 then o.Plus else if c == 45 then o.Minus else if c == 42 then o.Times else if c == 38 then o.And else if c == 124 then o.Or else if c == 94 then o.Xor else if c == 60 then o.Less else if c == 61 then o.Equal else if c == 105 then o.Min else o.Max

op_back : (op : Op) (t : Text) → op_at (sign op ++ t) ≡ op
op_back o.Plus t = refl
op_back o.Minus t = refl
op_back o.Times t = refl
op_back o.And t = refl
op_back o.Or t = refl
op_back o.Xor t = refl
op_back o.Less t = refl
op_back o.Equal t = refl
op_back o.Min t = refl
op_back o.Max t = refl

pub same_op : (op other : Op) (t u : Text) → sign op ++ t ≡ sign other ++ u → (op ≡ other) × (t ≡ u)
same_op op other t u is =
    let one : op ≡ other = sym (op_back op t) ∙ ap op_at is ∙ op_back other u in
    (one, append_cancel_left (sign op) t u (is ∙ ap (λ q. sign q ++ u) (sym one)))

blank : (op : Op) (t : Text) → is_call op ≡ false → head_of (sign op ++ t) ≡ 32
blank o.Plus t h = refl
blank o.Minus t h = refl
blank o.Times t h = refl
blank o.And t h = refl
blank o.Or t h = refl
blank o.Xor t h = refl
blank o.Less t h = refl
blank o.Equal t h = refl
blank o.Min t h = absurd (true≢false h)
blank o.Max t h = absurd (true≢false h)

blank_stops : (t : Text) → head_of t ≡ 32 → starts t ≡ false
blank_stops [] h = refl
blank_stops (b ∷ bs) h = rw h refl

blank_goes : (t : Text) → head_of t ≡ 32 → goes t ≡ false → ⊥
blank_goes [] h g = omega (arith, h)
blank_goes (b ∷ bs) h g = true≢false (sym (rw h refl) ∙ g)

kind_call : (op : Op) (t : Text) → is_call op ≡ true → kind (sign op ++ t) ≡ 2
kind_call o.Min t h = refl
kind_call o.Max t h = refl
kind_call _ t h = absurd (true≢false (sym h))

-- ---- kinds of sides

shape_call : (op : Op) → is_call op ≡ true → shape_of op ≡ 2
shape_call op h = rw h refl

shape_infix : (op : Op) → is_call op ≡ false → shape_of op ≡ 1
shape_infix op h = rw h refl

-- a pick's text behind its start
abbrev chosen : List Text → Section → E → Text → Text
chosen names t e r = 32 ∷ 43 ∷ 32 ∷ (side names e ++ (32 ∷ 37 ∷ 32 ∷ (decimal t.len ++ (93 ∷ r))))

pub cell_shown : (names : List Text) (c : Cell) (r : Text) → side names (CellAt c) ++ r ≡ name names c.array ++ (91 ∷ (decimal c.index ++ (93 ∷ r)))
cell_shown names c r = cell_text (name names c.array) (decimal c.index) r

pick_shown : (names : List Text) (t : Section) (e : E) (r : Text) → side names (PickFrom t e) ++ r ≡ name names t.array ++ (91 ∷ (decimal t.start ++ chosen names t e r))
pick_shown names t e r = pick_text (name names t.array) (decimal t.start) (side names e) (decimal t.len) r

not_called : (c : Bool) → c ≡ false → not c ≡ true
not_called c h = rw h refl

called : (c : Bool) → c ≡ true → not c ≡ false
called c h = rw h refl

call_shown : (names : List Text) (op : Op) (a b : E) (r : Text) → is_call op ≡ true → side names (Apply op a b) ++ r ≡ sign op ++ (value names a ++ (44 ∷ 32 ∷ (value names b ++ (41 ∷ r))))
call_shown names op a b r h = ap (λ t. t ++ r) (plain_side names (Apply op a b) (called (is_call op) h) ∙ call_value names op a b h) ∙ call_text (sign op) (value names a) (value names b) r

kind_apply : (names : List Text) (op : Op) (a b : E) (r : Text) (c : Bool) → is_call op ≡ c → kind (side names (Apply op a b) ++ r) ≡ shape_of op
kind_apply names op a b r true h =
    ap kind (call_shown names op a b r h) ∙ kind_call op (value names a ++ (44 ∷ 32 ∷ (value names b ++ (41 ∷ r)))) h ∙ sym (shape_call op h)
kind_apply names op a b r false h = rw h refl

kind_side : (names : List Text) → AreNames names → (e : E) (r : Text) → Fits names e → kind (side names e ++ r) ≡ shape e
kind_side names are (Literal n) r fits = kind_number (decimal n) r (digits_are n fits).front
kind_side names are (CellAt c) r fits = ap kind (cell_shown names c r) ∙ kind_name (name names c.array) (decimal c.index ++ (93 ∷ r)) (are.each c.array fits.0)
kind_side names are (Apply op a b) r fits = kind_apply names op a b r (is_call op) refl
kind_side names are (PickFrom s e) r fits = ap kind (pick_shown names s e r) ∙ kind_name (name names s.array) (decimal s.start ++ chosen names s e r) (are.each s.array fits.0)

same_shape : (names : List Text) → AreNames names → (a b : E) (r s : Text) → Fits names a → Fits names b → side names a ++ r ≡ side names b ++ s → shape a ≡ shape b
same_shape names are a b r s one two is = sym (kind_side names are a r one) ∙ ap kind is ∙ kind_side names are b s two

shape_small : (op : Op) (c : Bool) → is_call op ≡ c → (0 < shape_of op) × (shape_of op < 3)
shape_small op true h = rw h (omega arith, omega arith)
shape_small op false h = rw h (omega arith, omega arith)

-- ---- an array's cells

pub opened : (names : List Text) → AreNames names → (i j m n : ℕ) (t u : Text) → i < length names → j < length names → m < 2 ^ 64 → n < 2 ^ 64 → starts t ≡ false → starts u ≡ false
    → name names i ++ (91 ∷ (decimal m ++ t)) ≡ name names j ++ (91 ∷ (decimal n ++ u)) → (i ≡ j) × (m ≡ n) × (t ≡ u)
opened names are i j m n t u hi hj hm hn ht hu is =
    let first = split (name names i) (name names j) (91 ∷ (decimal m ++ t)) (91 ∷ (decimal n ++ u)) (name_word (name names i) (are.each i hi)) (name_word (name names j) (are.each j hj)) refl refl is in
    let second = split (decimal m) (decimal n) t u (digits_are m hm).word (digits_are n hn).word ht hu (ap tail_of first.1) in
    (are.differ i j hi hj first.0, decimal_injective m n hm hn second.0, second.1)

pub same_cell : (c d : Cell) → c.array ≡ d.array → c.index ≡ d.index → c ≡ d
same_cell c d array index =
    let at : ℕ → ℕ → Cell = λ a i. record { array = a; index = i } in
    ap (λ a. at a c.index) array ∙ ap (at d.array) index

pub same_section : (s t : Section) → s.array ≡ t.array → s.start ≡ t.start → s.len ≡ t.len → s ≡ t
same_section s t array start len =
    let at : ℕ → ℕ → ℕ → Section = λ a i n. record { array = a; start = i; len = n } in
    ap (λ a. at a s.start s.len) array ∙ ap (λ i. at t.array i s.len) start ∙ ap (at t.array t.start) len

-- ---- sides and values

abbrev pub IsBySide : List Text → E → Type 0
IsBySide names a = (b : E) (r s : Text) → Fits names b → starts r ≡ false → starts s ≡ false → side names a ++ r ≡ side names b ++ s → (a ≡ b) × (r ≡ s)

abbrev pub IsByValue : List Text → E → Type 0
IsByValue names a = (b : E) (r s : Text) → Fits names b → goes r ≡ false → goes s ≡ false → value names a ++ r ≡ value names b ++ s → (a ≡ b) × (r ≡ s)

-- a value's text and its text as a side determine it and what stands behind
pub record Determined (names : List Text) (a : E) : Type 0 where
  pub side : IsBySide names a
  pub value : IsByValue names a

literal_side : (names : List Text) → AreNames names → (n : ℕ) → Fits names (Literal n) → IsBySide names (Literal n)
literal_side names are n fits (Literal m) r s other hr hs is =
    let both = split (decimal n) (decimal m) r s (digits_are n fits).word (digits_are m other).word hr hs is in
    (ap Literal (decimal_injective n m fits other both.0), both.1)
literal_side names are n fits (CellAt c) r s other hr hs is = absurd (omega (arith, same_shape names are (Literal n) (CellAt c) r s fits other is))
literal_side names are n fits (Apply op x y) r s other hr hs is = absurd (omega (arith, same_shape names are (Literal n) (Apply op x y) r s fits other is, shape_small op (is_call op) refl))
literal_side names are n fits (PickFrom t e) r s other hr hs is = absurd (omega (arith, same_shape names are (Literal n) (PickFrom t e) r s fits other is))

cell_side : (names : List Text) → AreNames names → (c : Cell) → Fits names (CellAt c) → IsBySide names (CellAt c)
cell_side names are c fits (CellAt d) r s other hr hs is =
    let all = opened names are c.array d.array c.index d.index (93 ∷ r) (93 ∷ s) fits.0 other.0 fits.1 other.1 refl refl (sym (cell_shown names c r) ∙ is ∙ cell_shown names d s) in
    (ap CellAt (same_cell c d all.0 all.1), ap tail_of all.2)
cell_side names are c fits (PickFrom t e) r s other hr hs is =
    let all = opened names are c.array t.array c.index t.start (93 ∷ r) (chosen names t e s) fits.0 other.0 fits.1 other.1 refl refl (sym (cell_shown names c r) ∙ is ∙ pick_shown names t e s) in
    absurd (omega (arith, ap head_of all.2))
cell_side names are c fits (Literal n) r s other hr hs is = absurd (omega (arith, same_shape names are (CellAt c) (Literal n) r s fits other is))
cell_side names are c fits (Apply op x y) r s other hr hs is = absurd (omega (arith, same_shape names are (CellAt c) (Apply op x y) r s fits other is, shape_small op (is_call op) refl))

pub pick_eq : (s t : Section) (a b : E) → s ≡ t → a ≡ b → PickFrom s a ≡ PickFrom t b
pick_eq s t a b p q = ap (λ x. PickFrom x a) p ∙ ap (PickFrom t) q

pub apply_eq : (o p : Op) (a b x y : E) → o ≡ p → a ≡ x → b ≡ y → Apply o a b ≡ Apply p x y
apply_eq o p a b x y i j k = ap (λ q. Apply q a b) i ∙ ap (λ q. Apply p q b) j ∙ ap (Apply p x) k

pick_side : (names : List Text) → AreNames names → (t : Section) (e : E) → Fits names (PickFrom t e) → Determined names e → IsBySide names (PickFrom t e)
pick_side names are t e fits inner (PickFrom u f) r s other hr hs is =
    let all = opened names are t.array u.array t.start u.start (chosen names t e r) (chosen names u f s) fits.0 other.0 fits.1 other.1 refl refl (sym (pick_shown names t e r) ∙ is ∙ pick_shown names u f s) in
    let sides = inner.side f (32 ∷ 37 ∷ 32 ∷ (decimal t.len ++ (93 ∷ r))) (32 ∷ 37 ∷ 32 ∷ (decimal u.len ++ (93 ∷ s))) other.3 refl refl (ap (λ w. tail_of (tail_of (tail_of w))) all.2) in
    let lens = split (decimal t.len) (decimal u.len) (93 ∷ r) (93 ∷ s) (digits_are t.len fits.2).word (digits_are u.len other.2).word refl refl (ap (λ w. tail_of (tail_of (tail_of w))) sides.1) in
    (pick_eq t u e f (same_section t u all.0 all.1 (decimal_injective t.len u.len fits.2 other.2 lens.0)) sides.0, ap tail_of lens.1)
pick_side names are t e fits inner (CellAt d) r s other hr hs is =
    let all = opened names are t.array d.array t.start d.index (chosen names t e r) (93 ∷ s) fits.0 other.0 fits.1 other.1 refl refl (sym (pick_shown names t e r) ∙ is ∙ cell_shown names d s) in
    absurd (omega (arith, ap head_of all.2))
pick_side names are t e fits inner (Literal n) r s other hr hs is = absurd (omega (arith, same_shape names are (PickFrom t e) (Literal n) r s fits other is))
pick_side names are t e fits inner (Apply op x y) r s other hr hs is = absurd (omega (arith, same_shape names are (PickFrom t e) (Apply op x y) r s fits other is, shape_small op (is_call op) refl))

-- a call
call_call : (names : List Text) (op : Op) (a b : E) → is_call op ≡ true → Determined names a → Determined names b → (other : Op) (x y : E) (r s : Text) → Fits names (Apply other x y) → is_call other ≡ true
    → side names (Apply op a b) ++ r ≡ side names (Apply other x y) ++ s → (Apply op a b ≡ Apply other x y) × (r ≡ s)
call_call names op a b h one two other x y r s fits g is =
    let ops = same_op op other (value names a ++ (44 ∷ 32 ∷ (value names b ++ (41 ∷ r)))) (value names x ++ (44 ∷ 32 ∷ (value names y ++ (41 ∷ s)))) (sym (call_shown names op a b r h) ∙ is ∙ call_shown names other x y s g) in
    let firsts = one.value x (44 ∷ 32 ∷ (value names b ++ (41 ∷ r))) (44 ∷ 32 ∷ (value names y ++ (41 ∷ s))) fits.0 refl refl ops.1 in
    let seconds = two.value y (41 ∷ r) (41 ∷ s) fits.1 refl refl (ap (λ w. tail_of (tail_of w)) firsts.1) in
    (apply_eq op other a b x y ops.0 firsts.0 seconds.0, ap tail_of seconds.1)

call_apply : (names : List Text) → AreNames names → (op : Op) (a b : E) → is_call op ≡ true → Fits names (Apply op a b) → Determined names a → Determined names b → (other : Op) (x y : E) (r s : Text) → Fits names (Apply other x y) → (c : Bool) → is_call other ≡ c
    → side names (Apply op a b) ++ r ≡ side names (Apply other x y) ++ s → (Apply op a b ≡ Apply other x y) × (r ≡ s)
call_apply names are op a b h own one two other x y r s fits true g is = call_call names op a b h one two other x y r s fits g is
call_apply names are op a b h own one two other x y r s fits false g is =
    absurd (omega (arith, sym (shape_call op h) ∙ same_shape names are (Apply op a b) (Apply other x y) r s own fits is ∙ shape_infix other g))

call_side : (names : List Text) → AreNames names → (op : Op) (a b : E) → is_call op ≡ true → Fits names (Apply op a b) → Determined names a → Determined names b → IsBySide names (Apply op a b)
call_side names are op a b h own one two (Apply other x y) r s fits hr hs is = call_apply names are op a b h own one two other x y r s fits (is_call other) refl is
call_side names are op a b h own one two (Literal n) r s fits hr hs is = absurd (omega (arith, sym (shape_call op h) ∙ same_shape names are (Apply op a b) (Literal n) r s own fits is))
call_side names are op a b h own one two (CellAt c) r s fits hr hs is = absurd (omega (arith, sym (shape_call op h) ∙ same_shape names are (Apply op a b) (CellAt c) r s own fits is))
call_side names are op a b h own one two (PickFrom t e) r s fits hr hs is = absurd (omega (arith, sym (shape_call op h) ∙ same_shape names are (Apply op a b) (PickFrom t e) r s own fits is))

-- an operation with a sign
infix_shown : (names : List Text) (op : Op) (a b : E) (r : Text) → is_call op ≡ false → value names (Apply op a b) ++ r ≡ side names a ++ (sign op ++ (side names b ++ r))
infix_shown names op a b r h = ap (λ t. t ++ r) (infix_value names op a b h) ∙ infix_text (side names a) (sign op) (side names b) r

-- a side that no sign follows is not one that a sign follows
alone_side : (names : List Text) (a : E) → IsBySide names a → (op : Op) (x y : E) (r s : Text) → is_call op ≡ false → Fits names x → goes r ≡ false → side names a ++ r ≡ side names x ++ (sign op ++ (side names y ++ s)) → ⊥
alone_side names a by op x y r s h fits hr is =
    let front = blank op (side names y ++ s) h in
    let both = by x r (sign op ++ (side names y ++ s)) fits (no_start r hr) (blank_stops (sign op ++ (side names y ++ s)) front) is in
    blank_goes r (ap head_of both.1 ∙ front) hr

-- what has no sign itself is written alike alone and as a side
plain_apply : (names : List Text) (a : E) → is_nested a ≡ false → IsBySide names a → (op : Op) (x y : E) (r s : Text) → Fits names (Apply op x y) → goes r ≡ false → goes s ≡ false → (c : Bool) → is_call op ≡ c
    → value names a ++ r ≡ value names (Apply op x y) ++ s → (a ≡ Apply op x y) × (r ≡ s)
plain_apply names a plain by op x y r s fits hr hs true h is =
    by (Apply op x y) r s fits (no_start r hr) (no_start s hs)
    (ap (λ t. t ++ r) (plain_side names a plain) ∙ is ∙ sym (ap (λ t. t ++ s) (plain_side names (Apply op x y) (called (is_call op) h))))
plain_apply names a plain by op x y r s fits hr hs false h is =
    absurd (alone_side names a by op x y r s h fits.0 hr (ap (λ t. t ++ r) (plain_side names a plain) ∙ is ∙ infix_shown names op x y s h))

plain_value : (names : List Text) (a : E) → is_nested a ≡ false → IsBySide names a → IsByValue names a
plain_value names a plain by (Apply op x y) r s fits hr hs is = plain_apply names a plain by op x y r s fits hr hs (is_call op) refl is
plain_value names a plain by (Literal n) r s fits hr hs is = by (Literal n) r s fits (no_start r hr) (no_start s hs) (ap (λ t. t ++ r) (plain_side names a plain) ∙ is)
plain_value names a plain by (CellAt c) r s fits hr hs is = by (CellAt c) r s fits (no_start r hr) (no_start s hs) (ap (λ t. t ++ r) (plain_side names a plain) ∙ is)
plain_value names a plain by (PickFrom t e) r s fits hr hs is = by (PickFrom t e) r s fits (no_start r hr) (no_start s hs) (ap (λ t. t ++ r) (plain_side names a plain) ∙ is)

-- an operation with a sign, alone
infix_plain : (names : List Text) (op : Op) (a b : E) → is_call op ≡ false → Determined names a → (e : E) → is_nested e ≡ false → (r s : Text) → Fits names e → goes s ≡ false → value names (Apply op a b) ++ r ≡ value names e ++ s → ⊥
infix_plain names op a b h one e plain r s fits hs is =
    let front = blank op (side names b ++ r) h in
    let both = one.side e (sign op ++ (side names b ++ r)) s fits (blank_stops (sign op ++ (side names b ++ r)) front) (no_start s hs)
    (sym (infix_shown names op a b r h) ∙ is ∙ sym (ap (λ t. t ++ s) (plain_side names e plain))) in
    blank_goes s (sym (ap head_of both.1) ∙ front) hs

infix_apply : (names : List Text) (op : Op) (a b : E) → is_call op ≡ false → Determined names a → Determined names b → (other : Op) (x y : E) (r s : Text) → Fits names (Apply other x y) → goes r ≡ false → goes s ≡ false → (c : Bool) → is_call other ≡ c
    → value names (Apply op a b) ++ r ≡ value names (Apply other x y) ++ s → (Apply op a b ≡ Apply other x y) × (r ≡ s)
infix_apply names op a b h one two other x y r s fits hr hs true g is = absurd (infix_plain names op a b h one (Apply other x y) (called (is_call other) g) r s fits hs is)
infix_apply names op a b h one two other x y r s fits hr hs false g is =
    let left = sign op ++ (side names b ++ r) in
    let right = sign other ++ (side names y ++ s) in
    let firsts = one.side x left right fits.0 (blank_stops left (blank op (side names b ++ r) h)) (blank_stops right (blank other (side names y ++ s) g))
    (sym (infix_shown names op a b r h) ∙ is ∙ infix_shown names other x y s g) in
    let ops = same_op op other (side names b ++ r) (side names y ++ s) firsts.1 in
    let seconds = two.side y r s fits.1 (no_start r hr) (no_start s hs) ops.1 in
    (apply_eq op other a b x y ops.0 firsts.0 seconds.0, seconds.1)

infix_by_value : (names : List Text) (op : Op) (a b : E) → is_call op ≡ false → Determined names a → Determined names b → IsByValue names (Apply op a b)
infix_by_value names op a b h one two (Apply other x y) r s fits hr hs is = infix_apply names op a b h one two other x y r s fits hr hs (is_call other) refl is
infix_by_value names op a b h one two (Literal n) r s fits hr hs is = absurd (infix_plain names op a b h one (Literal n) refl r s fits hs is)
infix_by_value names op a b h one two (CellAt c) r s fits hr hs is = absurd (infix_plain names op a b h one (CellAt c) refl r s fits hs is)
infix_by_value names op a b h one two (PickFrom t e) r s fits hr hs is = absurd (infix_plain names op a b h one (PickFrom t e) refl r s fits hs is)

-- an operation with a sign, in brackets
nested_shown : (names : List Text) (op : Op) (a b : E) (r : Text) → is_call op ≡ false → side names (Apply op a b) ++ r ≡ 40 ∷ (value names (Apply op a b) ++ (41 ∷ r))
nested_shown names op a b r h = ap (λ t. t ++ r) (nested_side names (Apply op a b) (not_called (is_call op) h)) ∙ bracket_text (value names (Apply op a b)) r

nested_apply : (names : List Text) → AreNames names → (op : Op) (a b : E) → is_call op ≡ false → Fits names (Apply op a b) → IsByValue names (Apply op a b) → (other : Op) (x y : E) (r s : Text) → Fits names (Apply other x y) → (c : Bool) → is_call other ≡ c
    → side names (Apply op a b) ++ r ≡ side names (Apply other x y) ++ s → (Apply op a b ≡ Apply other x y) × (r ≡ s)
nested_apply names are op a b h own by other x y r s fits true g is =
    absurd (omega (arith, sym (shape_infix op h) ∙ same_shape names are (Apply op a b) (Apply other x y) r s own fits is ∙ shape_call other g))
nested_apply names are op a b h own by other x y r s fits false g is =
    let both = by (Apply other x y) (41 ∷ r) (41 ∷ s) fits refl refl (ap tail_of (sym (nested_shown names op a b r h) ∙ is ∙ nested_shown names other x y s g)) in
    (both.0, ap tail_of both.1)

nested_by_side : (names : List Text) → AreNames names → (op : Op) (a b : E) → is_call op ≡ false → Fits names (Apply op a b) → IsByValue names (Apply op a b) → IsBySide names (Apply op a b)
nested_by_side names are op a b h own by (Apply other x y) r s fits hr hs is = nested_apply names are op a b h own by other x y r s fits (is_call other) refl is
nested_by_side names are op a b h own by (Literal n) r s fits hr hs is = absurd (omega (arith, sym (shape_infix op h) ∙ same_shape names are (Apply op a b) (Literal n) r s own fits is))
nested_by_side names are op a b h own by (CellAt c) r s fits hr hs is = absurd (omega (arith, sym (shape_infix op h) ∙ same_shape names are (Apply op a b) (CellAt c) r s own fits is))
nested_by_side names are op a b h own by (PickFrom t e) r s fits hr hs is = absurd (omega (arith, sym (shape_infix op h) ∙ same_shape names are (Apply op a b) (PickFrom t e) r s own fits is))

of_apply : (names : List Text) → AreNames names → (op : Op) (a b : E) → Fits names (Apply op a b) → Determined names a → Determined names b → (c : Bool) → is_call op ≡ c → Determined names (Apply op a b)
of_apply names are op a b own one two true h =
    let by = call_side names are op a b h own one two in
    record { side = by; value = plain_value names (Apply op a b) (called (is_call op) h) by }
of_apply names are op a b own one two false h =
    let by = infix_by_value names op a b h one two in
    record { side = nested_by_side names are op a b h own by; value = by }

of_plain : (names : List Text) (a : E) → is_nested a ≡ false → IsBySide names a → Determined names a
of_plain names a plain by = record { side = by; value = plain_value names a plain by }

pub determined : (names : List Text) → AreNames names → (a : E) → Fits names a → Determined names a
determined names are (Literal n) fits = of_plain names (Literal n) refl (literal_side names are n fits)
determined names are (CellAt c) fits = of_plain names (CellAt c) refl (cell_side names are c fits)
determined names are (Apply op a b) fits = of_apply names are op a b fits (determined names are a fits.0) (determined names are b fits.1) (is_call op) refl
determined names are (PickFrom t e) fits = of_plain names (PickFrom t e) refl (pick_side names are t e fits (determined names are e fits.3))

pub law : ValueIsDetermined
law names are a b one two is = ((determined names are a one).value b [] [] two refl refl (ap (λ t. t ++ []) is)).0
