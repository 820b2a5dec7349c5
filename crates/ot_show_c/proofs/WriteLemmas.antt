-- In C, a set or a fold is determined as far as it is told.
use Rattle.std.proofs.Common.{◌≡◌, ℕ, ◌<◌, ◌==◌, List, [], ◌∷◌, ◌++◌, length, map, Bool, true, false, not, ◌&&◌, ◌||◌, if◌then◌else◌, refl, sym, ap, ◌∙◌, append_assoc, arith, true≢false}
use Rattle.std.specs.Prelude.{Option, Some, None, codes, decimal, nat_le}
use Rattle.std.proofs.lemmas.Bool.Decides.{nat_tests}
use Rattle.std.proofs.lemmas.List.{append_cancel_left}
use Rattle.ot_model.specs.declared.expr.Cell.{Cell}
use Rattle.ot_model.specs.declared.expr.Op.TheVariants as o
use Rattle.ot_model.specs.declared.fold.Fold.{Fold as Operation}
use Rattle.ot_model.specs.declared.fold.Fold.TheVariants as f
use Rattle.ot_model.specs.declared.stmt.Use.{Use}
use Rattle.ot_model.specs.Signs.{is_called, fold_sign}
use Rattle.ot_model.specs.Tree.{E, CellAt, Apply, S, Set, Fold}
use Rattle.ot_show_print.specs.Shown.{Text, name, cell}
use Rattle.ot_show_print.specs.Laws.{is_name, in_word, all_word, is_digit, AreNames, Fits, fold_as_shown, write_sign, HasSign}
use Rattle.ot_show_print.proofs.WordLemmas.{and_true, tail_of}
use Rattle.ot_show_print.proofs.WriteLemmas.{kind_at, kind_back}
use Rattle.ot_c_names.specs.Names.{is_taken, name_in_c}
use Rattle.ot_show_c.specs.Statements.{pointer, only_folds, c_fold, c_value}
use Rattle.ot_show_c.specs.Laws.{in_identifier, AreIdentifiers, normal_fold}
use Rattle.ot_show_c.proofs.NameLemmas.{name_of, names_law}
use Rattle.ot_show_c.proofs.WordLemmas.{starts, one_cell}
use Rattle.ot_show_c.proofs.ValueLemmas.{determined}
use Rattle.ot_show_c.proofs.ClauseLemmas.{same_pointer}

-- ---- pointers are no arrays

-- a capital in front, and no `_` behind it
abbrev pub is_pointer : Text → Bool
is_pointer [] = false
is_pointer (b ∷ []) = false
is_pointer (b ∷ c ∷ t) = (nat_le 65 b && nat_le b 90) && not (c == 95)

pub pointer_there : (names : List Text) (op : Operation) (c : Cell) (t : Text) → is_pointer (pointer names op c ++ t) ≡ true
pointer_there names f.Plus c t = refl
pointer_there names _ c t = refl

-- names of arrays that differ in C, and from pointers
pub record AreApart (names : List Text) : Type 0 where
  pub are : AreIdentifiers names
  pub array : (i : ℕ) (t : Text) → i < length names → is_pointer (name names i ++ (91 ∷ t)) ≡ false

small_first : (b c : ℕ) → in_word b ≡ true → ((nat_le 65 b && nat_le b 90) && not (c == 95)) ≡ false
small_first b c h = grind (arith, nat_tests)

no_pointer : (w t : Text) → is_name w ≡ true → is_pointer (w ++ (91 ∷ t)) ≡ false
no_pointer [] t h = absurd (true≢false (sym h))
no_pointer (b ∷ []) t h = small_first b 91 (and_true (in_word b) true (and_true (not (is_digit b)) (in_word b && true) h).1).0
no_pointer (b ∷ c ∷ bs) t h = small_first b c (and_true (in_word b) (all_word (c ∷ bs)) (and_true (not (is_digit b)) (all_word (b ∷ c ∷ bs)) h).1).0

no_pointer_in_c : (w t : Text) (b : Bool) → is_taken w ≡ b → is_name w ≡ true → is_pointer (name_in_c w ++ (91 ∷ t)) ≡ false
no_pointer_in_c w t true h is = rw h refl
no_pointer_in_c w t false h is = rw h (no_pointer w t is)

pub apart : (names : List Text) → AreNames names → AreApart (map name_in_c names)
apart names are = record {
  are = names_law names are;
  array = λ i t h.
      let n = name_of names i h in
      ap (λ w. is_pointer (w ++ (91 ∷ t))) n.1 ∙ no_pointer_in_c (name names i) t (is_taken (name names i)) refl (are.each i n.0);
}

-- ---- the operation of a pointer

word_op : Text → Operation
word_op [] = f.Plus
word_op (b ∷ []) = f.Plus
word_op (b ∷ c ∷ t) = if b == 83 then f.Plus else if b == 80 then f.Times else if b == 65 then f.And else if b == 79 then f.Or else if b == 88 then f.Xor else if c == 105 then f.Min else f.Max

op_there : (names : List Text) (op : Operation) (c : Cell) (t : Text) → word_op (pointer names op c ++ t) ≡ op
unfolding word_op
op_there names f.Plus c t = refl
op_there names _ c t = refl

-- two pointers, whatever they reduce by
pub same_pointers : (names : List Text) → AreIdentifiers names → (op other : Operation) (c d : Cell) (t u : Text) → Fits names (CellAt c) → Fits names (CellAt d) → starts t ≡ false → starts u ≡ false
    → pointer names op c ++ t ≡ pointer names other d ++ u → (op ≡ other) × (c ≡ d) × (t ≡ u)
same_pointers names are op other c d t u f g ht hu is =
    let ops : op ≡ other = sym (op_there names op c t) ∙ ap word_op is ∙ op_there names other d u in
    let both = same_pointer names are op c d t u f.0 f.1 g.0 g.1 ht hu (is ∙ ap (λ q. pointer names q d ++ u) (sym ops)) in
    (ops, both.0, both.1)

-- ---- writes, behind the margin, with what follows

-- a set, or a fold into a cell by an operation that has a sign
abbrev plain : List Text → Option Operation → Cell → E → Text → Text
plain names k c e r = name names c.array ++ (91 ∷ (decimal c.index ++ (93 ∷ (write_sign k ++ (c_value names e ++ (59 ∷ 10 ∷ r))))))

-- behind the copy of a cell that is the task's own: what is folded into it, by a function or by a sign
abbrev own_rest : List Text → Bool → Operation → Cell → E → Text → Text
own_rest names true op c e r = 32 ∷ 61 ∷ 32 ∷ (fold_sign op ++ (pointer names op c ++ (91 ∷ 48 ∷ 93 ∷ 44 ∷ 32 ∷ (c_value names e ++ (41 ∷ 59 ∷ 10 ∷ r)))))
own_rest names false op c e r = fold_sign op ++ (c_value names e ++ (59 ∷ 10 ∷ r))

abbrev own_fold : List Text → Operation → Cell → E → Text → Text
own_fold names op c e r = pointer names op c ++ (91 ∷ 48 ∷ 93 ∷ own_rest names (is_called op) op c e r)

abbrev as_write : Option Operation → Cell → E → S
as_write None c e = Set c e
as_write (Some op) c e = Fold op c e

-- what a write is told as, with its text
pub data Write (names : List Text) (told : S) (t : Text → Text) : Type 0 where
  of_plain : (k : Option Operation) (c : Cell) (e : E) → HasSign k → Fits names (CellAt c) → Fits names e → told ≡ as_write k c e → ((r : Text) → t r ≡ plain names k c e r) → Write names told t
  of_own : (op : Operation) (c : Cell) (e : E) → Fits names (CellAt c) → Fits names e → told ≡ Fold op c e → ((r : Text) → t r ≡ own_fold names op c e r) → Write names told t

pub set_write : (names : List Text) (c : Cell) (e : E) → Fits names (CellAt c) → Fits names e → Write names (Set c e) (λ r. (cell names c ++ codes " = " ++ c_value names e ++ codes ";\n") ++ r)
set_write names c e f g = of_plain None c e tt f g refl (λ r. simp append_assoc refl)

as_signed : (op : Operation) (c : Cell) (e : E) → is_called op ≡ false → fold_as_shown op c e ≡ Fold op c e
as_signed f.Min c e h = absurd (true≢false h)
as_signed f.Max c e h = absurd (true≢false h)
as_signed _ c e h = refl

-- an operation with a sign
signed : (names : List Text) (own : List Use) (op : Operation) (c : Cell) (e : E) → is_called op ≡ false → Fits names (CellAt c) → Fits names e → (b : Bool) → only_folds own op c ≡ b → Write names (normal_fold own op c e) (λ r. c_fold names own op c e ++ r)
signed names own op c e sign fc fe true h = of_own op c e fc fe (rw h refl) (λ r. rw (sign, h) (simp append_assoc refl))
signed names own op c e sign fc fe false h =
    of_plain (Some op) c e sign fc fe (rw h (as_signed op c e sign)) (λ r. rw (sign, h) (simp append_assoc refl))

-- an operation that is a function
called : (names : List Text) (own : List Use) (op : Operation) (c : Cell) (e : E) → is_called op ≡ true → Fits names (CellAt c) → Fits names e → (b : Bool) → only_folds own op c ≡ b → Write names (normal_fold own op c e) (λ r. c_fold names own op c e ++ r)
called names own op c e sign fc fe true h =
    of_own op c e fc fe (rw h refl) (λ r. rw (sign, h) (simp append_assoc refl))
called names own f.Min c e sign fc fe false h = of_plain None c (Apply o.Min (CellAt c) e) tt fc (fc, fe) (rw h refl) (λ r. rw h (simp append_assoc refl))
called names own f.Max c e sign fc fe false h = of_plain None c (Apply o.Max (CellAt c) e) tt fc (fc, fe) (rw h refl) (λ r. rw h (simp append_assoc refl))
called names own _ c e sign fc fe false h = absurd (true≢false (sym sign))

pub fold_write : (names : List Text) (own : List Use) (op : Operation) (c : Cell) (e : E) → Fits names (CellAt c) → Fits names e → Write names (normal_fold own op c e) (λ r. c_fold names own op c e ++ r)
fold_write names own op c e fc fe = by_sign (is_called op) refl
  where
    by_sign : (b : Bool) → is_called op ≡ b → Write names (normal_fold own op c e) (λ r. c_fold names own op c e ++ r)
    by_sign true h = called names own op c e h fc fe (only_folds own op c) refl
    by_sign false h = signed names own op c e h fc fe (only_folds own op c) refl

-- ---- two writes

pub same_value : (names : List Text) → AreIdentifiers names → (a b : E) (r s : Text) → Fits names a → Fits names b → (k l : ℕ) → (in_identifier k || k == 32) ≡ false → (in_identifier l || l == 32) ≡ false → c_value names a ++ (k ∷ r) ≡ c_value names b ++ (l ∷ s) → (a ≡ b) × (k ∷ r ≡ l ∷ s)
same_value names are a b r s f g k l hk hl is = (determined names are a f).value b (k ∷ r) (l ∷ s) g hk hl is

same_plain : (names : List Text) → AreIdentifiers names → (k l : Option Operation) (c d : Cell) (a b : E) (r s : Text) → HasSign k → HasSign l → Fits names (CellAt c) → Fits names (CellAt d) → Fits names a → Fits names b
    → plain names k c a r ≡ plain names l d b s → (as_write k c a ≡ as_write l d b) × (r ≡ s)
same_plain names are k l c d a b r s hk hl fc fd fa fb is =
    let x = c_value names a ++ (59 ∷ 10 ∷ r) in
    let y = c_value names b ++ (59 ∷ 10 ∷ s) in
    let cells = one_cell names are c d (write_sign k ++ x) (write_sign l ++ y) fc.0 fc.1 fd.0 fd.1 is in
    let kinds : k ≡ l = sym (kind_back k x hk) ∙ ap kind_at cells.1 ∙ kind_back l y hl in
    let values = same_value names are a b (10 ∷ r) (10 ∷ s) fa fb 59 59 refl refl (append_cancel_left (write_sign k) x y (cells.1 ∙ ap (λ q. write_sign q ++ y) (sym kinds))) in
    (ap (λ q. as_write q c a) kinds ∙ ap (λ z. as_write l z a) cells.0 ∙ ap (as_write l d) values.0, ap (λ t. tail_of (tail_of t)) values.1)

same_rest : (names : List Text) → AreIdentifiers names → (called : Bool) (op : Operation) (c : Cell) (a b : E) (r s : Text) → Fits names a → Fits names b → own_rest names called op c a r ≡ own_rest names called op c b s → (a ≡ b) × (r ≡ s)
same_rest names are true op c a b r s fa fb is =
    let x = c_value names a ++ (41 ∷ 59 ∷ 10 ∷ r) in
    let y = c_value names b ++ (41 ∷ 59 ∷ 10 ∷ s) in
    let p = pointer names op c in
    let values = same_value names are a b (59 ∷ 10 ∷ r) (59 ∷ 10 ∷ s) fa fb 41 41 refl refl
    (append_cancel_left (codes "[0], ") x y (append_cancel_left p (codes "[0], " ++ x) (codes "[0], " ++ y) (append_cancel_left (fold_sign op) (p ++ (codes "[0], " ++ x)) (p ++ (codes "[0], " ++ y)) (append_cancel_left (codes " = ") (fold_sign op ++ (p ++ (codes "[0], " ++ x))) (fold_sign op ++ (p ++ (codes "[0], " ++ y))) is)))) in
    (values.0, ap (λ t. tail_of (tail_of (tail_of t))) values.1)
same_rest names are false op c a b r s fa fb is =
    let values = same_value names are a b (10 ∷ r) (10 ∷ s) fa fb 59 59 refl refl (append_cancel_left (fold_sign op) (c_value names a ++ (59 ∷ 10 ∷ r)) (c_value names b ++ (59 ∷ 10 ∷ s)) is) in
    (values.0, ap (λ t. tail_of (tail_of t)) values.1)

same_own : (names : List Text) → AreIdentifiers names → (op other : Operation) (c d : Cell) (a b : E) (r s : Text) → Fits names (CellAt c) → Fits names (CellAt d) → Fits names a → Fits names b
    → own_fold names op c a r ≡ own_fold names other d b s → (Fold op c a ≡ Fold other d b) × (r ≡ s)
same_own names are op other c d a b r s fc fd fa fb is =
    let rest : Operation → Cell → Text = λ q z. own_rest names (is_called q) q z b s in
    let one = same_pointers names are op other c d (91 ∷ 48 ∷ 93 ∷ own_rest names (is_called op) op c a r) (91 ∷ 48 ∷ 93 ∷ rest other d) fc fd refl refl is in
    let values = same_rest names are (is_called op) op c a b r s fa fb (ap (λ t. tail_of (tail_of (tail_of t))) one.2 ∙ ap (λ q. rest q d) (sym one.0) ∙ ap (rest op) (sym one.1)) in
    (cc (one.0, one.1, values.0), values.1)

-- a write into an array is none into a pointer
plain_pointer : (names : List Text) → AreApart names → (k : Option Operation) (c : Cell) (e : E) (r : Text) (op : Operation) (d : Cell) (t : Text) → Fits names (CellAt c) → plain names k c e r ≡ pointer names op d ++ t → ⊥
plain_pointer names are k c e r op d t f is =
    true≢false (sym (pointer_there names op d t) ∙ sym (ap is_pointer is) ∙ are.array c.array (decimal c.index ++ (93 ∷ (write_sign k ++ (c_value names e ++ (59 ∷ 10 ∷ r))))) f.0)

pub same_write : (names : List Text) → AreApart names → (p q : S) (t u : Text → Text) (r s : Text) → Write names p t → Write names q u → t r ≡ u s → (p ≡ q) × (r ≡ s)
same_write names are p q t u r s (of_plain k c a hk fc fa ip it) (of_plain l d b hl fd fb iq iu) is =
    let both = same_plain names are.are k l c d a b r s hk hl fc fd fa fb (sym (it r) ∙ is ∙ iu s) in
    (ip ∙ both.0 ∙ sym iq, both.1)
same_write names are p q t u r s (of_own op c a fc fa ip it) (of_own other d b fd fb iq iu) is =
    let both = same_own names are.are op other c d a b r s fc fd fa fb (sym (it r) ∙ is ∙ iu s) in
    (ip ∙ both.0 ∙ sym iq, both.1)
same_write names are p q t u r s (of_plain k c a hk fc fa ip it) (of_own other d b fd fb iq iu) is = absurd (plain_pointer names are k c a r other d _ fc (sym (it r) ∙ is ∙ iu s))
same_write names are p q t u r s (of_own other d b fd fb ip it) (of_plain k c a hk fc fa iq iu) is = absurd (plain_pointer names are k c a s other d _ fc (sym (iu s) ∙ sym is ∙ it r))
