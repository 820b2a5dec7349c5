-- Arrays' names in C.
use Rattle.std.proofs.Common.{◌≡◌, ℕ, zero, suc, ◌<◌, List, [], ◌∷◌, length, map, Bool, true, false, not, refl, sym, ap, ◌∙◌, arith, true≢false}
use Rattle.ot_show_print.specs.Shown.{Text, name}
use Rattle.ot_show_print.specs.Laws.{is_digit, in_word, all_word, is_name}
use Rattle.ot_show_print.proofs.WordLemmas.{and_true, tail_of}
use Rattle.ot_show_print.proofs.ValueLemmas.{name_word}
use Rattle.ot_c_names.specs.Names.{is_taken, name_in_c}
use Rattle.ot_show_c.specs.Laws.{in_identifier, all_identifier, is_identifier, NamesStayApart}

identifier_word : (b : ℕ) → in_word b ≡ true → in_identifier b ≡ true
identifier_word b h = rw h refl

pub all_words : (w : Text) → all_word w ≡ true → all_identifier w ≡ true
all_words [] h = refl
all_words (b ∷ bs) h =
    let both = and_true (in_word b) (all_word bs) h in
    rw (identifier_word b both.0) (all_words bs both.1)

identifier_name : (w : Text) → is_name w ≡ true → is_identifier w ≡ true
identifier_name [] h = h
identifier_name (b ∷ bs) h =
    let both = and_true (not (is_digit b)) (all_word (b ∷ bs)) h in
    rw both.0 (all_words (b ∷ bs) both.1)

-- behind `A_`
made_up : (w : Text) → is_taken w ≡ true → name_in_c w ≡ 65 ∷ 95 ∷ w
made_up w h = rw h refl

own : (w : Text) → is_taken w ≡ false → name_in_c w ≡ w
own w h = rw h refl

pub is_one : (w : Text) (b : Bool) → is_taken w ≡ b → is_name w ≡ true → is_identifier (name_in_c w) ≡ true
is_one w true h is = ap is_identifier (made_up w h) ∙ all_words w (name_word w is)
is_one w false h is = ap is_identifier (own w h) ∙ identifier_name w is

is_free : (w : Text) (b : Bool) → is_taken w ≡ b → is_taken (name_in_c w) ≡ false
is_free w true h = ap is_taken (made_up w h)
is_free w false h = ap is_taken (own w h) ∙ h

no_capital : (v w : Text) → 65 ∷ 95 ∷ v ≡ w → is_name w ≡ true → ⊥
no_capital v w e h = true≢false (sym h ∙ sym (ap is_name e))

pub same_name : (v w : Text) (b c : Bool) → is_taken v ≡ b → is_taken w ≡ c → is_name v ≡ true → is_name w ≡ true → name_in_c v ≡ name_in_c w → v ≡ w
same_name v w true true h k p q e = ap (λ t. tail_of (tail_of t)) (sym (made_up v h) ∙ e ∙ made_up w k)
same_name v w true false h k p q e = absurd (no_capital v w (sym (made_up v h) ∙ e ∙ own w k) q)
same_name v w false true h k p q e = absurd (no_capital w v (sym (made_up w k) ∙ sym e ∙ own v h) p)
same_name v w false false h k p q e = sym (own v h) ∙ e ∙ own w k

pub name_of : (names : List Text) (i : ℕ) → i < length (map name_in_c names) → (i < length names) × (name (map name_in_c names) i ≡ name_in_c (name names i))
name_of [] i h = absurd (omega (arith, h))
name_of (w ∷ ws) zero h = (omega arith, refl)
name_of (w ∷ ws) (suc i) h =
    let rest = name_of ws i (omega (arith, h)) in
    (omega (arith, rest.0), rest.1)

pub names_law : NamesStayApart
names_law names are = record {
  each = λ i h. let n = name_of names i h in ap is_identifier n.1 ∙ is_one (name names i) (is_taken (name names i)) refl (are.each i n.0);
  free = λ i h. let n = name_of names i h in ap is_taken n.1 ∙ is_free (name names i) (is_taken (name names i)) refl;
  differ = λ i j h k e.
      let n = name_of names i h in
      let m = name_of names j k in
      are.differ i j n.0 m.0 (same_name (name names i) (name names j) (is_taken (name names i)) (is_taken (name names j)) refl refl (are.each i n.0) (are.each j m.0) (sym n.1 ∙ e ∙ m.1));
}
