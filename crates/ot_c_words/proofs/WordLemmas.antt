-- Words behind others.
use Rattle.std.proofs.Common.{◌≡◌, ℕ, suc, ◌+◌, ◌<◌, ◌≤◌, Bool, true, false, not, List, [], ◌∷◌, ◌++◌, length, map, get_or, Some, None, refl, sym, ap, ◌∙◌, subst, arith}
use Rattle.std.specs.Prelude.{String, string_bytes, nat_lt, position, if◌then◌else◌}
use Rattle.std.specs.List.{prefix_len, position_or_len, list_any}
use Rattle.std.specs.String.{string_eq}
use Rattle.std.specs.List.{IsDistinct}
use Rattle.indexmap.specs.IndexSet.{insert_key}
use Rattle.std.specs.Str.{bytes_eq}
use Rattle.std.proofs.lemmas.Bool.Decides.{nat_tests}
use Rattle.std.proofs.lemmas.Option.{cond_some}
use Rattle.std.proofs.lemmas.Slice.Eq.{bytes_eq-Decides}
use Rattle.std.proofs.lemmas.List.{map-append, length-append, length-map, get_or_append_left}
use Rattle.ot_c_words.specs.Tables.{Text}
use Rattle.ot_c_words.specs.Names.{known_of}
use Rattle.ot_c_words.specs.declared.word.Name.{Name}
use Rattle.ot_c_words.specs.declared.word.Name.TheVariants as n
use Rattle.ot_c_words.specs.declared.word.Word.{Word}
use Rattle.ot_c_words.specs.declared.word.Word.TheVariants as w
use Rattle.ot_c_words.specs.Words.{Named, word_of_name, name_spoken, word_spoken, texts, all_spoken, IsBelow, AreBelow, MeanNothing, AreNames, Continues}

-- a word behind others, spoken
pub spoken_push : {Z : Type 0} (names : List (String Z)) (ws : List Word) (w : Word) → all_spoken names (ws ++ w ∷ []) ≡ all_spoken names ws ++ word_spoken (texts names) w ∷ []
spoken_push names ws w = map-append (word_spoken (texts names)) ws (w ∷ [])

pub below_push : (count : ℕ) (ws : List Word) (w : Word) → AreBelow count ws → IsBelow count w → AreBelow count (ws ++ w ∷ [])
below_push count [] w h one = (one, tt)
below_push count (v ∷ ws) w h one = (h.0, below_push count ws w h.1 one)

word_below_more : (count more : ℕ) (w : Word) → count ≤ more → IsBelow count w → IsBelow more w
word_below_more count more (w.Number v t) up h = tt
word_below_more count more (w.Name (n.Known k)) up h = tt
word_below_more count more (w.Name (n.Other i)) up h = omega arith
word_below_more count more w.Text up h = tt
word_below_more count more (w.Letter b) up h = tt
word_below_more count more (w.Mark m) up h = tt
word_below_more count more w.Include up h = tt
word_below_more count more w.Define up h = tt
word_below_more count more w.Pragma up h = tt
word_below_more count more w.End up h = tt

pub below_more : (count more : ℕ) (ws : List Word) → count ≤ more → AreBelow count ws → AreBelow more ws
below_more count more [] up h = tt
below_more count more (w ∷ ws) up h = (word_below_more count more w up h.0, below_more count more ws up h.1)

-- names behind those that a word has change nothing
word_spoken_more : (ts us : List Text) (w : Word) → IsBelow (length ts) w → word_spoken (ts ++ us) w ≡ word_spoken ts w
word_spoken_more ts us (w.Number v t) h = refl
word_spoken_more ts us (w.Name (n.Known k)) h = refl
word_spoken_more ts us (w.Name (n.Other i)) h = ap Named (get_or_append_left ts us [] i h)
word_spoken_more ts us w.Text h = refl
word_spoken_more ts us (w.Letter b) h = refl
word_spoken_more ts us (w.Mark m) h = refl
word_spoken_more ts us w.Include h = refl
word_spoken_more ts us w.Define h = refl
word_spoken_more ts us w.Pragma h = refl
word_spoken_more ts us w.End h = refl

words_spoken_more : (ts us : List Text) (ws : List Word) → AreBelow (length ts) ws → map (word_spoken (ts ++ us)) ws ≡ map (word_spoken ts) ws
words_spoken_more ts us [] h = refl
words_spoken_more ts us (w ∷ ws) h = cc (word_spoken_more ts us w h.0, words_spoken_more ts us ws h.1)

-- ---- names behind others

texts_append : {Z : Type 0} (old more : List (String Z)) → texts (old ++ more) ≡ texts old ++ texts more
texts_append old more = map-append string_bytes old more

-- names behind others change no word
pub spoken_further : {Z : Type 0} (old new : List (String Z)) (ws : List Word) → Continues old new → AreBelow (length old) ws → all_spoken new ws ≡ all_spoken old ws
spoken_further old new ws further h =
    let low : AreBelow (length (texts old)) ws = subst (λ (n : ℕ). AreBelow n ws) (sym (length-map old string_bytes)) h in
    ap (λ ns. all_spoken ns ws) further.1 ∙ ap (λ (ts : List Text). map (word_spoken ts) ws) (texts_append old further.0) ∙ words_spoken_more (texts old) (texts further.0) ws low

pub below_further : {Z : Type 0} (old new : List (String Z)) (ws : List Word) → Continues old new → AreBelow (length old) ws → AreBelow (length new) ws
below_further old new ws further h =
    let longer : length new ≡ length old + length further.0 = ap length further.1 ∙ length-append old further.0 in
    below_more (length old) (length new) ws (omega (arith, longer)) h

-- the name that is found is the one that was looked for
found_by : {Z : Type 0} (t : Text) (k : String Z) (ks : List (String Z)) (n : ℕ) (b : Bool) → bytes_eq t (string_bytes k) ≡ b → (n < length ks → get_or (texts ks) n [] ≡ t)
    → (if not b then 1 + n else 0) < suc (length ks) → get_or (string_bytes k ∷ texts ks) (if not b then 1 + n else 0) [] ≡ t
found_by t k ks n true is rest low = sym ((bytes_eq-Decides t (string_bytes k)).0 is)
found_by t k ks n false is rest low =
    let next : 1 + n ≡ suc n = omega arith in
    ap (λ (i : ℕ). get_or (string_bytes k ∷ texts ks) i []) next ∙ rest (omega arith)

found_at : {Z : Type 0} (t : Text) (names : List (String Z)) → prefix_len (λ k. not (bytes_eq t (string_bytes k))) names < length names → get_or (texts names) (prefix_len (λ k. not (bytes_eq t (string_bytes k))) names) [] ≡ t
found_at t [] h = absurd (omega arith)
found_at t (k ∷ ks) h = found_by t k ks (prefix_len (λ x. not (bytes_eq t (string_bytes x))) ks) (bytes_eq t (string_bytes k)) refl (λ low. found_at t ks low) h

pub found_name : {Z : Type 0} (t : Text) (names : List (String Z)) (i : ℕ) → Some i ≡ position (λ k. bytes_eq t (string_bytes k)) names → get_or (texts names) i [] ≡ t
found_name t names i is =
    let parts = cond_some (nat_lt (position_or_len (λ k. bytes_eq t (string_bytes k)) names) (length names)) (position_or_len (λ k. bytes_eq t (string_bytes k)) names) i (sym is) in
    ap (λ (n : ℕ). get_or (texts names) n []) (sym parts.1) ∙ found_at t names (below parts.0)
  where
    below : {m n : ℕ} → nat_lt m n ≡ true → m < n
    below {m} {n} h = grind (arith, nat_tests)

-- a name put behind words
pub name_put : {Z : Type 0} (old new last : List (String Z)) (ws vs : List Word) (n : Name) (t : Text) → Continues old new → AreBelow (length old) ws → name_spoken (texts new) n ≡ word_of_name t → last ≡ new
    → vs ≡ ws ++ w.Name n ∷ [] → all_spoken last vs ≡ all_spoken old ws ++ word_of_name t ∷ []
name_put old new last ws vs n t further low is same put =
    ap (λ ns. all_spoken ns vs) same ∙ ap (λ us. all_spoken new us) put ∙ spoken_push new ws (w.Name n) ∙ cc (spoken_further old new ws further low)

pub name_put_below : {Z : Type 0} (old new last : List (String Z)) (ws vs : List Word) (n : Name) → Continues old new → AreBelow (length old) ws → IsBelow (length new) (w.Name n) → last ≡ new
    → vs ≡ ws ++ w.Name n ∷ [] → AreBelow (length last) vs
name_put_below old new last ws vs n further low one same put =
    let both : AreBelow (length new) (ws ++ w.Name n ∷ []) = below_push (length new) ws (w.Name n) (below_further old new ws further low) one in
    subst (λ us. AreBelow (length last) us) (sym put) (subst (λ ns. AreBelow (length ns) (ws ++ w.Name n ∷ [])) (sym same) both)

-- ---- names that differ

pub names_same : {Z : Type 0} (old new : List (String Z)) → new ≡ old → AreNames old → AreNames new
names_same old new same h = subst (λ ns. AreNames ns) (sym same) h

free_push : (ts : List Text) (t : Text) → MeanNothing ts → known_of t ≡ None → MeanNothing (ts ++ t ∷ [])
free_push [] t h free = (free, tt)
free_push (u ∷ ts) t h free = (h.0, free_push ts t h.1 free)

free_put : {Z : Type 0} (b : Bool) (names : List (String Z)) (name : String Z) → MeanNothing (texts names) → known_of (string_bytes name) ≡ None → MeanNothing (texts (if b then names else names ++ name ∷ []))
free_put true names name h free = h
free_put false names name h free = subst (λ (ts : List Text). MeanNothing ts) (sym (texts_append names (name ∷ []))) (free_push (texts names) (string_bytes name) h free)

-- a name put among others
pub names_put : {Z : Type 0} (old new : List (String Z)) (name : String Z) (t : Text) → AreNames old → known_of t ≡ None → string_bytes name ≡ t → new ≡ insert_key string_eq old name → IsDistinct string_eq new → AreNames new
names_put old new name t h free is put differ =
    record { differ = differ; free = subst (λ ns. MeanNothing (texts ns)) (sym put) (free_put (list_any (string_eq name) old) old name h.free (ap known_of is ∙ free)) }
