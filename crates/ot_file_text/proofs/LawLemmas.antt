-- The laws, by induction on the text.
use Rattle.std.proofs.Common.{◌≡◌, ◌⊎◌, ◌==◌, ◌&&◌, ◌||◌, ◌≤◌, ◌++◌, ℕ, zero, suc, Bool, true, false, cond, List, [], ◌∷◌, length, get_or, refl, sym, true≢false, ap, ◌∙◌, inl, inr, arith}
use Rattle.std.proofs.lemmas.List.{length-append}
use Rattle.ot_file_text.specs.Places.{is_blank, place_after}
use Rattle.ot_file_text.specs.Comments.{begins_comment, part_after, shown_in, blanked_in}
use Rattle.ot_file_text.specs.OneLine.{begins_word, word_after, of_blank, in_string, on_line, line_in}
use Rattle.ot_file_text.specs.Laws.{HasNoSlash, HasNoEnd, HasNoBlank}
use Rattle.ot_file_text.specs.declared.place.Place.{Place}
use Rattle.ot_file_text.specs.declared.place.Place.TheVariants.{Outside, Quoted, Escaped}
use Rattle.ot_file_text.specs.declared.comment.Part.{Part}
use Rattle.ot_file_text.specs.declared.comment.Part.TheVariants.{Json, Comment}

pub length-blanked_in : (part : Part) (text : List ℕ) → length (blanked_in part text) ≡ length text
length-blanked_in part [] = refl
length-blanked_in part (b ∷ behind) = ap suc (length-blanked_in (part_after part b behind) behind)

shown_or : (part : Part) (b : ℕ) → (shown_in part b ≡ b) ⊎ (shown_in part b ≡ 32)
shown_or (Json place) b = inl refl
shown_or Comment b = inr refl

pub blanked_in-at : (part : Part) (text : List ℕ) (i : ℕ) → (get_or (blanked_in part text) i 0 ≡ get_or text i 0) ⊎ (get_or (blanked_in part text) i 0 ≡ 32)
blanked_in-at part [] i = inl refl
blanked_in-at part (b ∷ behind) zero = shown_or (part_after part b behind) b
blanked_in-at part (b ∷ behind) (suc i) = blanked_in-at (part_after part b behind) behind i

no_comment : (place : Place) (b : ℕ) (behind : List ℕ) → (b == 47) ≡ false → begins_comment place b behind ≡ false
no_comment Outside b [] h = refl
no_comment Outside b (c ∷ behind) h = ap (λ t. t && c == 47) h
no_comment Quoted b behind h = refl
no_comment Escaped b behind h = refl

pub blanked_in-clean : (place : Place) (text : List ℕ) → HasNoSlash text → blanked_in (Json place) text ≡ text
blanked_in-clean place [] h = refl
blanked_in-clean place (b ∷ behind) h =
    ap (λ t. shown_in (cond t Comment (Json (place_after place b))) b ∷ blanked_in (cond t Comment (Json (place_after place b))) behind) (no_comment place b behind h.0)
    ∙ ap (λ rest. b ∷ rest) (blanked_in-clean (place_after place b) behind h.1)

-- ---- a piece on one line

append_none : (xs ys : List ℕ) → HasNoEnd xs → HasNoEnd ys → HasNoEnd (xs ++ ys)
append_none [] ys p q = q
append_none (x ∷ xs) ys p q = (p.0, append_none xs ys p.1 q)

blank_none : (stays : Bool) → HasNoEnd (cond stays (32 ∷ []) [])
blank_none true = (refl, tt)
blank_none false = tt

third : (p q r s : Bool) → (p || q || r || s) ≡ false → r ≡ false
third true q r s h = absurd (true≢false h)
third false true r s h = absurd (true≢false h)
third false false true s h = absurd (true≢false h)
third false false false s h = refl

-- an LF is white space
no_end : (b : ℕ) → is_blank b ≡ false → (b == 10) ≡ false
no_end b h = third (b == 32) (b == 9) (b == 10) (b == 13) h

outside_none : (blank word : Bool) (b : ℕ) (behind : List ℕ) → blank ≡ is_blank b → HasNoEnd (cond blank (of_blank word behind) (b ∷ []))
outside_none true word b behind is = blank_none (word && begins_word behind)
outside_none false word b behind is = (no_end b (sym is), tt)

string_none : (b : ℕ) (ends : Bool) → ends ≡ (b == 10) → (cond ends 9 b == 10) ≡ false
string_none b true is = refl
string_none b false is = sym is

on_line_none : (place : Place) (word : Bool) (b : ℕ) (behind : List ℕ) → HasNoEnd (on_line place word b behind)
on_line_none Outside word b behind = outside_none (is_blank b) word b behind refl
on_line_none Quoted word b behind = (string_none b (b == 10) refl, tt)
on_line_none Escaped word b behind = (string_none b (b == 10) refl, tt)

pub line_in-no_end : (place : Place) (word : Bool) (piece : List ℕ) → HasNoEnd (line_in place word piece)
line_in-no_end place word [] = tt
line_in-no_end place word (b ∷ behind) =
    append_none (on_line place word b behind) (line_in (place_after place b) (word_after place word b) behind) (on_line_none place word b behind)
    (line_in-no_end (place_after place b) (word_after place word b) behind)

one_or_none : (stays : Bool) → length {A = ℕ} (cond stays (32 ∷ []) []) ≤ 1
one_or_none true = omega arith
one_or_none false = omega arith

outside_one : (blank word : Bool) (b : ℕ) (behind : List ℕ) → length (cond blank (of_blank word behind) (b ∷ [])) ≤ 1
outside_one true word b behind = one_or_none (word && begins_word behind)
outside_one false word b behind = omega arith

on_line_one : (place : Place) (word : Bool) (b : ℕ) (behind : List ℕ) → length (on_line place word b behind) ≤ 1
on_line_one Outside word b behind = outside_one (is_blank b) word b behind
on_line_one Quoted word b behind = omega arith
on_line_one Escaped word b behind = omega arith

pub line_in-no_longer : (place : Place) (word : Bool) (piece : List ℕ) → length (line_in place word piece) ≤ length piece
line_in-no_longer place word [] = omega arith
line_in-no_longer place word (b ∷ behind) =
    let rest = line_in (place_after place b) (word_after place word b) behind in
    omega (arith, length-append (on_line place word b behind) rest, on_line_one place word b behind, line_in-no_longer (place_after place b) (word_after place word b) behind)

string_same : (b : ℕ) → (b == 10) ≡ false → in_string b ≡ b
string_same b h = ap (λ t. cond t 9 b) h

on_line_same : (place : Place) (word : Bool) (b : ℕ) (behind : List ℕ) → is_blank b ≡ false → on_line place word b behind ≡ b ∷ []
on_line_same Outside word b behind h = ap (λ t. cond t (of_blank word behind) (b ∷ [])) h
on_line_same Quoted word b behind h = ap (λ c. c ∷ []) (string_same b (no_end b h))
on_line_same Escaped word b behind h = ap (λ c. c ∷ []) (string_same b (no_end b h))

pub line_in-clean : (place : Place) (word : Bool) (piece : List ℕ) → HasNoBlank piece → line_in place word piece ≡ piece
line_in-clean place word [] h = refl
line_in-clean place word (b ∷ behind) h =
    ap (λ t. t ++ line_in (place_after place b) (word_after place word b) behind) (on_line_same place word b behind h.0)
    ∙ ap (λ rest. b ∷ rest) (line_in-clean (place_after place b) (word_after place word b) behind h.1)
