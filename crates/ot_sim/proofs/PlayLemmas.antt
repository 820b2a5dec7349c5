-- The world that begins, and the replies that are told.
use Rattle.std.proofs.Common.{◌≡◌, ℕ, zero, suc, ◌+◌, ◌<◌, List, [], ◌∷◌, ◌++◌, map, length, drop, get_or, inl, inr, refl, sym, ap, ◌∙◌, arith, append_assoc, length-append, String}
use Rattle.std.specs.Prelude.{codes, string_bytes}
use Rattle.std.specs.declared.alloc.Global.{Global}
use Rattle.std.proofs.lemmas.List.{length-map, at_drop_more, get_or_append_left, get_or-append-add}
use Rattle.std.proofs.lemmas.Bool.Decides.{leb_tells}
use Rattle.ot_book.specs.Answers.{Told, text_of as reply_text}
use Rattle.ot_core.specs.Scenes.{Scene}
use Rattle.ot_sim.specs.Playing.{reply_lines, replies_at, count_at, news}
use Rattle.ot_sim.specs.Running.{counts_at}

-- a text so far, and one more reply of the rest
pub reply-on : (name text : List ℕ) (r : ℕ × Told) (rs : List (ℕ × Told)) (one all : List ℕ) →
    text ++ reply_lines name (r ∷ rs) ≡ all → one ≡ name ++ codes " " ++ reply_text r.0 r.1 ++ codes "\n" → (text ++ one) ++ reply_lines name rs ≡ all
reply-on name text r rs one all so_far is =
    append_assoc text one (reply_lines name rs) ∙ ap (λ o. text ++ (o ++ reply_lines name rs)) is ∙ so_far

-- ---- the counts of all tenants

pub length-counts : (s : Scene) (n : ℕ) → length (counts_at s n) ≡ n
length-counts s zero = refl
length-counts s (suc n) = length-append (counts_at s n) (count_at s n ∷ []) ∙ omega (arith, length-counts s n)

-- ---- what is written

pub counts-lookup : (s : Scene) (n t : ℕ) → t < n → get_or (counts_at s n) t 0 ≡ count_at s t
counts-lookup s zero t within = absurd (omega (arith, within))
counts-lookup s (suc m) t within = elim (leb_tells m t) [
  | inr (test, below) ↦
      get_or_append_left (counts_at s m) (count_at s m ∷ []) 0 t (omega (arith, below, length-counts s m)) ∙ counts-lookup s m t below
  | inl (test, above) ↦
      let is : t ≡ m = omega (arith, above, within) in
      let at : t ≡ length (counts_at s m) + 0 = omega (arith, is, length-counts s m) in
      ap (λ i. get_or (counts_at s m ++ count_at s m ∷ []) i 0) at ∙ get_or-append-add (counts_at s m) (count_at s m ∷ []) 0 0 ∙ ap (count_at s) (sym is)
]

-- ---- the news of one more tenant

name-at : (items : List (String Global)) (t : ℕ) (item : String Global) → t < length items → item ≡ get_or items t item → string_bytes item ≡ get_or (map string_bytes items) t []
name-at [] t item within is = absurd (omega (arith, within))
name-at (x ∷ xs) zero item within is = ap string_bytes is
name-at (x ∷ xs) (suc t) item within is = name-at xs t item (omega (arith, within)) is

pub news-on : (items : List (String Global)) (t : ℕ) (item : String Global) (old new : Scene) (text all name : List ℕ) (given : ℕ) →
    t < length items → item ≡ get_or items t item → name ≡ string_bytes item → given ≡ count_at old t →
    text ++ news (drop t (map string_bytes items)) t old new ≡ all →
    (text ++ reply_lines name (drop given (replies_at new t))) ++ news (drop (t + 1) (map string_bytes items)) (t + 1) old new ≡ all
news-on items t item old new text all name given within is named count so_far =
    let names : List (List ℕ) = map string_bytes items in
    let inside : t < length names = omega (arith, within, length-map items string_bytes) in
    let first : List ℕ = get_or names t [] in
    let front : drop t names ≡ first ∷ drop (t + 1) names = at_drop_more (λ l. l) names t [] inside in
    let one : reply_lines name (drop given (replies_at new t)) ≡ reply_lines first (drop (count_at old t) (replies_at new t)) =
    ap (λ n. reply_lines n (drop given (replies_at new t))) (named ∙ name-at items t item within is)
    ∙ ap (λ k. reply_lines first (drop k (replies_at new t))) count in
    append_assoc text (reply_lines name (drop given (replies_at new t))) (news (drop (t + 1) names) (t + 1) old new)
    ∙ ap (λ o. text ++ (o ++ news (drop (t + 1) names) (t + 1) old new)) one
    ∙ ap (λ ns. text ++ news ns t old new) (sym front)
    ∙ so_far
