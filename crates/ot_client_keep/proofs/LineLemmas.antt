-- Lines, one after another.
use Rattle.std.proofs.Common.{◌≡◌, ◌≢◌, ◌∙◌, ℕ, ◌+◌, ◌-◌, ◌<◌, List, [], ◌∷◌, ◌++◌, length, take, drop, get_or, refl, sym, ap, ap₂, append_assoc, append-nil, length-append, length-drop, arith, eq-eqb}
use Rattle.std.specs.Prelude.{None, Some, unwrap_or, slice_get}
use Rattle.std.specs.List.{concat}
use Rattle.std.proofs.lemmas.Bool.{eqb-true}
use Rattle.std.proofs.lemmas.List.{get_or-drop, get_or-take, length-take-le, map-append, take-append-drop}
use Rattle.std.proofs.lemmas.List.Elements.{All-from_get_or}
use Rattle.std.proofs.lemmas.List.Folds.{concat-append}
use Rattle.std.proofs.lemmas.Option.{unwrap_or-slice_get}
use Rattle.memchr.specs.Find.{IsFirstByte, is_byte}
use Rattle.ot_client_ask.specs.Streams.{IsWhole, Link}
use Rattle.ot_client_keep.specs.Files.{AreLines, Taken}
use Rattle.ot_client_keep.specs.Questions.{Line, Turn}
use Rattle.ot_client_keep.specs.Saving.{AreTaken}
use Rattle.ot_client_keep.proofs.KeepLemmas.{talks_append, talks_one}

-- the bytes up to the first LF are a whole line
pub line_whole : (rest line : List ℕ) (at : ℕ) → IsFirstByte (is_byte 10) rest (Some at) → line ≡ take (at + 1) rest → IsWhole line
line_whole rest line at first is =
    let within : at < length rest = first.0.high in
    let size : length line ≡ at + 1 = ap length is ∙ length-take-le (at + 1) rest (omega (arith, within)) in
    let end : length line - 1 ≡ at = omega (arith, size) in
    let last : get_or line (length line - 1) 0 ≡ 10 =
    ap₂ (λ l n. get_or l n 0) is end ∙ get_or-take (at + 1) rest at 0 (omega arith) ∙ eqb-true (get_or rest at 0) 10 first.1 in (
      eq-eqb (unwrap_or (slice_get line (length line - 1)) 0) 10 (unwrap_or-slice_get line (length line - 1) 0 ∙ last),
      All-from_get_or (λ b. b ≢ 10) (take (length line - 1) line) 0
          (λ k below found.
          let front : length (take (length line - 1) line) ≡ length line - 1 = length-take-le (length line - 1) line (omega arith) in
          let low : k < at = omega (arith, below, front, end) in
          let there : get_or rest k 0 ≡ 10 =
          sym (get_or-take (at + 1) rest k 0 (omega (arith, low))) ∙ ap (λ l. get_or l k 0) (sym is) ∙ sym (get_or-take (length line - 1) line k 0 (omega (arith, low, end))) ∙ found in
          first.0.before k (omega arith) low (eq-eqb (get_or rest k 0) 10 there)),
    )

-- behind a line there are lines
pub lines_after : (rest after : List ℕ) (n : ℕ) → AreLines rest → after ≡ drop n rest → AreLines after
lines_after rest after n ended is some =
    let size : length after ≡ length rest - n = ap length is ∙ length-drop n rest in
    let last : n + (length after - 1) ≡ length rest - 1 = omega (arith, size, some) in
    ap (λ l. get_or l (length after - 1) 0) is ∙ get_or-drop n rest (length after - 1) 0 ∙ ap (λ k. get_or rest k 0) last ∙ ended (omega (arith, size, some))

-- where no LF is left nothing is
pub no_rest : (rest : List ℕ) → AreLines rest → IsFirstByte (is_byte 10) rest None → rest ≡ []
no_rest [] ended none = refl
no_rest (b ∷ bs) ended none =
    let long : 0 < length (b ∷ bs) = omega arith in
    absurd (none (length (b ∷ bs) - 1) (omega arith) (omega (arith, long)) (eq-eqb (get_or (b ∷ bs) (length (b ∷ bs) - 1) 0) 10 (ended long)))

-- one line more of a session
pub joined_more : (lines : List (List ℕ)) (line after rest session : List ℕ) (n : ℕ) → line ≡ take n rest → after ≡ drop n rest → concat lines ++ rest ≡ session
    → concat (lines ++ line ∷ []) ++ after ≡ session
joined_more lines line after rest session n front back so_far =
    ap (λ l. l ++ after) (concat-append lines (line ∷ []) ∙ ap (λ l. concat lines ++ l) (append-nil line))
    ∙ append_assoc (concat lines) line after
    ∙ ap (λ l. concat lines ++ l) (ap₂ (λ a b. a ++ b) front back ∙ take-append-drop n rest) ∙ so_far

pub joined_here : (lines : List (List ℕ)) (line after rest session : List ℕ) (n : ℕ) → line ≡ take n rest → after ≡ drop n rest → concat lines ++ rest ≡ session
    → concat lines ++ (line ++ after) ≡ session
joined_here lines line after rest session n front back so_far =
    ap (λ l. concat lines ++ l) (ap₂ (λ a b. a ++ b) front back ∙ take-append-drop n rest) ∙ so_far

pub taken_more : (lines : List (List ℕ)) (line : List ℕ) (a b c : Link) (n : ℕ) → AreTaken lines a b → Turn (Line line) b c (Taken n) → AreTaken (lines ++ line ∷ []) a c
taken_more lines line a b c n taken turn = record {
  turns = taken.turns ++ (Line line, Taken n) ∷ [];
  asked = map-append (λ t. t.0) taken.turns ((Line line, Taken n) ∷ []) ∙ ap (λ l. l ++ Line line ∷ []) taken.asked ∙ sym (map-append Line lines (line ∷ []));
  talk = talks_append a b c taken.turns ((Line line, Taken n) ∷ []) taken.talk (talks_one b c (Line line, Taken n) turn);
}

pub one_longer : (lines : List (List ℕ)) (line : List ℕ) (n : ℕ) → n ≡ length lines → n + 1 ≡ length (lines ++ line ∷ [])
one_longer lines line n same = ap (λ k. k + 1) same ∙ sym (length-append lines (line ∷ []))
