-- Words read behind others, a piece further on.
use Rattle.std.proofs.Common.{◌≡◌, ℕ, zero, suc, ◌+◌, ◌-◌, ◌<◌, ◌≤◌, List, [], ◌∷◌, ◌++◌, length, take, drop, map, Ok, Err, refl, sym, ap, ◌∙◌, append_assoc, arith}
use Rattle.std.proofs.lemmas.List.{append-nil, drop-drop}
use Rattle.ot_c_words.specs.Tables.{Text}
use Rattle.ot_c_words.specs.declared.fault.Wrong.{Wrong}
use Rattle.ot_c_words.specs.declared.piece.Line.{Line}
use Rattle.ot_c_words.specs.declared.piece.Piece.{Piece}
use Rattle.ot_c_words.specs.Pieces.{front}
use Rattle.ot_c_words.specs.Words.{Spoken, Read, words_spoken, on_line_behind, end_of, before, from, words_at}

-- what is read, behind these words
abbrev pub behind_others : List ℕ → List Spoken → Read → Read
behind_others starts ws (Err e) = Err e
behind_others starts ws (Ok read) = Ok (starts ++ read.0, ws ++ read.1)

others_before : (starts : List ℕ) (ws vs : List Spoken) (at : ℕ) (read : Read) → behind_others starts ws (before at vs read) ≡ behind_others (starts ++ map (λ w. at) vs) (ws ++ vs) read
others_before starts ws vs at (Err e) = refl
others_before starts ws vs at (Ok read) = cc (append_assoc starts (map (λ (w : Spoken). at) vs) read.0, append_assoc ws vs read.1)

-- what is left of a piece is passed
passed : (on : Line) (at more : ℕ) (bytes : Text) → more ≤ length bytes → words_at on at more bytes ≡ words_at on (at + more) 0 (drop more bytes)
unfolding words_at
passed on at zero bytes h = let same : at ≡ at + 0 = omega arith in ap (λ (n : ℕ). words_at on n 0 bytes) same
passed on at (suc more) [] h = absurd (omega arith)
passed on at (suc more) (b ∷ bs) h = let same : at + 1 + more ≡ at + suc more = omega arith in passed on (at + 1) more bs (omega arith) ∙ ap (λ (n : ℕ). words_at on n 0 (drop more bs)) same

one_read : (on : Line) (at : ℕ) (bytes : Text) (found : Piece × ℕ) → front on bytes ≡ Ok found → 0 < found.1 → found.1 ≤ length bytes
    → words_at on at 0 bytes ≡ before at (words_spoken on (take found.1 bytes) found.0) (words_at (on_line_behind on found.0) (at + found.1) 0 (drop found.1 bytes))
unfolding words_at
one_read on at [] found is some within = absurd (omega arith)
one_read on at (b ∷ bs) found is some within =
    let here : at + 1 + (found.1 - 1) ≡ at + found.1 = omega arith in
    let left : suc (found.1 - 1) ≡ found.1 = omega arith in
    ap (λ f. from on at (b ∷ bs) f (λ piece len. words_at (on_line_behind on piece) (at + 1) (len - 1) bs)) is
    ∙ ap (λ r. before at (words_spoken on (take found.1 (b ∷ bs)) found.0) r)
    (passed (on_line_behind on found.0) (at + 1) (found.1 - 1) bs (omega arith)
    ∙ ap (λ (n : ℕ). words_at (on_line_behind on found.0) n 0 (drop (found.1 - 1) bs)) here
    ∙ ap (λ (n : ℕ). words_at (on_line_behind on found.0) (at + found.1) 0 (drop n (b ∷ bs))) left)

-- a piece read, and what is left behind it
pub piece_read : (text : Text) (on next : Line) (at : ℕ) (found : Piece × ℕ) (starts new_starts : List ℕ) (ws new_ws : List Spoken) → Ok found ≡ front on (drop at text) → 0 < found.1 → found.1 ≤ length (drop at text)
    → next ≡ on_line_behind on found.0 → new_starts ≡ starts ++ map (λ w. at) (words_spoken on (take found.1 (drop at text)) found.0) → new_ws ≡ ws ++ words_spoken on (take found.1 (drop at text)) found.0
    → behind_others new_starts new_ws (words_at next (at + found.1) 0 (drop (at + found.1) text)) ≡ behind_others starts ws (words_at on at 0 (drop at text))
piece_read text on next at found starts new_starts ws new_ws is some within then put said =
    let read = one_read on at (drop at text) found (sym is) some within in
    let left : drop found.1 (drop at text) ≡ drop (at + found.1) text = drop-drop found.1 at text in
    sym (ap (λ r. behind_others starts ws r) read ∙ others_before starts ws (words_spoken on (take found.1 (drop at text)) found.0) at (words_at (on_line_behind on found.0) (at + found.1) 0 (drop found.1 (drop at text)))
    ∙ cc (put, said, then, left))

-- a fault
pub fault_read : (on : Line) (at : ℕ) (bytes : Text) (wrong : Wrong) (starts : List ℕ) (ws : List Spoken) → 0 < length bytes → Err wrong ≡ front on bytes
    → behind_others starts ws (words_at on at 0 bytes) ≡ Err (record { wrong = wrong; start = at })
unfolding words_at
fault_read on at [] wrong starts ws some is = absurd (omega arith)
fault_read on at (b ∷ bs) wrong starts ws some is = ap (λ f. behind_others starts ws (from on at (b ∷ bs) f (λ piece len. words_at (on_line_behind on piece) (at + 1) (len - 1) bs))) (sym is)

-- the end
pub end_read : (on : Line) (at : ℕ) (bytes : Text) (starts new_starts : List ℕ) (ws new_ws : List Spoken) → length bytes ≤ 0 → new_starts ≡ starts ++ map (λ w. at) (end_of on) → new_ws ≡ ws ++ end_of on
    → behind_others starts ws (words_at on at 0 bytes) ≡ Ok (new_starts, new_ws)
unfolding words_at
end_read on at [] starts new_starts ws new_ws none put said =
    others_before starts ws (end_of on) at (Ok ([], [])) ∙ cc (append-nil (starts ++ map (λ (w : Spoken). at) (end_of on)), append-nil (ws ++ end_of on), put, said)
end_read on at (b ∷ bs) starts new_starts ws new_ws none put said = absurd (omega arith)
