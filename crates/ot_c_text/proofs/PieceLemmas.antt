-- Pieces of an array, one after another.
use Rattle.std.proofs.Common.{◌≡◌, ◌∙◌, ℕ, suc, ◌+◌, ◌-◌, ◌<◌, ◌≤◌, List, ◌++◌, length, take, drop, sym, ap, append_assoc, append-nil, arith}
use Rattle.serde_json.specs.Data.{Data}
use Rattle.ot_c_text.specs.Requests.{piece_len, put_of, puts_from}

-- one piece more
pub puts_more : (name : List ℕ) (all n i : ℕ) (rest : List ℕ) (before after whole : List Data) → i < n → before ++ puts_from name all (n - i) rest ≡ whole
    → after ≡ before ++ put_of name (all - length rest) (take (piece_len rest) rest) → after ++ puts_from name all (n - (i + 1)) (drop (piece_len rest) rest) ≡ whole
puts_more name all n i rest before after whole h is next =
    let left : n - i ≡ suc (n - (i + 1)) = omega (arith, h) in
    let piece = put_of name (all - length rest) (take (piece_len rest) rest) in
    let more = puts_from name all (n - (i + 1)) (drop (piece_len rest) rest) in
    ap (λ l. l ++ more) next ∙ append_assoc before piece more ∙ sym (ap (λ k. before ++ puts_from name all k rest) left) ∙ is

-- none is left
pub puts_last : (name : List ℕ) (all n i : ℕ) (rest : List ℕ) (before whole : List Data) → n ≤ i → before ++ puts_from name all (n - i) rest ≡ whole → before ≡ whole
puts_last name all n i rest before whole h is =
    let none : n - i ≡ 0 = omega (arith, h) in
    sym (append-nil before) ∙ sym (ap (λ k. before ++ puts_from name all k rest) none) ∙ is
