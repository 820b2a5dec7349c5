-- The lines of a text, one after another.
use Rattle.std.proofs.Common.{◌≡◌, ℕ, suc, ◌<◌, List, [], ◌∷◌, ◌++◌, length, take, drop, drop-cons, sym, ap, ◌∙◌, arith, append_assoc, true}
use Rattle.std.specs.Prelude.{◌==◌}
use Rattle.std.proofs.Math.ListN.{take-append-drop}
use Rattle.std.proofs.lemmas.List.{get_or-take, length-take-le}
use Rattle.std.proofs.lemmas.Bool.Decides.{nat_tests}
use Rattle.memchr.specs.Find.{Nowhere, Passes, is_byte}
use Rattle.ot_session.specs.Session.{HasNoEnd}

passes_ten : (b : ℕ) → b ≡ 10 → (b == 10) ≡ true
passes_ten b is = ap (λ x. x == 10) is

-- where no byte is an LF
pub clean_all : (bytes : List ℕ) → Nowhere (Passes (is_byte 10) bytes) 0 (length bytes) → HasNoEnd bytes
clean_all bytes nowhere = λ k within is. nowhere k (omega arith) within (passes_ten _ is)

-- the bytes before the first LF
pub clean_front : (bytes : List ℕ) (at : ℕ) → at < length bytes → Nowhere (Passes (is_byte 10) bytes) 0 at → HasNoEnd (take at bytes)
clean_front bytes at within nowhere = λ k inside is.
    let below : k < at = omega (arith, inside, length-take-le at bytes (omega (arith, within))) in
    nowhere k (omega arith) below (passes_ten _ (sym (get_or-take at bytes k 0 below) ∙ is))

is_ten : (b : ℕ) → (b == 10) ≡ true → b ≡ 10
is_ten b is = grind (arith, nat_tests)

-- they, the LF, and what stands behind it
pub parts : (bytes : List ℕ) (at : ℕ) → at < length bytes → Passes (is_byte 10) bytes at → take at bytes ++ 10 ∷ drop 1 (drop at bytes) ≡ bytes
parts bytes at within passes =
    let behind : drop at bytes ≡ 10 ∷ drop (suc at) bytes = drop-cons bytes at 0 within ∙ ap (λ b. b ∷ drop (suc at) bytes) (is_ten _ passes) in
    ap (λ xs. take at bytes ++ xs) (ap (λ xs. 10 ∷ drop 1 xs) behind ∙ sym behind) ∙ take-append-drop at bytes

-- one line further in a chunk
on_parts : (chunk done rest : List ℕ) (at : ℕ) → done ++ rest ≡ chunk → at < length rest → Passes (is_byte 10) rest at →
    ((done ++ take at rest) ++ 10 ∷ []) ++ drop 1 (drop at rest) ≡ chunk
on_parts chunk done rest at is within passes =
    append_assoc (done ++ take at rest) (10 ∷ []) (drop 1 (drop at rest))
    ∙ append_assoc done (take at rest) (10 ∷ drop 1 (drop at rest))
    ∙ ap (λ xs. done ++ xs) (parts rest at within passes)
    ∙ is

pub chunk_on : (chunk done rest piece behind after : List ℕ) (at : ℕ) → done ++ rest ≡ chunk → at < length rest → Passes (is_byte 10) rest at →
    piece ≡ take at rest → behind ≡ drop at rest → after ≡ drop 1 behind → ((done ++ piece) ++ 10 ∷ []) ++ after ≡ chunk
chunk_on chunk done rest piece behind after at is within passes front back next =
    ap (λ p. ((done ++ p) ++ 10 ∷ []) ++ after) front
    ∙ ap (λ a. ((done ++ take at rest) ++ 10 ∷ []) ++ a) (next ∙ ap (drop 1) back)
    ∙ on_parts chunk done rest at is within passes
