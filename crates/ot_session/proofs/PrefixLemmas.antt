-- What was heard before the last byte.
use Rattle.std.proofs.Common.{◌≡◌, ℕ, suc, ◌+◌, ◌-◌, ◌<◌, ◌≤◌, List, [], ◌∷◌, ◌++◌, length, take, drop, length-append, length-drop, append_assoc, refl, sym, ap, ◌∙◌, arith}
use Rattle.std.specs.Prelude.{Option, Some, None}
use Rattle.std.specs.Io.KnownBytes.{Consumes, prepend_known}
use Rattle.std.proofs.Math.ListN.{take-append-drop}
use Rattle.std.proofs.Math.Seq.{take-append_seam, take-append-add}
use Rattle.std.proofs.lemmas.List.{get_or-take, length-take-le}
use Rattle.ot_book.specs.Books.{Register}
use Rattle.ot_book.specs.Room.{room_in}
use Rattle.ot_session.specs.Session.{Heard, HasNoEnd, heard_in}
use Rattle.ot_session.specs.declared.fault.End.{End}
use Rattle.ot_session.proofs.HeardLemmas.{heard-append, heard_ended, lines_grow}

-- a front that leaves a byte at least leaves the last
pub cut_last : (bytes : List ℕ) (b : ℕ) (front back : List ℕ) → bytes ++ b ∷ [] ≡ front ++ back → 0 < length back → (rest : List ℕ) × (bytes ≡ front ++ rest)
cut_last bytes b front back is some =
    let n = length bytes - length front in
    let count : length front + n ≡ length bytes = omega (arith, some, ap length is, length-append bytes (b ∷ []), length-append front back) in (
      take n back,
      sym (take-append_seam bytes (b ∷ []))
          ∙ ap (take (length bytes)) is
          ∙ ap (λ k. take k (front ++ back)) (sym count)
          ∙ take-append-add front back n,
    )

-- where a session goes on, it went on before
pub front_idle : (first : Register) (front rest : List ℕ) → (heard_in first (front ++ rest)).end ≡ None →
    ((heard_in first front).end ≡ None) × (length (heard_in first front).lines ≤ length (heard_in first (front ++ rest)).lines)
front_idle first front rest idle = (by_end h.end refl, more)
  where
    h : Heard
    h = heard_in first front

    by_end : (o : Option End) → h.end ≡ o → h.end ≡ None
    by_end None is = is
    by_end (Some e) is =
        let stays = ap (λ (x : Heard). x.end) (heard-append (room_in first) front rest ∙ heard_ended (room_in first) h e rest is) in
        sym stays ∙ idle

    more : length (heard_in first front).lines ≤ length (heard_in first (front ++ rest)).lines
    more =
        let grows = lines_grow (room_in first) h rest in
        omega (arith, ap (λ (x : Heard). length x.lines) (heard-append (room_in first) front rest), ap length grows.1, length-append h.lines grows.0)

-- ---- a line that is too long

single : (xs : List ℕ) → length xs ≡ 1 → (b : ℕ) × (xs ≡ b ∷ [])
single [] one = absurd (omega (arith, one))
single (b ∷ []) one = (b, refl)
single (b ∷ c ∷ xs) one = absurd (omega (arith, one))

-- its last byte
pub last_of : (xs : List ℕ) (n : ℕ) → length xs ≡ suc n → (b : ℕ) × (xs ≡ take n xs ++ b ∷ [])
last_of xs n count =
    let last = single (drop n xs) (omega (arith, count, length-drop n xs)) in
    (last.0, sym (take-append-drop n xs) ∙ ap (λ ys. take n xs ++ ys) last.1)

pub clean_take : (xs : List ℕ) (n : ℕ) → n ≤ length xs → HasNoEnd xs → HasNoEnd (take n xs)
clean_take xs n within clean = λ k inside is.
    let below : k < n = omega (arith, inside, length-take-le n xs within) in
    clean k (omega (arith, below, within)) (sym (get_or-take n xs k 0 below) ∙ is)

-- ---- the bytes that were read

-- what isn't heard yet was read too
pub consumed : (before after : Option (List ℕ)) (ahead bytes : List ℕ) → Consumes (prepend_known [] before) (prepend_known ahead after) bytes → Consumes before after (bytes ++ ahead)
consumed None after ahead bytes h = tt
consumed (Some xs) None ahead bytes h = absurd h
consumed (Some xs) (Some ys) ahead bytes h = h ∙ sym (append_assoc bytes ahead ys)
