-- The pieces of what was read.
use Rattle.std.proofs.Common.{◌≡◌, ℕ, suc, ◌<◌, ◌≤◌, ◌+◌, ◌-◌, List, [], ◌∷◌, ◌++◌, length, take, drop, drop-cons, drop-drop, length-drop, length-append, append-nil, append_assoc, take-add, refl, sym, ap, ◌∙◌, arith, true}
use Rattle.std.specs.Prelude.{◌==◌, slice_range, Some, None}
use Rattle.std.proofs.Math.ListN.{take-append-drop}
use Rattle.std.proofs.lemmas.List.{get_or-take, length-take-le, drop-take, take-take}
use Rattle.std.proofs.lemmas.Bool.Decides.{nat_tests}
use Rattle.memchr.specs.Find.{Nowhere, NoneBefore, Passes, is_byte}
use Rattle.ot_lines.specs.declared.lines.Heard.TheVariants.{Line, Long}
use Rattle.ot_lines.specs.Lines.{HasNoEnd, Hearing}
use Rattle.ot_lines.specs.Cutting.{Cuts, bytes_taken, byte_passed}
use Rattle.ot_lines.proofs.Passing.{passes_front}

passes_ten : (b : ℕ) → b ≡ 10 → (b == 10) ≡ true
passes_ten b is = ap (λ x. x == 10) is

is_ten : (b : ℕ) → (b == 10) ≡ true → b ≡ 10
is_ten b is = grind (arith, nat_tests)

-- where no byte up to this one is an LF
clean_front : (bytes : List ℕ) (to n : ℕ) → n ≤ to → to ≤ length bytes → Nowhere (Passes (is_byte 10) bytes) 0 to → HasNoEnd (take n bytes)
clean_front bytes to n low within nowhere = λ k inside is.
    let below : k < n = omega (arith, inside, length-take-le n bytes (omega (arith, low, within))) in
    nowhere k (omega arith) (omega (arith, below, low)) (passes_ten _ (sym (get_or-take n bytes k 0 below) ∙ is))

-- the line ends in what was read
pub cuts_line : (h : Hearing) (at : ℕ) → length h.since + length h.ahead ≤ h.most → NoneBefore (Passes (is_byte 10) h.ahead) 0 (length h.ahead) at × Passes (is_byte 10) h.ahead at → length h.line + at ≤ h.longest
    → Cuts h (byte_passed (bytes_taken at h)) (Some Line)
cuts_line h at most found fits =
    let piece = take at h.ahead in
    let count : length piece ≡ at = length-take-le at h.ahead (omega (arith, found.0.high)) in
    let behind : drop at h.ahead ≡ 10 ∷ drop (suc at) h.ahead = drop-cons h.ahead at 0 found.0.high ∙ ap (λ b. b ∷ drop (suc at) h.ahead) (is_ten _ found.1) in
    let one : take 1 (drop at h.ahead) ≡ 10 ∷ [] = ap (take 1) behind in
    let single : length (take 1 (drop at h.ahead)) ≡ 1 = ap length one in
    let more : drop 1 (drop at h.ahead) ≡ drop (suc at) h.ahead = ap (drop 1) behind in record {
      piece = piece;
      line = refl;
      passes = λ f. passes_front h (byte_passed (bytes_taken at h)) f (piece ++ 10 ∷ [])
          (sym (take-append-drop at h.ahead) ∙ ap (λ xs. piece ++ xs) (behind ∙ ap (λ xs. 10 ∷ xs) (sym more)) ∙ sym (append_assoc piece (10 ∷ []) (drop 1 (drop at h.ahead))))
          (ap (λ xs. (h.since ++ piece) ++ xs) one ∙ append_assoc h.since piece (10 ∷ [])) refl refl refl;
      left = refl;
      clean = clean_front h.ahead at at (omega arith) (omega (arith, found.0.high)) found.0.before;
      is = (
        omega (arith, fits, count, length-append h.line piece),
        record {
          some = omega (arith, single, length-append (h.since ++ piece) (take 1 (drop at h.ahead)));
          within = omega (arith, most, found.0.high, count, single, length-append h.since piece, length-append (h.since ++ piece) (take 1 (drop at h.ahead)), length-drop at h.ahead, length-drop 1 (drop at h.ahead));
        },
      );
    }

-- it is too long
pub cuts_long : (h : Hearing) (to : ℕ) → length h.since + length h.ahead ≤ h.most → to ≤ length h.ahead → Nowhere (Passes (is_byte 10) h.ahead) 0 to → length h.line ≤ h.longest → h.longest - length h.line < to
    → Cuts h (bytes_taken (h.longest - length h.line + 1) h) (Some Long)
cuts_long h to most within nowhere short past =
    let n = h.longest - length h.line + 1 in
    let piece = take n h.ahead in
    let count : length piece ≡ n = length-take-le n h.ahead (omega (arith, past, within)) in record {
      piece = piece;
      line = refl;
      passes = λ f. passes_front h (bytes_taken n h) f (piece ++ [])
          (sym (take-append-drop n h.ahead) ∙ ap (λ xs. xs ++ drop n h.ahead) (sym (append-nil piece)))
          (ap (λ xs. h.since ++ xs) (sym (append-nil piece))) refl refl refl;
      left = refl;
      clean = clean_front h.ahead to n (omega (arith, past)) within nowhere;
      is = (
        omega (arith, count, short, length-append h.line piece),
        record {
          some = omega (arith, count, length-append h.since piece);
          within = omega (arith, most, within, past, count, length-append h.since piece, length-drop n h.ahead);
        },
      );
    }

-- it goes on behind what was read
pub cuts_all : (h : Hearing) (n : ℕ) → n ≡ length h.ahead → Nowhere (Passes (is_byte 10) h.ahead) 0 (length h.ahead) → length h.line + n ≤ h.longest → Cuts h (bytes_taken n h) None
cuts_all h n all nowhere fits =
    let piece = take n h.ahead in
    let count : length piece ≡ n = length-take-le n h.ahead (omega (arith, all)) in record {
      piece = piece;
      line = refl;
      passes = λ f. passes_front h (bytes_taken n h) f (piece ++ [])
          (sym (take-append-drop n h.ahead) ∙ ap (λ xs. xs ++ drop n h.ahead) (sym (append-nil piece)))
          (ap (λ xs. h.since ++ xs) (sym (append-nil piece))) refl refl refl;
      left = refl;
      clean = clean_front h.ahead (length h.ahead) n (omega (arith, all)) (omega arith) nowhere;
      is = record {
        short = omega (arith, fits, count, length-append h.line piece);
        none = nothing (drop n h.ahead) (omega (arith, all, length-drop n h.ahead));
      };
    }
  where
    nothing : (xs : List ℕ) → length xs ≡ 0 → xs ≡ []
    nothing [] none = refl
    nothing (x ∷ xs) none = absurd (omega (arith, none))

-- ---- what stands in the room

pub long : (xs : List ℕ) (from to : ℕ) → from ≤ to → to ≤ length xs → length (slice_range xs from to) ≡ to - from
long xs from to up within = length-take-le (to - from) (drop from xs) (omega (arith, up, within, length-drop from xs))

nearer : (xs : List ℕ) (from to n : ℕ) → from + n ≤ to → take n (slice_range xs from to) ≡ take n (drop from xs)
nearer xs from to n within = take-take n (to - from) (drop from xs) (omega (arith, within))

reach : (xs : List ℕ) (from to n : ℕ) → from + n ≤ to → take (from + n) xs ≡ take from xs ++ take n (slice_range xs from to)
reach xs from to n within = take-add from n xs ∙ ap (λ ys. take from xs ++ ys) (sym (nearer xs from to n within))

prefix : (xs : List ℕ) (from to n : ℕ) → from + n ≤ to → slice_range xs from (from + n) ≡ take n (slice_range xs from to)
prefix xs from to n within =
    let all : from + n - from ≡ n = omega arith in
    ap (λ k. take k (drop from xs)) all ∙ sym (nearer xs from to n within)

further : (xs : List ℕ) (from to k : ℕ) → from + k ≤ to → slice_range xs (from + k) to ≡ drop k (slice_range xs from to)
further xs from to k within =
    let more : to - from ≡ k + (to - (from + k)) = omega (arith, within) in
    ap (take (to - (from + k))) (sym (drop-drop k from xs)) ∙ sym (ap (λ n. drop k (take n (drop from xs))) more ∙ drop-take k (to - (from + k)) (drop from xs))

abbrev hearing : List ℕ → List ℕ → List ℕ → ℕ → ℕ → ℕ → Hearing
hearing line since ahead left longest most = record { line = line; since = since; ahead = ahead; left = left; longest = longest; most = most }

same : (line new since grown ahead rest : List ℕ) (left longest most : ℕ) → new ≡ line → grown ≡ since → rest ≡ ahead → hearing new grown rest left longest most ≡ hearing line since ahead left longest most
same line new since grown ahead rest left longest most a b c =
    ap (λ l. hearing l grown rest left longest most) a ∙ ap (λ s. hearing line s rest left longest most) b ∙ ap (λ r. hearing line since r left longest most) c

-- so many bytes went behind the line
pub is_taken : (line new room : List ℕ) (from to n left longest : ℕ) → from + n ≤ to → new ≡ line ++ slice_range room from (from + n)
    → hearing new (take (from + n) room) (slice_range room (from + n) to) left longest (length room)
    ≡ bytes_taken n (hearing line (take from room) (slice_range room from to) left longest (length room))
is_taken line new room from to n left longest within grown =
    same _ _ _ _ _ _ left longest (length room) (grown ∙ ap (λ p. line ++ p) (prefix room from to n within)) (reach room from to n within) (further room from to n within)

-- the next byte was heard
pub is_passed : (line room : List ℕ) (from to left longest : ℕ) → from + 1 ≤ to
    → hearing line (take (from + 1) room) (slice_range room (from + 1) to) left longest (length room)
    ≡ byte_passed (hearing line (take from room) (slice_range room from to) left longest (length room))
is_passed line room from to left longest within =
    same _ _ _ _ _ _ left longest (length room) refl (reach room from to 1 within) (further room from to 1 within)
