-- Where the parts of a file's text lie.
use Rattle.std.proofs.Common.{◌≡◌, ◌≢◌, ◌∙◌, ℕ, ◌+◌, ◌-◌, ◌/◌, ◌%◌, ◌<◌, ◌^◌, true, false, List, [], ◌∷◌, ◌++◌, length, take, drop, get_or, slice_index, refl, sym, ap, ap₂, subst, append_assoc, length-append, arith, eq-eqb, inl, inr, add-one}
use Rattle.std.specs.Prelude.{◌==◌, Option, Some, None, All, decimal, codes, not}
use Rattle.std.specs.List.{list_all}
use Rattle.std.proofs.lemmas.Bool.{cases_lt, eqb-true}
use Rattle.std.proofs.lemmas.List.Elements.{All-append, All-cons, All-from_get_or, All-get_or, All-nil}
use Rattle.std.proofs.lemmas.List.Folds.{list_all_at}
use Rattle.std.proofs.Math.Seq.{get_or-append_seam, take-append_seam, drop-append_seam}
use Rattle.std.proofs.Math.ListN.{get_or-append}
use Rattle.std.proofs.lemmas.List.{append_cancel_right, get_or-append-add, get_or_past}
use Rattle.std.proofs.lemmas.Fmt.{decimal_is_IsNumeral}
use Rattle.std.proofs.lemmas.Str.Parse.{digit_at}
use Rattle.memchr.specs.Find.{IsFirstByte, IsLastByte, is_byte}
use Rattle.hex.specs.Hex.{encode_with, lower_digits}
use Rattle.ot_client_keep.specs.Files.{bye_line, note_text}

abbrev pub IsOther : ℕ → ℕ → Type 0
IsOther byte b = b ≢ byte

-- ---- the first and the last place of a byte

pub first_place : (byte : ℕ) (xs ys : List ℕ) (r : Option ℕ) → All (IsOther byte) xs → IsFirstByte (is_byte byte) (xs ++ byte ∷ ys) r → r ≡ Some (length xs)
first_place byte xs ys None others first =
    absurd (first (length xs) (omega arith) (let e = length-append xs (byte ∷ ys) in omega (arith, e))
    (eq-eqb _ byte (get_or-append_seam xs byte ys 0)))
first_place byte xs ys (Some k) others first =
    let found : slice_index (xs ++ byte ∷ ys) k ≡ byte = eqb-true _ byte first.1 in
    elim (cases_lt k (length xs)) [
      | inl below ↦ absurd (All-get_or (IsOther byte) xs k 0 below others (sym (get_or-append xs (byte ∷ ys) 0 k below) ∙ found))
      | inr above ↦ elim (cases_lt (length xs) k) [
        | inl beyond ↦ absurd (first.0.before (length xs) (omega arith) beyond (eq-eqb _ byte (get_or-append_seam xs byte ys 0)))
        | inr same ↦ let e : k ≡ length xs = omega (arith, above, same) in ap Some e
      ]
    ]

pub last_place : (byte : ℕ) (xs ys : List ℕ) (r : Option ℕ) → All (IsOther byte) ys → IsLastByte (is_byte byte) (xs ++ byte ∷ ys) r → r ≡ Some (length xs)
last_place byte xs ys None others last =
    absurd (last (length xs) (omega arith) (let e = length-append xs (byte ∷ ys) in omega (arith, e))
    (eq-eqb _ byte (get_or-append_seam xs byte ys 0)))
last_place byte xs ys (Some k) others last =
    let len = length-append xs (byte ∷ ys) in
    let found : slice_index (xs ++ byte ∷ ys) k ≡ byte = eqb-true _ byte last.1 in
    elim (cases_lt (length xs) k) [
      | inl above ↦
          let i = k - (length xs + 1) in
          let e : k ≡ length xs + (i + 1) = omega (arith, above) in
          let within : i < length ys = let high = last.0.high in omega (arith, high, len, above) in
          let next : get_or (byte ∷ ys) (i + 1) 0 ≡ get_or ys i 0 = ap (λ n. get_or (byte ∷ ys) n 0) (add-one i) in
          let there : get_or ys i 0 ≡ byte = sym next ∙ sym (get_or-append-add xs (byte ∷ ys) (i + 1) 0) ∙ ap (λ n. get_or (xs ++ byte ∷ ys) n 0) (sym e) ∙ found in
          absurd (All-get_or (IsOther byte) ys i 0 within others there)
      | inr below ↦ elim (cases_lt k (length xs)) [
        | inl before ↦
            absurd (last.0.after (length xs) (omega (arith, before)) (omega (arith, len)) (eq-eqb _ byte (get_or-append_seam xs byte ys 0)))
        | inr same ↦ let e : k ≡ length xs = omega (arith, below, same) in ap Some e
      ]
    ]

-- ---- no comma in a number, and no LF in a note

pub decimal-others : (byte n : ℕ) → byte < 48 → n < 2 ^ 64 → All (IsOther byte) (decimal n)
decimal-others byte n low fits =
    All-from_get_or (IsOther byte) (decimal n) 0
    (λ i within is. let digit = digit_at (decimal n) i (decimal_is_IsNumeral n fits).0.1 within in
    let least = digit.0 in omega (arith, least, is, low))

-- bytes of which a test passes each
others_from : (byte : ℕ) (xs : List ℕ) → list_all (λ b. not (b == byte)) xs ≡ true → All (IsOther byte) xs
others_from byte xs passes =
    All-from_get_or (IsOther byte) xs 0
    (λ i within is. let yes : (get_or xs i 0 == byte) ≡ true = eq-eqb (get_or xs i 0) byte is in
    let no = list_all_at (λ b. not (b == byte)) xs i 0 within (ap not yes) in
    let both : true ≡ false = sym passes ∙ no in absurd (cc))

hex-others : (byte : ℕ) (t xs : List ℕ) → ((i : ℕ) → IsOther byte (slice_index t i)) → All (IsOther byte) (encode_with t xs)
unfolding encode_with
hex-others byte t [] digit = All-nil (IsOther byte)
hex-others byte t (b ∷ rest) digit =
    All-cons (IsOther byte) (slice_index t (b / 16)) (slice_index t (b % 16) ∷ encode_with t rest) (digit (b / 16))
    (All-cons (IsOther byte) (slice_index t (b % 16)) (encode_with t rest) (digit (b % 16)) (hex-others byte t rest digit))

-- the sixteen digits, and 0 past them
digit-other : (i : ℕ) → IsOther 10 (slice_index lower_digits i)
digit-other i is = elim (cases_lt i 16) [
  | inl within ↦ All-get_or (IsOther 10) lower_digits i 0 within (others_from 10 lower_digits refl) is
  | inr past ↦ let none : slice_index lower_digits i ≡ 0 = get_or_past lower_digits i 0 past in let no : 0 ≡ 10 = sym none ∙ is in absurd (omega (arith, no))
]

-- a note without its LF
abbrev pub note_front : List ℕ → ℕ → ℕ → List ℕ
note_front sum next used =
    codes "{\"next\": " ++ (decimal next ++ (codes ", \"used\": " ++ (decimal used ++ (codes ", \"sha256\": \"" ++ (sum ++ codes "\"}")))))

pub note-ends : (sum : List ℕ) (next used : ℕ) → note_text sum next used ≡ note_front sum next used ++ 10 ∷ []
note-ends sum next used =
    let a = sym (append_assoc sum (codes "\"}") (10 ∷ [])) in
    let b = ap (λ l. codes ", \"sha256\": \"" ++ l) a in
    let c = ap (λ l. decimal used ++ l) b ∙ sym (append_assoc (decimal used) (codes ", \"sha256\": \"" ++ (sum ++ codes "\"}")) (10 ∷ [])) in
    let d = ap (λ l. codes ", \"used\": " ++ l) c in
    let e = ap (λ l. decimal next ++ l) d
    ∙ sym (append_assoc (decimal next) (codes ", \"used\": " ++ (decimal used ++ (codes ", \"sha256\": \"" ++ (sum ++ codes "\"}")))) (10 ∷ [])) in
    ap (λ l. codes "{\"next\": " ++ l) e

pub note-others : (bytes : List ℕ) (next used : ℕ) → next < 2 ^ 64 → used < 2 ^ 64 → All (IsOther 10) (note_front (encode_with lower_digits bytes) next used)
note-others bytes next used fits_next fits_used =
    let sum = encode_with lower_digits bytes in
    let a = All-append (IsOther 10) sum (codes "\"}") (hex-others 10 lower_digits bytes digit-other) (others_from 10 (codes "\"}") refl) in
    let b = All-append (IsOther 10) (codes ", \"sha256\": \"") (sum ++ codes "\"}") (others_from 10 (codes ", \"sha256\": \"") refl) a in
    let c = All-append (IsOther 10) (decimal used) _ (decimal-others 10 used (omega arith) fits_used) b in
    let d = All-append (IsOther 10) (codes ", \"used\": ") _ (others_from 10 (codes ", \"used\": ") refl) c in
    let e = All-append (IsOther 10) (decimal next) _ (decimal-others 10 next (omega arith) fits_next) d in
    All-append (IsOther 10) (codes "{\"next\": ") _ (others_from 10 (codes "{\"next\": ") refl) e

-- ---- a file's parts

abbrev pub bye_word : List ℕ
bye_word = codes "[\"bye\"]"

-- the file without its last LF
pub file-ends : (file session front : List ℕ) → file ≡ session ++ (bye_line ++ (front ++ 10 ∷ [])) → file ≡ ((session ++ bye_word) ++ 10 ∷ front) ++ 10 ∷ []
file-ends file session front is =
    is ∙ sym (append_assoc session bye_word (10 ∷ (front ++ 10 ∷ []))) ∙ sym (append_assoc (session ++ bye_word) (10 ∷ front) (10 ∷ []))

pub file-front : (file session front found end : List ℕ) → file ≡ session ++ (bye_line ++ (front ++ 10 ∷ [])) → file ≡ found ++ end → end ≡ 10 ∷ []
    → found ≡ (session ++ bye_word) ++ 10 ∷ front
file-front file session front found end is split same =
    append_cancel_right found ((session ++ bye_word) ++ 10 ∷ front) (10 ∷ []) (ap (λ e. found ++ e) (sym same) ∙ sym split ∙ file-ends file session front is)

-- the LF before the note is the last but one
pub file-place : (file session front found end : List ℕ) (r : Option ℕ) → file ≡ session ++ (bye_line ++ (front ++ 10 ∷ [])) → file ≡ found ++ end → end ≡ 10 ∷ [] → All (IsOther 10) front
    → IsLastByte (is_byte 10) found r → r ≡ Some (length (session ++ bye_word))
file-place file session front found end r is split same others last =
    last_place 10 (session ++ bye_word) front r others (subst (λ l. IsLastByte (is_byte 10) l r) (file-front file session front found end is split same) last)

-- what stands before and behind it
pub file-body : (file session front : List ℕ) (at : ℕ) → file ≡ session ++ (bye_line ++ (front ++ 10 ∷ [])) → at ≡ length (session ++ bye_word)
    → (take (at + 1) file ≡ session ++ bye_line) × (drop (at + 1) file ≡ front ++ 10 ∷ [])
file-body file session front at is place =
    let joined : file ≡ (session ++ bye_line) ++ (front ++ 10 ∷ []) = is ∙ sym (append_assoc session bye_line (front ++ 10 ∷ [])) in
    let short = length-append session bye_word in
    let long = length-append session bye_line in
    let size : at + 1 ≡ length (session ++ bye_line) = omega (arith, short, long, place) in (
      ap₂ take size joined ∙ take-append_seam (session ++ bye_line) (front ++ 10 ∷ []),
      ap₂ drop size joined ∙ drop-append_seam (session ++ bye_line) (front ++ 10 ∷ []),
    )

pub file-session : (body session found end : List ℕ) → body ≡ session ++ bye_line → body ≡ found ++ end → end ≡ bye_line → found ≡ session
file-session body session found end is split same = append_cancel_right found session bye_line (ap (λ e. found ++ e) (sym same) ∙ sym split ∙ is)

pub some_pair : (p q : ℕ × ℕ) → Some p ≡ Some q → (p.0 ≡ q.0) × (p.1 ≡ q.1)
some_pair p q same = let is : p ≡ q = cc in (ap (λ r. r.0) is, ap (λ r. r.1) is)
