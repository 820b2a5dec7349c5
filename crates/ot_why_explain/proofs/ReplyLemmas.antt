-- Replies: each is a line that begins with `[`.
use Rattle.std.proofs.Common.{◌≡◌, ◌≢◌, ℕ, zero, suc, ◌+◌, ◌-◌, ◌/◌, ◌%◌, List, [], ◌∷◌, ◌++◌, length, drop, refl, sym, ap, subst, arith, Bool, true, false, cond, ◌||◌, ◌==◌, nat_lt, pos, negsuc, if◌then◌else◌}
use Rattle.std.specs.Prelude.{Option, Some, None, option_map, unwrap_or, decimal}
use Rattle.std.proofs.lemmas.Bool.Decides.{nat_tests}
use Rattle.std.specs.Char.{digit_char}
use Rattle.std.specs.Fmt.{digit_glyph, digits_onto, digits}
use Rattle.json.specs.Print.{escape_letter, escape_byte, escape, quoted}
use Rattle.serde_json.specs.Data.{Num, unsigned, negative, float, Data, null, boolean, number, string, array, object, Items, no_items, item, Members, no_members, member}
use Rattle.serde_json.specs.Written.{number_text, comma_if, compact_text, items_text, members_text}
use Rattle.ot_book.specs.Answers.{Told, Accepted, Cells, Arrays, Used, Done, Refused, Offends, Lost, json_of, text_of}
use Rattle.ot_book.specs.Books.{Register, line_logged, reply_at}
use Rattle.ot_session.specs.Session.{Lines, session_told, reply_line, last_reply, closing}
use Rattle.ot_session.specs.declared.fault.End.{End}
use Rattle.ot_session.specs.declared.fault.End.TheVariants as end
use Rattle.ot_why_explain.specs.Listening.{IsWhole}
use Rattle.ot_why_explain.proofs.LineLemmas.{HasNone, or_right, none-append, whole-nil, whole-append, whole-line, IsPlain, plain-nil, plain-append, plain-line}

-- ---- texts of JSON

by_cond : {A : Type 0} (P : A → Type 0) (c : Bool) (x y : A) → (c ≡ true → P x) → (c ≡ false → P y) → P (cond c x y)
by_cond P true x y so other = so refl
by_cond P false x y so other = other refl

by_if : {A : Type 0} (P : A → Type 0) (c : Bool) (x y : A) → (c ≡ true → P x) → (c ≡ false → P y) → P (if c then x else y)
by_if P true x y so other = so refl
by_if P false x y so other = other refl

not_ten : (x : ℕ) → x ≢ 10 → (x == 10) ≡ false
not_ten x other = grind (arith, nat_tests)

none_one : (x : ℕ) → x ≢ 10 → HasNone (x ∷ [])
none_one x other = ap (λ b. b || false) (not_ten x other)

none-cons : (x : ℕ) (bytes : List ℕ) → x ≢ 10 → HasNone bytes → HasNone (x ∷ bytes)
none-cons x bytes other none = none-append (x ∷ []) bytes (none_one x other) none

glyph_other : (upper : Bool) (d : ℕ) → digit_glyph upper d ≢ 10
glyph_other upper d = by_if (λ g. g ≢ 10) (nat_lt d 10) (48 + d) (if upper then 55 + d else 87 + d) (λ _ is. absurd (omega (arith, is)))
    (λ _. by_if (λ g. g ≢ 10) upper (55 + d) (87 + d) (λ _ is. absurd (omega (arith, is))) (λ _ is. absurd (omega (arith, is))))

none_digits : (k base : ℕ) (upper : Bool) (n : ℕ) (acc : List ℕ) → HasNone acc → HasNone (digits_onto k base upper n acc)
none_digits zero base upper n acc none = none
none_digits (suc k) base upper n acc none =
    let more : HasNone (digit_glyph upper (n % base) ∷ acc) = none-cons (digit_glyph upper (n % base)) acc (glyph_other upper (n % base)) none in
    by_if HasNone (n / base == 0) (digit_glyph upper (n % base) ∷ acc) (digits_onto k base upper (n / base) (digit_glyph upper (n % base) ∷ acc)) (λ _. more)
    (λ _. none_digits k base upper (n / base) (digit_glyph upper (n % base) ∷ acc) more)

pub none_decimal : (n : ℕ) → HasNone (decimal n)
unfolding digits
none_decimal n = none_digits 64 10 false n [] refl

none_number : (n : Num) → HasNone (number_text n)
none_number (unsigned n) = none_decimal n
none_number (negative (pos n)) = none_decimal n
none_number (negative (negsuc n)) = none-cons 45 (decimal (suc n)) (λ is. absurd (omega (arith, is))) (none_decimal (suc n))
none_number (float x) = refl

letter_other : (x : ℕ) → escape_letter x ≢ 10
letter_other x = by_cond (λ l. l ≢ 10) ((x == 34) || (x == 92)) x _ (λ is. own is) (λ _.
    by_cond (λ l. l ≢ 10) (x == 8) 98 _ (λ _ is. absurd (omega (arith, is))) (λ _.
    by_cond (λ l. l ≢ 10) (x == 12) 102 _ (λ _ is. absurd (omega (arith, is))) (λ _.
    by_cond (λ l. l ≢ 10) (x == 10) 110 _ (λ _ is. absurd (omega (arith, is))) (λ _.
    by_cond (λ l. l ≢ 10) (x == 13) 114 _ (λ _ is. absurd (omega (arith, is))) (λ _.
    by_cond (λ l. l ≢ 10) (x == 9) 116 0 (λ _ is. absurd (omega (arith, is))) (λ _ is. absurd (omega (arith, is))))))))
  where
    own : ((x == 34) || (x == 92)) ≡ true → x ≢ 10
    own is = grind (arith, nat_tests)

hex_other : (d : ℕ) → digit_char d ≢ 10
hex_other d = by_cond (λ g. g ≢ 10) (nat_lt d 10) (48 + d) (87 + d) (λ _ is. absurd (omega (arith, is))) (λ _ is. absurd (omega (arith, is)))

not_small : (x : ℕ) → nat_lt x 32 ≡ false → x ≢ 10
not_small x large = grind (arith, nat_tests)

none_byte : (x : ℕ) → HasNone (escape_byte x)
unfolding escape_byte
none_byte x =
    by_cond HasNone (nat_lt 0 (escape_letter x)) (92 ∷ escape_letter x ∷ []) _ (λ _. none-cons 92 (escape_letter x ∷ []) (λ is. absurd (omega (arith, is))) (none_one (escape_letter x) (letter_other x)))
    (λ _. by_cond HasNone (nat_lt x 32) (92 ∷ 117 ∷ 48 ∷ 48 ∷ digit_char (x / 16) ∷ digit_char (x % 16) ∷ []) (x ∷ [])
    (λ _. none-append (92 ∷ 117 ∷ 48 ∷ 48 ∷ []) (digit_char (x / 16) ∷ digit_char (x % 16) ∷ []) refl
    (none-cons (digit_char (x / 16)) (digit_char (x % 16) ∷ []) (hex_other (x / 16)) (none_one (digit_char (x % 16)) (hex_other (x % 16)))))
    (λ large. none_one x (not_small x large)))

none_escape : (s : List ℕ) → HasNone (escape s)
none_escape [] = refl
none_escape (x ∷ s) = none-append (escape_byte x) (escape s) (none_byte x) (none_escape s)

none_quoted : (s : List ℕ) → HasNone (quoted s)
none_quoted s = none-append (escape s) (34 ∷ []) (none_escape s) refl

none_comma : (later : Bool) → HasNone (comma_if later)
none_comma true = refl
none_comma false = refl

mutual
  pub none_text : (d : Data) → HasNone (compact_text d)
  none_text null = refl
  none_text (boolean true) = refl
  none_text (boolean false) = refl
  none_text (number n) = none_number n
  none_text (string s) = none_quoted s
  none_text (array ds) = none_items false ds
  none_text (object ms) = none_members false ms

  none_items : (later : Bool) (ds : Items) → HasNone (items_text later ds)
  none_items later no_items = refl
  none_items later (item d ds) =
      none-append (comma_if later) (compact_text d ++ items_text true ds) (none_comma later)
      (none-append (compact_text d) (items_text true ds) (none_text d) (none_items true ds))

  none_members : (later : Bool) (ms : Members) → HasNone (members_text later ms)
  none_members later no_members = refl
  none_members later (member k d ms) =
      none-append (comma_if later) (quoted k ++ 58 ∷ (compact_text d ++ members_text true ms)) (none_comma later)
      (none-append (quoted k) (58 ∷ (compact_text d ++ members_text true ms)) (none_quoted k)
      (none-append (compact_text d) (members_text true ms) (none_text d) (none_members true ms)))

-- ---- replies

begins : (n : ℕ) (t : Told) → text_of n t ≡ 91 ∷ drop 1 (text_of n t)
begins n Accepted = refl
begins n (Cells values) = refl
begins n (Arrays arrays) = refl
begins n (Used units) = refl
begins n (Done tasks units shows) = refl
begins n (Refused code) = refl
begins n (Offends code place) = refl
begins n Lost = refl

-- a reply, or nothing
abbrev reply_or_none : Option (ℕ × Told) → List ℕ
reply_or_none r = unwrap_or (option_map (λ r. text_of r.0 r.1 ++ 10 ∷ []) r) []

none_reply : (n : ℕ) (t : Told) → HasNone (text_of n t)
none_reply n t = none_text (json_of n t)

whole-reply : (r : Option (ℕ × Told)) → IsWhole (reply_or_none r)
whole-reply None = whole-nil
whole-reply (Some r) = whole-line (text_of r.0 r.1) (none_reply r.0 r.1)

plain-reply : (r : Option (ℕ × Told)) → IsPlain (reply_or_none r)
plain-reply None = plain-nil
plain-reply (Some r) =
    let text = text_of r.0 r.1 in
    subst (λ t. IsPlain (t ++ 10 ∷ [])) (sym (begins r.0 r.1))
    (plain-line (drop 1 text) (or_right false _ (subst HasNone (begins r.0 r.1) (none_reply r.0 r.1))))

whole-last : (book : Register) → IsWhole (last_reply book)
whole-last book = whole-reply (reply_at book (length book.log - 1))

plain-last : (book : Register) → IsPlain (last_reply book)
plain-last book = plain-reply (reply_at book (length book.log - 1))

pub whole-told : (book : Register) (lines : Lines) → IsWhole (session_told book lines)
whole-told book [] = whole-nil
whole-told book (l ∷ lines) = whole-append (reply_line book l) (session_told (line_logged book l.0 l.1) lines) (whole-last (line_logged book l.0 l.1)) (whole-told (line_logged book l.0 l.1) lines)

pub plain-told : (book : Register) (lines : Lines) → IsPlain (session_told book lines)
plain-told book [] = plain-nil
plain-told book (l ∷ lines) =
    plain-append (reply_line book l) (session_told (line_logged book l.0 l.1) lines) (whole-last (line_logged book l.0 l.1)) (plain-last (line_logged book l.0 l.1)) (plain-told (line_logged book l.0 l.1) lines)

pub plain-closing : (e : Option End) → IsPlain (closing e)
plain-closing None = plain-nil
plain-closing (Some end.Bye) = plain-nil
plain-closing (Some end.EndOfInput) = plain-nil
plain-closing (Some end.Full) = plain-line (34 ∷ 102 ∷ 117 ∷ 108 ∷ 108 ∷ 34 ∷ 93 ∷ []) refl
plain-closing (Some end.LongLine) = plain-line (34 ∷ 108 ∷ 111 ∷ 110 ∷ 103 ∷ 34 ∷ 93 ∷ []) refl
plain-closing (Some end.Closed) = plain-nil
