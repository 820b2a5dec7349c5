-- Remarks on replies, a line more each time.
use Rattle.std.proofs.Common.{◌≡◌, ℕ, zero, suc, List, [], ◌∷◌, ◌++◌, refl, sym, ap, ◌∙◌, subst, arith, append_assoc, append-nil, Bool, true, false, ◌||◌, ◌==◌, All}
use Rattle.std.specs.Prelude.{Option, Some, None, is_some, codes}
use Rattle.std.specs.List.{list_any}
use Rattle.std.specs.Fmt.{decimal}
use Rattle.std.proofs.lemmas.List.Elements.{All-append}
use Rattle.ot_book.specs.Books.{Register, line_logged}
use Rattle.ot_session.specs.Session.{HasNoEnd, Lines, after, reply_line}
use Rattle.ot_why_explain.specs.Explaining.{remark_line, last_code, with_code, OpensWith, AreOn, Remarked, refuses, says}
use Rattle.ot_why_explain.specs.Listening.{IsRemarks, IsWhole}
use Rattle.ot_why_explain.specs.declared.explaining.Explained.{Explained}
use Rattle.ot_why_explain.specs.declared.explaining.Explained.TheVariants.{SomeRefused}
use Rattle.ot_why_explain.proofs.LineLemmas.{is_end, HasNone, or_left, or_right, none-append, whole-nil, IsHidden, hidden-nil, remarks-whole, remarks-hidden, flat_more}
use Rattle.ot_why_explain.proofs.ReplyLemmas.{none_decimal}

-- ---- texts

pub remarks_of : (code : ℕ) (text : List ℕ) → OpensWith code text → IsRemarks text
remarks_of code text o = record { lines = with_code code o.first ∷ o.later; are = o.are; is = o.is }

pub on-whole : (code : Option ℕ) (text : List ℕ) → AreOn code text → IsWhole text
on-whole None text are = subst IsWhole (sym are) whole-nil
on-whole (Some code) text are = remarks-whole text (remarks_of code text are)

pub on-hidden : (code : Option ℕ) (text : List ℕ) → AreOn code text → IsHidden text
on-hidden None text are = subst IsHidden (sym are) hidden-nil
on-hidden (Some code) text are = remarks-hidden text (remarks_of code text are)

-- what begins with bytes without an LF, cut at its first LF, begins with them
cut_behind : (front rest line behind : List ℕ) → HasNone front → front ++ rest ≡ line ++ 10 ∷ behind → (first : List ℕ) × (line ≡ front ++ first)
cut_behind [] rest line behind none is = (line, refl)
cut_behind (b ∷ front) rest [] behind none is =
    let ten : b ≡ 10 = cc in
    absurd (not_ten (ap (λ x. x == 10) ten) (or_left (b == 10) (list_any is_end front) none))
  where
    not_ten : (b == 10) ≡ true → (b == 10) ≡ false → ⊥
    not_ten same other = cc
cut_behind (b ∷ front) rest (c ∷ line) behind none is =
    let one : b ≡ c = cc in
    let more : front ++ rest ≡ line ++ 10 ∷ behind = cc in
    let cut = cut_behind front rest line behind (or_right (b == 10) (list_any is_end front) none) more in
    (cut.0, ap (λ x. x ∷ line) (sym one) ∙ ap (λ l. b ∷ l) cut.1)

none_front : (code : ℕ) → HasNone (decimal code ++ codes ": ")
none_front code = none-append (decimal code) (codes ": ") (none_decimal code) refl

-- the first line of a text that begins with the code
pub first_line : (code : ℕ) (first line behind : List ℕ) → with_code code first ≡ line ++ 10 ∷ behind → (rest : List ℕ) × (line ≡ with_code code rest)
first_line code first line behind is =
    let front = decimal code ++ codes ": " in
    let cut = cut_behind front first line behind (none_front code) (append_assoc (decimal code) (codes ": ") first ∙ is) in
    (cut.0, cut.1 ∙ append_assoc (decimal code) (codes ": ") cut.0)

only : (line : List ℕ) → HasNoEnd line → All HasNoEnd (line ∷ [])
only line clean zero d within = clean
only line clean (suc k) d within = absurd (omega (arith, within))

-- the first remark, and one more
pub opens_first : (code : ℕ) (line new : List ℕ) (rest : List ℕ) → HasNoEnd line → line ≡ with_code code rest → new ≡ remark_line line → OpensWith code new
opens_first code line new rest clean begins is = record {
  first = rest;
  later = [];
  are = subst (λ l. All HasNoEnd (l ∷ [])) begins (only line clean);
  is = is ∙ ap remark_line begins ∙ sym (append-nil (remark_line (with_code code rest)));
}

pub opens_more : (code : ℕ) (old new line : List ℕ) → OpensWith code old → HasNoEnd line → new ≡ old ++ remark_line line → OpensWith code new
opens_more code old new line o clean is = record {
  first = o.first;
  later = o.later ++ line ∷ [];
  are = All-append HasNoEnd (with_code code o.first ∷ o.later) (line ∷ []) o.are (only line clean);
  is = is ∙ ap (λ t. t ++ remark_line line) o.is ∙ sym (flat_more (with_code code o.first ∷ o.later) line);
}

-- ---- lines

pub remarked_more : (book : Register) (lines : Lines) (line : List ℕ × Bool) (text remarks : List ℕ) → Remarked book lines text →
    AreOn (last_code (line_logged (after book lines) line.0 line.1)) remarks → Remarked book (lines ++ line ∷ []) (text ++ (reply_line (after book lines) line ++ remarks))
remarked_more book [] line text remarks none are = (
  remarks,
  [],
  ap (λ t. t ++ (reply_line book line ++ remarks)) none ∙ ap (λ t. reply_line book line ++ t) (sym (append-nil remarks)),
  are,
  refl,
)
remarked_more book (l ∷ lines) line text remarks (own, later, is, on, more) are =
    let new = line_logged book l.0 l.1 in
    let last = reply_line (after new lines) line ++ remarks in (
      own,
      later ++ last,
      ap (λ t. t ++ last) is ∙ append_assoc (reply_line book l) (own ++ later) last ∙ ap (λ t. reply_line book l ++ t) (append_assoc own later last),
      on,
      remarked_more new lines line later remarks more are,
    )

bits : (a b c : Bool) → ((a || b) || c) ≡ (a || (b || c))
bits true b c = refl
bits false b c = refl

bits-none : (a : Bool) → (a || false) ≡ (false || a)
bits-none true = refl
bits-none false = refl

pub refuses-more : (book : Register) (lines : Lines) (line : List ℕ × Bool) → refuses book (lines ++ line ∷ []) ≡ (refuses book lines || is_some (last_code (line_logged (after book lines) line.0 line.1)))
refuses-more book [] line = bits-none (is_some (last_code (line_logged book line.0 line.1)))
refuses-more book (l ∷ lines) line =
    let new = line_logged book l.0 l.1 in
    let here = is_some (last_code new) in
    ap (λ b. here || b) (refuses-more new lines line) ∙ sym (bits here (refuses new lines) (is_some (last_code (line_logged (after new lines) line.0 line.1))))

-- what is said behind one line more
abbrev pub said_on : Explained → Bool → Explained
said_on said true = SomeRefused
said_on said false = said

pub says-more : (refused now : Bool) (said : Explained) → said ≡ says refused → said_on said now ≡ says (refused || now)
says-more true true said is = refl
says-more false true said is = refl
says-more true false said is = is
says-more false false said is = is
