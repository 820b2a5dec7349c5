-- What a session hears of a byte, a line or a piece more.
use Rattle.std.proofs.Common.{◌≡◌, ◌≢◌, ℕ, suc, ◌+◌, ◌≤◌, ◌<◌, List, [], ◌∷◌, ◌++◌, length, refl, sym, ap, ◌∙◌, arith, append_assoc, append-nil, length-append, Bool, true, false, inl, inr}
use Rattle.std.specs.Prelude.{Some, None, fold, nat_le, is_some, if◌then◌else◌, ◌==◌}
use Rattle.std.proofs.lemmas.List.Sums.{fold-append}
use Rattle.std.proofs.lemmas.Bool.{le-leb}
use Rattle.std.proofs.lemmas.Bool.Decides.{leb_tells, nat_tests}
use Rattle.ot_book.specs.Room.{Room, takes, room_after}
use Rattle.ot_session.specs.Session.{Heard, nothing_heard, hear, heard, with_line, with_byte, is_bye, max_line, HasNoEnd}
use Rattle.ot_session.specs.declared.fault.End.{End}
use Rattle.ot_session.specs.declared.fault.End.TheVariants.{Bye, Full, LongLine}

pub heard-more : (room : Room) (bytes : List ℕ) (byte : ℕ) → heard room (bytes ++ byte ∷ []) ≡ hear room (heard room bytes) byte
heard-more room bytes byte = fold-append (hear room) nothing_heard bytes (byte ∷ [])

-- a line so far, in a session that goes on
abbrev pub at_line : List (List ℕ) → List ℕ → Heard
at_line lines partial = record { lines = lines; partial = partial; end = None }

pub with_line-bye : (room : Room) (lines : List (List ℕ)) (line : List ℕ) → is_bye line ≡ true →
    with_line room (at_line lines line) ≡ record { lines = lines; partial = []; end = Some Bye }
with_line-bye room lines line bye = rw bye refl

pub with_line-full : (room : Room) (lines : List (List ℕ)) (line : List ℕ) → is_bye line ≡ false → takes (room_after room lines) line ≡ false →
    with_line room (at_line lines line) ≡ record { lines = lines; partial = []; end = Some Full }
with_line-full room lines line bye full = rw (bye, full) refl

not_le : (a b : ℕ) → b < a → nat_le a b ≡ false
not_le a b below = elim (leb_tells a b) [ inl (test, within) ↦ absurd (omega (arith, within)) | inr (test, past) ↦ test ]

pub with_line-request : (room : Room) (lines : List (List ℕ)) (line : List ℕ) → is_bye line ≡ false → takes (room_after room lines) line ≡ true →
    with_line room (at_line lines line) ≡ at_line (lines ++ line ∷ []) []
with_line-request room lines line bye free = rw (bye, free) refl

pub with_byte-long : (lines : List (List ℕ)) (partial : List ℕ) (byte : ℕ) → max_line ≤ length partial →
    with_byte (at_line lines partial) byte ≡ record { lines = lines; partial = partial; end = Some LongLine }
with_byte-long lines partial byte long = rw (le-leb max_line (length partial) long) refl

pub with_byte-more : (lines : List (List ℕ)) (partial : List ℕ) (byte : ℕ) → length partial < max_line →
    with_byte (at_line lines partial) byte ≡ at_line lines (partial ++ byte ∷ [])
with_byte-more lines partial byte short = rw (not_le max_line (length partial) short) refl

eqb_other : (byte : ℕ) → byte ≢ 10 → (byte == 10) ≡ false
eqb_other byte other = grind (arith, nat_tests)

-- a byte that isn't an LF
pub hear-other : (room : Room) (lines : List (List ℕ)) (partial : List ℕ) (byte : ℕ) → byte ≢ 10 → hear room (at_line lines partial) byte ≡ with_byte (at_line lines partial) byte
hear-other room lines partial byte other = rw (eqb_other byte other) refl

-- ---- more bytes

pub heard-append : (room : Room) (bytes more : List ℕ) → heard room (bytes ++ more) ≡ fold (hear room) (heard room bytes) more
heard-append room bytes more = fold-append (hear room) nothing_heard bytes more

-- after the end nothing is heard
pub heard_ended : (room : Room) (h : Heard) (e : End) (more : List ℕ) → h.end ≡ Some e → fold (hear room) h more ≡ h
heard_ended room h e [] is = refl
heard_ended room h e (b ∷ more) is =
    let stays : hear room h b ≡ h = ap (λ o. if is_some o then h else (if b == 10 then with_line room h else with_byte h b)) is in
    ap (λ x. fold (hear room) x more) stays ∙ heard_ended room h e more is

abbrev Grows : Heard → Heard → Type 0
Grows h now = (extra : List (List ℕ)) × (now.lines ≡ h.lines ++ extra)

grows-if : (b : Bool) (h x y : Heard) → Grows h x → Grows h y → Grows h (if b then x else y)
grows-if true h x y gx gy = gx
grows-if false h x y gx gy = gy

grows-none : (h now : Heard) → now.lines ≡ h.lines → Grows h now
grows-none h now is = ([], is ∙ sym (append-nil h.lines))

grows-hear : (room : Room) (h : Heard) (b : ℕ) → Grows h (hear room h b)
grows-hear room h b =
    let bye : Heard = record { lines = h.lines; partial = []; end = Some Bye } in
    let full : Heard = record { lines = h.lines; partial = []; end = Some Full } in
    let request : Heard = record { lines = h.lines ++ h.partial ∷ []; partial = []; end = None } in
    let long : Heard = record { lines = h.lines; partial = h.partial; end = Some LongLine } in
    let longer : Heard = record { lines = h.lines; partial = h.partial ++ b ∷ []; end = None } in
    grows-if (is_some h.end) h h (if b == 10 then with_line room h else with_byte h b) (grows-none h h refl)
    (grows-if (b == 10) h (with_line room h) (with_byte h b)
    (grows-if (is_bye h.partial) h bye (if takes (room_after room h.lines) h.partial then request else full) (grows-none h bye refl)
    (grows-if (takes (room_after room h.lines) h.partial) h request full (h.partial ∷ [], refl) (grows-none h full refl)))
    (grows-if (nat_le max_line (length h.partial)) h long longer (grows-none h long refl) (grows-none h longer refl)))

-- the lines that were heard stay the first
pub lines_grow : (room : Room) (h : Heard) (more : List ℕ) → (extra : List (List ℕ)) × ((fold (hear room) h more).lines ≡ h.lines ++ extra)
lines_grow room h [] = ([], sym (append-nil h.lines))
lines_grow room h (b ∷ more) =
    let one = grows-hear room h b in
    let rest = lines_grow room (hear room h b) more in
    (one.0 ++ rest.0, rest.1 ∙ ap (λ ls. ls ++ rest.0) one.1 ∙ append_assoc h.lines one.0 rest.0)

-- ---- a piece of a line, in which no LF stands

without_first : (b : ℕ) (bs : List ℕ) → HasNoEnd (b ∷ bs) → HasNoEnd bs
without_first b bs clean = λ k within. clean (suc k) (omega (arith, within))

-- a piece is appended
pub heard-piece : (room : Room) (lines : List (List ℕ)) (partial piece : List ℕ) → HasNoEnd piece → length partial + length piece ≤ max_line →
    fold (hear room) (at_line lines partial) piece ≡ at_line lines (partial ++ piece)
heard-piece room lines partial [] clean fits = ap (at_line lines) (sym (append-nil partial))
heard-piece room lines partial (b ∷ bs) clean fits =
    let one : hear room (at_line lines partial) b ≡ at_line lines (partial ++ b ∷ []) =
    hear-other room lines partial b (clean 0 (omega arith)) ∙ with_byte-more lines partial b (omega (arith, fits)) in
    let long : length (partial ++ b ∷ []) ≡ length partial + 1 = length-append partial (b ∷ []) in
    ap (λ h. fold (hear room) h bs) one
    ∙ heard-piece room lines (partial ++ b ∷ []) bs (without_first b bs clean) (omega (arith, fits, long))
    ∙ ap (at_line lines) (append_assoc partial (b ∷ []) bs)

-- a piece that is too long for a line
pub heard-long : (room : Room) (lines : List (List ℕ)) (partial piece : List ℕ) → HasNoEnd piece → length partial ≤ max_line → max_line < length partial + length piece →
    (part : List ℕ) × (fold (hear room) (at_line lines partial) piece ≡ record { lines = lines; partial = part; end = Some LongLine })
heard-long room lines partial [] clean short long = absurd (omega (arith, short, long))
heard-long room lines partial (b ∷ bs) clean short long =
    let other = hear-other room lines partial b (clean 0 (omega arith)) in
    elim (leb_tells max_line (length partial)) [
      | inl (test, past) ↦ (
        partial,
        ap (λ h. fold (hear room) h bs) (other ∙ with_byte-long lines partial b past)
            ∙ heard_ended room (record { lines = lines; partial = partial; end = Some LongLine }) LongLine bs refl,
      )
      | inr (test, below) ↦ (
          let more : length (partial ++ b ∷ []) ≡ length partial + 1 = length-append partial (b ∷ []) in
          let rest = heard-long room lines (partial ++ b ∷ []) bs (without_first b bs clean) (omega (arith, below, more)) (omega (arith, long, more)) in
          (rest.0, ap (λ h. fold (hear room) h bs) (other ∙ with_byte-more lines partial b (omega (arith, below))) ∙ rest.1)
          )
    ]
