-- What a session is after a piece, a line or a read more.
use Rattle.std.proofs.Common.{◌≡◌, ◌⊎◌, ℕ, ◌+◌, ◌-◌, ◌≤◌, ◌<◌, List, [], ◌∷◌, ◌++◌, length, take, drop, refl, sym, ap, ◌∙◌, subst, arith, append_assoc, append-nil, length-append, take_all, le_refl, Bool, true, false, true≢false, inl, inr}
use Rattle.std.specs.Prelude.{Option, Some, None, Result, Ok, Err, OnOk, OnErr, IfErr, ⊤, fold, slice_get}
use Rattle.std.specs.Io.KnownBytes.{Appends}
use Rattle.std.proofs.KnownBytes.{Appends-nil, Appends-trans}
use Rattle.std.proofs.Math.ListN.{take-append-drop}
use Rattle.std.proofs.Math.Seq.{take-append_seam}
use Rattle.std.proofs.lemmas.List.{take-append-le}
use Rattle.ot_book.specs.Books.{Register, next_number, line_logged}
use Rattle.ot_book.specs.Room.{room_in, takes, room_after}
use Rattle.ot_book.proofs.RoomLemmas.{full-takes, free-takes}
use Rattle.ot_check.proofs.SetLemmas.{slice_get-more}
use Rattle.ot_session.specs.Serving.{AppendsFront, result_of, Going, Goes}
use Rattle.ot_session.specs.Turns.{LogsLine, WouldRun}
use Rattle.ot_session.specs.Session.{Heard, hear, with_line, is_bye, max_line, HasNoEnd, closing, heard_in, session_text, logged_lines, TellsAll, LeavesRun, BreaksOff, SessionTells, Session, Lines, texts, line_marks, marked_lines, after, session_told, reply_line, last_reply, RunsProgram}
use Rattle.ot_session.specs.declared.fault.End.{End}
use Rattle.ot_session.specs.declared.fault.End.TheVariants as end
use Rattle.ot_session.specs.declared.fault.FrontFault.{FrontFault}
use Rattle.ot_session.specs.declared.fault.FrontFault.TheVariants as fault
use Rattle.ot_session.specs.declared.stop.Stop.{Stop}
use Rattle.ot_session.specs.declared.stop.Stop.TheVariants.{Bye, Full, LongLine, Closed, Stranger, WriteFailed, Memory}
use Rattle.ot_session.proofs.HeardLemmas.{heard-more, at_line, with_line-bye, with_line-full, with_line-request, heard-append, heard_ended, lines_grow, heard-piece, heard-long}
use Rattle.ot_session.proofs.ToldLemmas.{length-texts, length-marks, texts-more, marked-texts, marked-append, length-marked, after-more, told-more, told-append, told-take, room-after, next-after, pending-after, slice_get-seam}

-- ---- the marks of logged lines

take-marks : (lines more : Lines) → take (length (line_marks lines)) (lines ++ more) ≡ lines
take-marks lines more = ap (λ n. take n (lines ++ more)) (length-marks lines) ∙ take-append_seam lines more

-- lines with marks are the first of those that are heard
pub logged_lines-marks : (first : Register) (bytes : List ℕ) (lines : Lines) (rest : List (List ℕ)) → (heard_in first bytes).lines ≡ texts lines ++ rest →
    logged_lines first bytes (line_marks lines) ≡ lines
logged_lines-marks first bytes lines rest hears =
    ap (λ ls. take (length (line_marks lines)) (marked_lines ls (line_marks lines))) hears
    ∙ ap (take (length (line_marks lines))) (marked-texts lines rest)
    ∙ take-marks lines (marked_lines rest [])

-- the replies to them, and then the rest of the text
pub session_text-marks : (first : Register) (bytes : List ℕ) (lines : Lines) (rest : List (List ℕ)) → (heard_in first bytes).lines ≡ texts lines ++ rest →
    session_text first bytes (line_marks lines) ≡ session_told first lines ++ (session_told (after first lines) (marked_lines rest []) ++ closing (heard_in first bytes).end)
session_text-marks first bytes lines rest hears =
    let end = closing (heard_in first bytes).end in
    ap (λ ls. session_told first (marked_lines ls (line_marks lines)) ++ end) hears
    ∙ ap (λ ls. session_told first ls ++ end) (marked-texts lines rest)
    ∙ ap (λ text. text ++ end) (told-append first lines (marked_lines rest []))
    ∙ append_assoc (session_told first lines) (session_told (after first lines) (marked_lines rest [])) end

few-marks : (first : Register) (bytes : List ℕ) (lines : Lines) (rest : List (List ℕ)) → (heard_in first bytes).lines ≡ texts lines ++ rest →
    length (line_marks lines) ≤ length (heard_in first bytes).lines
few-marks first bytes lines rest hears =
    omega (arith, ap length hears, length-append (texts lines) rest, length-texts lines, length-marks lines)

-- a session whose logged lines are these
pub session_of : (first : Register) (start : Option (List ℕ)) (bytes : List ℕ) (book : Register) (held : Option (List ℕ)) (lines : Lines) (rest : List (List ℕ)) (written : List ℕ) (result : Result End FrontFault) →
    (heard_in first bytes).lines ≡ texts lines ++ rest → book ≡ after first lines → Appends start held written → SessionTells first bytes (line_marks lines) written result →
    Session first book bytes start held result
session_of first start bytes book held lines rest written result hears logs writes tells = record {
  lost = line_marks lines;
  written = written;
  few = few-marks first bytes lines rest hears;
  grown = omega (arith, ap next_number logs, next-after first lines, length-marks lines);
  logs = logs ∙ ap (after first) (sym (logged_lines-marks first bytes lines rest hears));
  writes = writes;
  tells = tells;
}

-- all lines are logged and all is told
pub tells_all : (first : Register) (bytes : List ℕ) (lines : Lines) (partial : List ℕ) (end : Option End) → heard_in first bytes ≡ record { lines = texts lines; partial = partial; end = end } →
    TellsAll first bytes (line_marks lines) (session_told first lines ++ closing end) end
tells_all first bytes lines partial end hears =
    let all : (heard_in first bytes).lines ≡ texts lines = ap (λ (h : Heard). h.lines) hears in
    let ends : (heard_in first bytes).end ≡ end = ap (λ (h : Heard). h.end) hears in record {
      ends = ends;
      logs = length-marks lines ∙ sym (length-texts lines) ∙ ap length (sym all);
      tells = sym (session_text-marks first bytes lines [] (all ∙ sym (append-nil (texts lines))) ∙ ap (λ e. session_told first lines ++ closing e) ends);
    }

-- a session that has told all
session_all : (first : Register) (start : Option (List ℕ)) (bytes : List ℕ) (book : Register) (held now : Option (List ℕ)) (lines : Lines) (partial : List ℕ) (end : Option End) (result : Result End FrontFault) →
    heard_in first bytes ≡ record { lines = texts lines; partial = partial; end = end } → book ≡ after first lines → Appends start held (session_told first lines) → Appends held now (closing end) →
    (TellsAll first bytes (line_marks lines) (session_told first lines ++ closing end) end → SessionTells first bytes (line_marks lines) (session_told first lines ++ closing end) result) →
    Session first book bytes start now result
session_all first start bytes book held now lines partial end result hears logs writes closes tells =
    session_of first start bytes book now lines [] (session_told first lines ++ closing end) result
    (ap (λ (h : Heard). h.lines) hears ∙ sym (append-nil (texts lines))) logs
    (Appends-trans start held now (session_told first lines) (closing end) writes closes)
    (tells (tells_all first bytes lines partial end hears))

-- the session broke off in its text
breaks_off : (first : Register) (bytes : List ℕ) (lines : Lines) (rest : List (List ℕ)) (written missing : List ℕ) → (heard_in first bytes).lines ≡ texts lines ++ rest →
    session_told first lines ++ (session_told (after first lines) (marked_lines rest []) ++ closing (heard_in first bytes).end) ≡ written ++ missing →
    length (session_told first (take (length lines - 1) lines)) ≤ length written → (length written ≤ length (session_told first lines)) ⊎ (rest ≡ []) →
    BreaksOff first bytes (line_marks lines) written
breaks_off first bytes lines rest written missing hears begins most least =
    let logged_is = sym (logged_lines-marks first bytes lines rest hears) in
    let count : length lines - 1 ≡ length (line_marks lines) - 1 = ap (λ n. n - 1) (sym (length-marks lines)) in record {
      missing = missing;
      begins = session_text-marks first bytes lines rest hears ∙ begins;
      all_but_last =
          subst (λ ls. length (session_told first (take (length (line_marks lines) - 1) ls)) ≤ length written) logged_is
          (subst (λ n. length (session_told first (take n lines)) ≤ length written) count most);
      no_other = elim least [
        | inl within ↦ inl (subst (λ ls. length written ≤ length (session_told first ls)) logged_is within)
        | inr none ↦ inr
            (length-marks lines
            ∙ sym (length-texts lines)
            ∙ ap length (sym (append-nil (texts lines)))
            ∙ ap (λ ls. length (texts lines ++ ls)) (sym none)
            ∙ ap length (sym hears))
      ];
    }

-- the session broke off between two replies
pub breaks_between : (first : Register) (bytes : List ℕ) (lines : Lines) (rest : List (List ℕ)) → (heard_in first bytes).lines ≡ texts lines ++ rest → BreaksOff first bytes (line_marks lines) (session_told first lines)
breaks_between first bytes lines rest hears =
    breaks_off first bytes lines rest (session_told first lines) (session_told (after first lines) (marked_lines rest []) ++ closing (heard_in first bytes).end) hears refl
    (told-take first lines (length lines - 1)) (inl (le_refl (length (session_told first lines))))

-- it broke off in the way it closes
pub breaks_closing : (first : Register) (bytes : List ℕ) (lines : Lines) (partial : List ℕ) (end : Option End) (n : ℕ) →
    heard_in first bytes ≡ record { lines = texts lines; partial = partial; end = end } → BreaksOff first bytes (line_marks lines) (session_told first lines ++ take n (closing end))
breaks_closing first bytes lines partial end n hears =
    let all : (heard_in first bytes).lines ≡ texts lines ++ [] = ap (λ (h : Heard). h.lines) hears ∙ sym (append-nil (texts lines)) in
    let parts = ap (λ (h : Heard). session_told first lines ++ closing h.end) hears
    ∙ ap (λ text. session_told first lines ++ text) (sym (take-append-drop n (closing end)))
    ∙ sym (append_assoc (session_told first lines) (take n (closing end)) (drop n (closing end))) in
    let longer = length-append (session_told first lines) (take n (closing end)) in
    breaks_off first bytes lines [] (session_told first lines ++ take n (closing end)) (drop n (closing end)) all parts
    (omega (arith, longer, told-take first lines (length lines - 1))) (inr refl)

-- it broke off in the last reply
breaks_reply : (first : Register) (bytes : List ℕ) (lines : Lines) (line : List ℕ × Bool) (n : ℕ) → (heard_in first bytes).lines ≡ texts (lines ++ line ∷ []) →
    BreaksOff first bytes (line_marks (lines ++ line ∷ [])) (session_told first lines ++ take n (reply_line (after first lines) line))
breaks_reply first bytes lines line n hears =
    let reply = reply_line (after first lines) line in
    let whole : session_told first (lines ++ line ∷ []) ≡ (session_told first lines ++ take n reply) ++ drop n reply =
    told-more first lines line
    ∙ ap (λ text. session_told first lines ++ text) (sym (take-append-drop n reply))
    ∙ sym (append_assoc (session_told first lines) (take n reply) (drop n reply)) in
    let rest = closing (heard_in first bytes).end in
    let before : take (length (lines ++ line ∷ []) - 1) (lines ++ line ∷ []) ≡ lines =
    ap (λ k. take k (lines ++ line ∷ [])) (let place : length (lines ++ line ∷ []) - 1 ≡ length lines = omega (arith, length-append lines (line ∷ [])) in place)
    ∙ take-append_seam lines (line ∷ []) in
    breaks_off first bytes (lines ++ line ∷ []) [] (session_told first lines ++ take n reply) (drop n reply ++ rest)
    (hears ∙ sym (append-nil (texts (lines ++ line ∷ []))))
    (ap (λ text. text ++ rest) whole ∙ append_assoc (session_told first lines ++ take n reply) (drop n reply) rest)
    (omega (arith, ap (λ ls. length (session_told first ls)) before, length-append (session_told first lines) (take n reply)))
    (inl (omega (arith, ap length whole, length-append (session_told first lines ++ take n reply) (drop n reply))))

-- ---- a whole line

hears_line : {first : Register} {start : Option (List ℕ)} {bytes line : List ℕ} {book : Register} {held : Option (List ℕ)} →
    (going : Going first start bytes line book held) →
    heard_in first (bytes ++ 10 ∷ []) ≡ with_line (room_in first) (at_line (texts going.lines) line)
hears_line {first} {start} {bytes} {line} going =
    heard-more (room_in first) bytes 10 ∙ ap (λ h. hear (room_in first) h 10) going.hears

hears_full : {first : Register} {start : Option (List ℕ)} {bytes line : List ℕ} {book : Register} {held : Option (List ℕ)} →
    (going : Going first start bytes line book held) → is_bye line ≡ false → takes (room_in book) line ≡ false →
    heard_in first (bytes ++ 10 ∷ []) ≡ record { lines = texts going.lines; partial = []; end = Some end.Full }
hears_full {first} {start} {bytes} {line} going bye full =
    let no : takes (room_after (room_in first) (texts going.lines)) line ≡ false =
    ap (λ r. takes r line) (sym (room-after first going.lines) ∙ ap room_in (sym going.logs)) ∙ full in
    hears_line going ∙ with_line-full (room_in first) (texts going.lines) line bye no

hears_request : {first : Register} {start : Option (List ℕ)} {bytes line : List ℕ} {book : Register} {held : Option (List ℕ)} →
    (going : Going first start bytes line book held) → is_bye line ≡ false → takes (room_in book) line ≡ true →
    heard_in first (bytes ++ 10 ∷ []) ≡ at_line (texts going.lines ++ line ∷ []) []
hears_request {first} {start} {bytes} {line} going bye free =
    let yes : takes (room_after (room_in first) (texts going.lines)) line ≡ true =
    ap (λ r. takes r line) (sym (room-after first going.lines) ∙ ap room_in (sym going.logs)) ∙ free in
    hears_line going ∙ with_line-request (room_in first) (texts going.lines) line bye yes

pub stops_bye : {first : Register} {start : Option (List ℕ)} {bytes line : List ℕ} {book : Register} {held : Option (List ℕ)} →
    Going first start bytes line book held → is_bye line ≡ true → Session first book (bytes ++ 10 ∷ []) start held (Ok end.Bye)
stops_bye {first} {start} {bytes} {line} {book} {held} going bye =
    session_all first start (bytes ++ 10 ∷ []) book held held going.lines [] (Some end.Bye) (Ok end.Bye)
    (hears_line going ∙ with_line-bye (room_in first) (texts going.lines) line bye) going.logs going.writes (Appends-nil held) (λ all. all)

-- the session broke off where it was to close
stops_in_closing : (first : Register) (start : Option (List ℕ)) (bytes : List ℕ) (book : Register) (held now : Option (List ℕ)) (lines : Lines) (partial : List ℕ) (end : Option End) →
    heard_in first bytes ≡ record { lines = texts lines; partial = partial; end = end } → book ≡ after first lines → Appends start held (session_told first lines) →
    AppendsFront held now (closing end) → Session first book bytes start now (Err fault.WriteFailed)
stops_in_closing first start bytes book held now lines partial end hears logs writes front =
    session_of first start bytes book now lines [] (session_told first lines ++ take front.0 (closing end)) (Err fault.WriteFailed)
    (ap (λ (h : Heard). h.lines) hears ∙ sym (append-nil (texts lines))) logs
    (Appends-trans start held now (session_told first lines) (take front.0 (closing end)) writes front.2)
    (breaks_closing first bytes lines partial end front.0 hears)

-- the line is logged and its reply written
pub going_on : {first : Register} {start : Option (List ℕ)} {bytes line : List ℕ} {book : Register} {held : Option (List ℕ)} →
    (new : Register) (now : Option (List ℕ)) (lost : Bool) → Going first start bytes line book held → is_bye line ≡ false → takes (room_in book) line ≡ true →
    new ≡ line_logged book line lost → Appends held now (reply_line book (line, lost)) → Going first start (bytes ++ 10 ∷ []) [] new now
going_on {first} {start} {bytes} {line} {book} {held} new now lost going bye free is writes =
    let next : List ℕ × Bool = (line, lost) in
    let reply_is : reply_line book next ≡ reply_line (after first going.lines) next = ap (λ b. reply_line b next) going.logs in record {
      lines = going.lines ++ next ∷ [];
      hears = hears_request going bye free ∙ ap (λ ls. at_line ls []) (sym (texts-more going.lines next));
      short = omega arith;
      logs = is ∙ ap (λ b. line_logged b line lost) going.logs ∙ sym (after-more first going.lines next);
      writes =
          subst (Appends start now) (ap (λ r. session_told first going.lines ++ r) reply_is ∙ sym (told-more first going.lines next))
          (Appends-trans start held now (session_told first going.lines) (reply_line book next) going.writes writes);
    }

-- the line is logged, and its reply is cut
pub stops_in_reply : {first : Register} {start : Option (List ℕ)} {bytes line : List ℕ} {book : Register} {held : Option (List ℕ)} →
    (new : Register) (now : Option (List ℕ)) (lost : Bool) (result : Result End FrontFault) → Going first start bytes line book held → is_bye line ≡ false → takes (room_in book) line ≡ true →
    new ≡ line_logged book line lost → (n : ℕ) × Appends held now (take n (reply_line book (line, lost))) →
    ((lost : List Bool) (written : List ℕ) → BreaksOff first (bytes ++ 10 ∷ []) lost written → SessionTells first (bytes ++ 10 ∷ []) lost written result) →
    Session first new (bytes ++ 10 ∷ []) start now result
stops_in_reply {first} {start} {bytes} {line} {book} {held} new now lost result going bye free is front tells =
    let next : List ℕ × Bool = (line, lost) in
    let reply_is : reply_line book next ≡ reply_line (after first going.lines) next = ap (λ b. reply_line b next) going.logs in
    let part : Appends held now (take front.0 (reply_line (after first going.lines) next)) = subst (λ text. Appends held now (take front.0 text)) reply_is front.1 in
    let hears : (heard_in first (bytes ++ 10 ∷ [])).lines ≡ texts (going.lines ++ next ∷ []) =
    ap (λ (h : Heard). h.lines) (hears_request going bye free) ∙ sym (texts-more going.lines next) in
    session_of first start (bytes ++ 10 ∷ []) new now (going.lines ++ next ∷ []) [] (session_told first going.lines ++ take front.0 (reply_line (after first going.lines) next)) result
    (hears ∙ sym (append-nil (texts (going.lines ++ next ∷ []))))
    (is ∙ ap (λ b. line_logged b line lost) going.logs ∙ sym (after-more first going.lines next))
    (Appends-trans start held now (session_told first going.lines) _ going.writes part)
    (tells (line_marks (going.lines ++ next ∷ [])) _ (breaks_reply first (bytes ++ 10 ∷ []) going.lines next front.0 hears))

-- the line changed nothing, and nothing was written
stops_unlogged : {first : Register} {start : Option (List ℕ)} {bytes line : List ℕ} {book : Register} {held : Option (List ℕ)} →
    (new : Register) (result : Result End FrontFault) → (going : Going first start bytes line book held) → is_bye line ≡ false → takes (room_in book) line ≡ true → new ≡ book →
    SessionTells first (bytes ++ 10 ∷ []) (line_marks going.lines) (session_told first going.lines) result →
    Session first new (bytes ++ 10 ∷ []) start held result
stops_unlogged {first} {start} {bytes} {line} {book} {held} new result going bye free is tells =
    session_of first start (bytes ++ 10 ∷ []) new held going.lines (line ∷ []) (session_told first going.lines) result
    (ap (λ (h : Heard). h.lines) (hears_request going bye free)) (is ∙ going.logs) going.writes tells

-- there was no memory for the line, or to see whether there is room for it
pub stops_memory : {first : Register} {start : Option (List ℕ)} {bytes line : List ℕ} {book : Register} {held : Option (List ℕ)} →
    (new : Register) → Going first start bytes line book held → is_bye line ≡ false → new ≡ book →
    Session first new (bytes ++ 10 ∷ []) start held (Err fault.Memory)
stops_memory {first} {start} {bytes} {line} {book} {held} new going bye is = by_room (takes (room_in book) line) refl
  where
    by_room : (test : Bool) → takes (room_in book) line ≡ test → Session first new (bytes ++ 10 ∷ []) start held (Err fault.Memory)
    by_room true free =
        stops_unlogged new (Err fault.Memory) going bye free is
        (breaks_between first (bytes ++ 10 ∷ []) going.lines (line ∷ []) (ap (λ (h : Heard). h.lines) (hears_request going bye free)))
    by_room false full =
        let hears = hears_full going bye full in
        session_of first start (bytes ++ 10 ∷ []) new held going.lines [] (session_told first going.lines) (Err fault.Memory)
        (ap (λ (h : Heard). h.lines) hears ∙ sym (append-nil (texts going.lines))) (is ∙ going.logs) going.writes
        (breaks_between first (bytes ++ 10 ∷ []) going.lines [] (ap (λ (h : Heard). h.lines) hears ∙ sym (append-nil (texts going.lines))))

leaves_run : {first : Register} {start : Option (List ℕ)} {bytes line : List ℕ} {book : Register} {held : Option (List ℕ)} →
    (going : Going first start bytes line book held) → is_bye line ≡ false → takes (room_in book) line ≡ true → RunsProgram book line →
    LeavesRun first (bytes ++ 10 ∷ []) (line_marks going.lines) (session_told first going.lines)
leaves_run {first} {start} {bytes} {line} going bye free runs =
    let lines = going.lines in
    let hears : (heard_in first (bytes ++ 10 ∷ [])).lines ≡ texts lines ++ line ∷ [] = ap (λ (h : Heard). h.lines) (hears_request going bye free) in
    let logged_is = sym (logged_lines-marks first (bytes ++ 10 ∷ []) lines (line ∷ []) hears) in
    let place : length (line_marks lines) ≡ length (texts lines) = length-marks lines ∙ sym (length-texts lines) in record {
      next = line;
      is_next = ap (λ ls. slice_get ls (length (line_marks lines))) hears ∙ ap (slice_get (texts lines ++ line ∷ [])) place ∙ slice_get-seam (texts lines) line [];
      runs = subst (λ b. RunsProgram b line) (going.logs ∙ ap (after first) logged_is) runs;
      tells = ap (session_told first) logged_is;
    }

-- ---- a piece of a line

hears_piece : {first : Register} {start : Option (List ℕ)} {bytes partial : List ℕ} {book : Register} {held : Option (List ℕ)} →
    (going : Going first start bytes partial book held) (piece : List ℕ) → HasNoEnd piece → length partial + length piece ≤ max_line →
    heard_in first (bytes ++ piece) ≡ at_line (texts going.lines) (partial ++ piece)
hears_piece {first} {start} {bytes} {partial} going piece clean fits =
    heard-append (room_in first) bytes piece
    ∙ ap (λ h. fold (hear (room_in first)) h piece) going.hears
    ∙ heard-piece (room_in first) (texts going.lines) partial piece clean fits

pub going_piece : {first : Register} {start : Option (List ℕ)} {bytes partial : List ℕ} {book : Register} {held : Option (List ℕ)} →
    (piece : List ℕ) → Going first start bytes partial book held → HasNoEnd piece → length partial + length piece ≤ max_line →
    Going first start (bytes ++ piece) (partial ++ piece) book held
going_piece {first} {start} {bytes} {partial} piece going clean fits = record {
  lines = going.lines;
  hears = hears_piece going piece clean fits;
  short = omega (arith, fits, length-append partial piece);
  logs = going.logs;
  writes = going.writes;
}

hears_long : {first : Register} {start : Option (List ℕ)} {bytes partial : List ℕ} {book : Register} {held : Option (List ℕ)} →
    (going : Going first start bytes partial book held) (piece : List ℕ) → HasNoEnd piece → max_line < length partial + length piece →
    (part : List ℕ) × (heard_in first (bytes ++ piece) ≡ record { lines = texts going.lines; partial = part; end = Some end.LongLine })
hears_long {first} {start} {bytes} {partial} going piece clean long =
    let room = room_in first in
    let far = heard-long room (texts going.lines) partial piece clean going.short long in
    (far.0, heard-append room bytes piece ∙ ap (λ h. fold (hear room) h piece) going.hears ∙ far.1)

pub stops_long : {first : Register} {start : Option (List ℕ)} {bytes partial : List ℕ} {book : Register} {held now : Option (List ℕ)} →
    (piece : List ℕ) → Going first start bytes partial book held → HasNoEnd piece → max_line < length partial + length piece → Appends held now (closing (Some end.LongLine)) →
    Session first book (bytes ++ piece) start now (Ok end.LongLine)
stops_long {first} {start} {bytes} {partial} {book} {held} {now} piece going clean long writes =
    let far = hears_long going piece clean long in
    session_all first start (bytes ++ piece) book held now going.lines far.0 (Some end.LongLine) (Ok end.LongLine) far.1 going.logs going.writes writes (λ all. all)

pub stops_in_long : {first : Register} {start : Option (List ℕ)} {bytes partial : List ℕ} {book : Register} {held now : Option (List ℕ)} →
    (piece : List ℕ) → Going first start bytes partial book held → HasNoEnd piece → max_line < length partial + length piece → AppendsFront held now (closing (Some end.LongLine)) →
    Session first book (bytes ++ piece) start now (Err fault.WriteFailed)
stops_in_long {first} {start} {bytes} {partial} {book} {held} {now} piece going clean long front =
    let far = hears_long going piece clean long in
    stops_in_closing first start (bytes ++ piece) book held now going.lines far.0 (Some end.LongLine) far.1 going.logs going.writes front

-- ---- the reply to a line

pub goes_reply : {first : Register} {start : Option (List ℕ)} {bytes line : List ℕ} {book : Register} {held : Option (List ℕ)} →
    (new : Register) (now : Option (List ℕ)) (r : Result ⊤ Stop) → Going first start bytes line book held → is_bye line ≡ false → takes (room_in book) line ≡ true →
    (lost : Bool) × (new ≡ line_logged book line lost) → OnOk r (Appends held now (last_reply new)) → OnErr r ((n : ℕ) × Appends held now (take n (last_reply new))) →
    IfErr r (λ stop. (stop ≡ WriteFailed) ⊎ (stop ≡ Memory)) → Goes first start (bytes ++ 10 ∷ []) [] new now r
goes_reply {first} {start} {bytes} {line} {book} {held} new now (Ok done) going bye free is written cut stops =
    going_on new now is.0 going bye free is.1 (subst (Appends held now) (ap last_reply is.1) written)
goes_reply {first} {start} {bytes} {line} {book} {held} new now (Err WriteFailed) going bye free is written cut stops =
    stops_in_reply new now is.0 (Err fault.WriteFailed) going bye free is.1
    (cut.0, subst (λ text. Appends held now (take cut.0 text)) (ap last_reply is.1) cut.1) (λ lost written off. off)
goes_reply {first} {start} {bytes} {line} {book} {held} new now (Err Memory) going bye free is written cut stops =
    stops_in_reply new now is.0 (Err fault.Memory) going bye free is.1
    (cut.0, subst (λ text. Appends held now (take cut.0 text)) (ap last_reply is.1) cut.1) (λ lost written off. off)
goes_reply new now (Err other) going bye free is written cut stops = elim stops [ inl same ↦ absurd (cc) | inr same ↦ absurd (cc) ]

-- ---- a line that was offered to the book

closed_going : {first : Register} {start : Option (List ℕ)} {bytes line : List ℕ} {book : Register} {held : Option (List ℕ)} →
    Going first start bytes line book held → first.pending ≡ None → book.pending ≡ None
closed_going {first} going closed = ap (λ (b : Register). b.pending) going.logs ∙ pending-after first going.lines closed

pub offered_full : {first : Register} {start : Option (List ℕ)} {bytes line : List ℕ} {book : Register} {held : Option (List ℕ)} →
    (new : Register) (now : Option (List ℕ)) (took : Bool) → Going first start bytes line book held → first.pending ≡ None → is_bye line ≡ false →
    LogsLine book line took new → took ≡ false → Appends held now (closing (Some end.Full)) → Session first new (bytes ++ 10 ∷ []) start now (Ok end.Full)
offered_full new now true going closed bye does so writes = absurd (true≢false so)
offered_full {first} {start} {bytes} {line} {book} {held} new now false going closed bye does so writes =
    subst (λ b. Session first b (bytes ++ 10 ∷ []) start now (Ok end.Full)) (sym does.1)
    (session_all first start (bytes ++ 10 ∷ []) book held now going.lines [] (Some end.Full) (Ok end.Full)
    (hears_full going bye (full-takes book line (closed_going going closed) does.0)) going.logs going.writes writes (λ all. all))

pub offered_full_cut : {first : Register} {start : Option (List ℕ)} {bytes line : List ℕ} {book : Register} {held : Option (List ℕ)} →
    (new : Register) (now : Option (List ℕ)) (took : Bool) → Going first start bytes line book held → first.pending ≡ None → is_bye line ≡ false →
    LogsLine book line took new → took ≡ false → AppendsFront held now (closing (Some end.Full)) → Session first new (bytes ++ 10 ∷ []) start now (Err fault.WriteFailed)
offered_full_cut new now true going closed bye does so front = absurd (true≢false so)
offered_full_cut {first} {start} {bytes} {line} {book} {held} new now false going closed bye does so front =
    subst (λ b. Session first b (bytes ++ 10 ∷ []) start now (Err fault.WriteFailed)) (sym does.1)
    (stops_in_closing first start (bytes ++ 10 ∷ []) book held now going.lines [] (Some end.Full)
    (hears_full going bye (full-takes book line (closed_going going closed) does.0)) going.logs going.writes front)

pub offered_taken : {first : Register} {start : Option (List ℕ)} {bytes line : List ℕ} {book : Register} {held : Option (List ℕ)} →
    (new : Register) (now : Option (List ℕ)) (took : Bool) (r : Result ⊤ Stop) → Going first start bytes line book held → is_bye line ≡ false →
    LogsLine book line took new → took ≡ true → OnOk r (Appends held now (last_reply new)) → OnErr r ((n : ℕ) × Appends held now (take n (last_reply new))) →
    IfErr r (λ stop. (stop ≡ WriteFailed) ⊎ (stop ≡ Memory)) → Goes first start (bytes ++ 10 ∷ []) [] new now r
offered_taken {line = line} {book = book} new now true r going bye does so written cut stops =
    goes_reply new now r going bye (free-takes book line does.0) (does.1, does.2) written cut stops
offered_taken new now false r going bye does so written cut stops = absurd (true≢false (sym so))

pub offered_closed : {first : Register} {start : Option (List ℕ)} {bytes line : List ℕ} {book : Register} {held : Option (List ℕ)} →
    (new : Register) → Going first start bytes line book held → is_bye line ≡ false → new ≡ book → WouldRun book line →
    Session first new (bytes ++ 10 ∷ []) start held (Ok end.Closed)
offered_closed {line = line} {book = book} new going bye is would =
    let free = free-takes book line would.room in
    stops_unlogged new (Ok end.Closed) going bye free is (leaves_run going bye free would.runs)

pub offered_stranger : {first : Register} {start : Option (List ℕ)} {bytes line : List ℕ} {book : Register} {held : Option (List ℕ)} →
    (new : Register) → Going first start bytes line book held → is_bye line ≡ false → new ≡ book → WouldRun book line →
    Session first new (bytes ++ 10 ∷ []) start held (Err fault.Stranger)
offered_stranger {line = line} {book = book} new going bye is would =
    let free = free-takes book line would.room in
    stops_unlogged new (Err fault.Stranger) going bye free is (leaves_run going bye free would.runs)

-- ---- more bytes behind those in which a session stopped

-- after the end nothing more is heard
heard_in-ended : (first : Register) (bytes more : List ℕ) (e : End) → (heard_in first bytes).end ≡ Some e → heard_in first (bytes ++ more) ≡ heard_in first bytes
heard_in-ended first bytes more e is = heard-append (room_in first) bytes more ∙ heard_ended (room_in first) (heard_in first bytes) e more is

lines_more : (first : Register) (bytes more : List ℕ) → (extra : List (List ℕ)) × ((heard_in first (bytes ++ more)).lines ≡ (heard_in first bytes).lines ++ extra)
lines_more first bytes more =
    let grows = lines_grow (room_in first) (heard_in first bytes) more in
    (grows.0, ap (λ (h : Heard). h.lines) (heard-append (room_in first) bytes more) ∙ grows.1)

logged_lines-more : (first : Register) (bytes more : List ℕ) (lost : List Bool) → length lost ≤ length (heard_in first bytes).lines →
    logged_lines first (bytes ++ more) lost ≡ logged_lines first bytes lost
logged_lines-more first bytes more lost few =
    let grows = lines_more first bytes more in
    let lines = (heard_in first bytes).lines in
    ap (λ ls. take (length lost) (marked_lines ls lost)) grows.1
    ∙ ap (take (length lost)) (marked-append lines grows.0 lost few)
    ∙ take-append-le (length lost) (marked_lines lines lost) (marked_lines grows.0 []) (omega (arith, few, length-marked lines lost))

all_more : (first : Register) (bytes more : List ℕ) (lost : List Bool) (written : List ℕ) (e : End) →
    TellsAll first bytes lost written (Some e) → TellsAll first (bytes ++ more) lost written (Some e)
all_more first bytes more lost written e t =
    let same : heard_in first (bytes ++ more) ≡ heard_in first bytes = heard_in-ended first bytes more e t.ends in record {
      ends = ap (λ (h : Heard). h.end) same ∙ t.ends;
      logs = t.logs ∙ ap (λ (h : Heard). length h.lines) (sym same);
      tells = t.tells ∙ ap (λ (h : Heard). session_told first (marked_lines h.lines lost) ++ closing h.end) (sym same);
    }

run_more : (first : Register) (bytes more : List ℕ) (lost : List Bool) (written : List ℕ) → length lost ≤ length (heard_in first bytes).lines →
    LeavesRun first bytes lost written → LeavesRun first (bytes ++ more) lost written
run_more first bytes more lost written few t =
    let grows = lines_more first bytes more in
    let logged_is = sym (logged_lines-more first bytes more lost few) in record {
      next = t.next;
      is_next =
          ap (λ ls. slice_get ls (length lost)) grows.1
          ∙ slice_get-more (heard_in first bytes).lines grows.0 (length lost) t.next t.is_next;
      runs = subst (λ ls. RunsProgram (after first ls) t.next) logged_is t.runs;
      tells = t.tells ∙ ap (session_told first) logged_is;
    }

off_more_at : (first : Register) (bytes more : List ℕ) (lost : List Bool) (written : List ℕ) → length lost ≤ length (heard_in first bytes).lines →
    (o : Option End) → (heard_in first bytes).end ≡ o → BreaksOff first bytes lost written → BreaksOff first (bytes ++ more) lost written
off_more_at first bytes more lost written few (Some e) ends t =
    let same : heard_in first bytes ≡ heard_in first (bytes ++ more) = sym (heard_in-ended first bytes more e ends) in record {
      missing = t.missing;
      begins = ap (λ (h : Heard). session_told first (marked_lines h.lines lost) ++ closing h.end) (sym same) ∙ t.begins;
      all_but_last = subst (λ (h : Heard). length (session_told first (take (length lost - 1) (take (length lost) (marked_lines h.lines lost)))) ≤ length written) same t.all_but_last;
      no_other =
          subst (λ (h : Heard). (length written ≤ length (session_told first (take (length lost) (marked_lines h.lines lost)))) ⊎ (length lost ≡ length h.lines)) same
          t.no_other;
    }
off_more_at first bytes more lost written few None ends t =
    let lines = (heard_in first bytes).lines in
    let grows = lines_more first bytes more in
    let end = closing (heard_in first (bytes ++ more)).end in
    let added = session_told (after first (marked_lines lines lost)) (marked_lines grows.0 []) ++ end in
    let logged_is = logged_lines-more first bytes more lost few in
    let text : session_text first bytes lost ≡ session_told first (marked_lines lines lost) =
    ap (λ o. session_told first (marked_lines lines lost) ++ closing o) ends ∙ append-nil (session_told first (marked_lines lines lost)) in
    let longer : session_text first (bytes ++ more) lost ≡ session_told first (marked_lines lines lost) ++ added =
    ap (λ ls. session_told first (marked_lines ls lost) ++ end) grows.1
    ∙ ap (λ ls. session_told first ls ++ end) (marked-append lines grows.0 lost few)
    ∙ ap (λ t. t ++ end) (told-append first (marked_lines lines lost) (marked_lines grows.0 []))
    ∙ append_assoc (session_told first (marked_lines lines lost)) (session_told (after first (marked_lines lines lost)) (marked_lines grows.0 [])) end in record {
      missing = t.missing ++ added;
      begins = longer ∙ ap (λ x. x ++ added) (sym text ∙ t.begins) ∙ append_assoc written t.missing added;
      all_but_last = subst (λ ls. length (session_told first (take (length lost - 1) ls)) ≤ length written) (sym logged_is) t.all_but_last;
      no_other = inl (elim t.no_other [
        | inl within ↦ subst (λ ls. length written ≤ length (session_told first ls)) (sym logged_is) within
        | inr all ↦
            let whole : logged_lines first bytes lost ≡ marked_lines lines lost =
            take_all (length lost) (marked_lines lines lost) (omega (arith, all, length-marked lines lost)) in
            omega (arith, ap length (sym t.begins ∙ text), length-append written t.missing, ap (λ ls. length (session_told first ls)) (logged_is ∙ whole))
      ]);
    }

off_more : (first : Register) (bytes more : List ℕ) (lost : List Bool) (written : List ℕ) → length lost ≤ length (heard_in first bytes).lines →
    BreaksOff first bytes lost written → BreaksOff first (bytes ++ more) lost written
off_more first bytes more lost written few t = off_more_at first bytes more lost written few (heard_in first bytes).end refl t

tells_more : (first : Register) (bytes more : List ℕ) (lost : List Bool) (written : List ℕ) (stop : Stop) → length lost ≤ length (heard_in first bytes).lines →
    SessionTells first bytes lost written (result_of stop) → SessionTells first (bytes ++ more) lost written (result_of stop)
tells_more first bytes more lost written Bye few t = all_more first bytes more lost written end.Bye t
tells_more first bytes more lost written Full few t = all_more first bytes more lost written end.Full t
tells_more first bytes more lost written LongLine few t = all_more first bytes more lost written end.LongLine t
tells_more first bytes more lost written Closed few t = run_more first bytes more lost written few t
tells_more first bytes more lost written Stranger few t = run_more first bytes more lost written few t
tells_more first bytes more lost written WriteFailed few t = off_more first bytes more lost written few t
tells_more first bytes more lost written Memory few t = off_more first bytes more lost written few t

pub session_more : (first : Register) (start : Option (List ℕ)) (bytes more : List ℕ) (book : Register) (held : Option (List ℕ)) (stop : Stop) →
    Session first book bytes start held (result_of stop) → Session first book (bytes ++ more) start held (result_of stop)
session_more first start bytes more book held stop s =
    let grows = lines_more first bytes more in record {
      lost = s.lost;
      written = s.written;
      few = omega (arith, s.few, ap length grows.1, length-append (heard_in first bytes).lines grows.0);
      grown = s.grown;
      logs = s.logs ∙ ap (after first) (sym (logged_lines-more first bytes more s.lost s.few));
      writes = s.writes;
      tells = tells_more first bytes more s.lost s.written stop s.few s.tells;
    }
