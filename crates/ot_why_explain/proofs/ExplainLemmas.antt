-- What an explained session is after a piece, a line or a read more.
use Rattle.std.proofs.Common.{◌≡◌, ℕ, ◌+◌, ◌-◌, ◌<◌, List, [], ◌∷◌, ◌++◌, length, take, slice_index, refl, sym, ap, ◌∙◌, subst, arith, append_assoc, append-nil, length-append, inl, inr, Bool}
use Rattle.std.specs.Prelude.{◌⊎◌, Option, Some, None, Result, Ok, Err, IfOk, IfErr, is_some}
use Rattle.std.specs.Io.KnownBytes.{Appends, Consumes}
use Rattle.std.proofs.KnownBytes.{Appends-trans, Appends-nil}
use Rattle.std.proofs.lemmas.List.{get_or_append_left, get_or-append-add}
use Rattle.std.proofs.lemmas.Bool.Decides.{leb_tells}
use Rattle.ot_book.specs.Books.{Register}
use Rattle.ot_session.specs.Serving.{Draft, AppendsFront, Writes, BreaksOffIn, Going, Serving}
use Rattle.ot_book.specs.Room.{room_in}
use Rattle.ot_session.specs.Session.{Heard, HasNoEnd, max_line, closing, heard_in, session_text, logged_lines, TellsAll, BreaksOff, SessionTells, Session, Lines, marked_lines, after, session_told}
use Rattle.ot_session.specs.declared.fault.End.{End}
use Rattle.ot_session.specs.declared.fault.End.TheVariants as end
use Rattle.ot_session.specs.declared.fault.FrontFault.{FrontFault}
use Rattle.ot_session.specs.declared.fault.FrontFault.TheVariants as fault
use Rattle.ot_session.proofs.SessionLemmas.{going_piece, stops_long, stops_in_long}
use Rattle.ot_session.proofs.ServingLemmas.{IsIdle, serves_nothing, serves_idle}
use Rattle.ot_session.proofs.StopLemmas.{Stops, session_longer}
use Rattle.ot_why_explain.specs.Explaining.{without_remarks, last_code, AreOn, Explains, Remarks}
use Rattle.ot_why_explain.specs.Listening.{IsWhole, Explaining, IsStop, Stopped, Served, said_at, Noted, Closing}
use Rattle.ot_why_explain.specs.declared.explaining.Explained.{Explained}
use Rattle.ot_why_explain.specs.declared.explaining.Explained.TheVariants.{AllTaken}
use Rattle.ot_why_explain.proofs.LineLemmas.{whole-nil, whole-append, IsPlain, plain-all, plain-append, plain-front, hidden-all}
use Rattle.ot_why_explain.proofs.ReplyLemmas.{whole-told, plain-told, plain-closing}
use Rattle.ot_why_explain.proofs.JoinLemmas.{session_joined, going_joined, breaks_joined, heard_behind}
use Rattle.ot_why_explain.proofs.RemarkLemmas.{on-whole, on-hidden, said_on}
use Rattle.ot_why_explain.proofs.NotedLemmas.{IsOneLine, one_line, quiet_all, quiet_run, replied_of, noted_first, noted_more, closing_noted, closing_longer, remarks_of_closing}

-- ---- bytes without an LF

pub no_end-nil : HasNoEnd []
no_end-nil = λ k within is. absurd (omega (arith, within))

pub no_end-append : (a b : List ℕ) → HasNoEnd a → HasNoEnd b → HasNoEnd (a ++ b)
no_end-append a b none_a none_b = λ k within is. elim (leb_tells (length a) k) [
  | inr (test, below) ↦ none_a k below (sym (get_or_append_left a b 0 k below) ∙ is)
  | inl (test, above) ↦
      let j : ℕ = k - length a in
      let at : length a + j ≡ k = omega (arith, above) in
      none_b j (omega (arith, at, within, length-append a b)) (sym (get_or-append-add a b j 0) ∙ ap (λ i. slice_index (a ++ b) i) at ∙ is)
]

-- ---- a session alone writes no remark

plain-text : (book : Register) (bytes : List ℕ) (lost : List Bool) → IsPlain (session_text book bytes lost)
plain-text book bytes lost =
    let h = heard_in book bytes in
    plain-append (session_told book (marked_lines h.lines lost)) (closing h.end) (whole-told book (marked_lines h.lines lost)) (plain-told book (marked_lines h.lines lost)) (plain-closing h.end)

all_plain : (book : Register) (bytes : List ℕ) (lost : List Bool) (written : List ℕ) (e : Option End) → TellsAll book bytes lost written e → without_remarks written ≡ written
all_plain book bytes lost written e t = ap without_remarks t.tells ∙ plain-all (session_text book bytes lost) (plain-text book bytes lost) ∙ sym t.tells

off_plain : (book : Register) (bytes : List ℕ) (lost : List Bool) (written : List ℕ) → BreaksOff book bytes lost written → without_remarks written ≡ written
off_plain book bytes lost written t = plain-front (session_text book bytes lost) written t.missing (plain-text book bytes lost) t.begins

run_plain : (book : Register) (lines : Lines) (written : List ℕ) → written ≡ session_told book lines → without_remarks written ≡ written
run_plain book lines written is = ap without_remarks is ∙ plain-all (session_told book lines) (plain-told book lines) ∙ sym is

written_plain : (book : Register) (bytes : List ℕ) (lost : List Bool) (written : List ℕ) (result : Result End FrontFault) → SessionTells book bytes lost written result → without_remarks written ≡ written
written_plain book bytes lost written (Ok end.EndOfInput) t = all_plain book bytes lost written None t
written_plain book bytes lost written (Ok end.Bye) t = all_plain book bytes lost written (Some end.Bye) t
written_plain book bytes lost written (Ok end.Full) t = all_plain book bytes lost written (Some end.Full) t
written_plain book bytes lost written (Ok end.LongLine) t = all_plain book bytes lost written (Some end.LongLine) t
written_plain book bytes lost written (Ok end.Closed) t = run_plain book (logged_lines book bytes lost) written t.tells
written_plain book bytes lost written (Err fault.ReadFailed) t = all_plain book bytes lost written None t
written_plain book bytes lost written (Err fault.WriteFailed) t = off_plain book bytes lost written t
written_plain book bytes lost written (Err fault.Memory) t = off_plain book bytes lost written t
written_plain book bytes lost written (Err fault.Stranger) t = run_plain book (logged_lines book bytes lost) written t.tells
written_plain book bytes lost written (Err fault.TooManyTurns) t = all_plain book bytes lost written None t
written_plain book bytes lost written (Err fault.SocketFailed) t = absurd t

-- what a session wrote that goes on ends where a line ends
all_whole : (book : Register) (bytes : List ℕ) (lost : List Bool) (written : List ℕ) → TellsAll book bytes lost written None → IsWhole written
all_whole book bytes lost written t =
    let lines = marked_lines (heard_in book bytes).lines lost in
    subst IsWhole (sym (t.tells ∙ ap (λ e. session_told book lines ++ closing e) t.ends ∙ append-nil (session_told book lines))) (whole-told book lines)

-- ---- a line

pub stops_of : (result : Result End FrontFault) → IsStop result → Stops result
stops_of (Ok end.Bye) h = tt
stops_of (Ok end.EndOfInput) h = h
stops_of (Ok end.Full) h = tt
stops_of (Ok end.LongLine) h = tt
stops_of (Ok end.Closed) h = tt
stops_of (Err fault.ReadFailed) h = h
stops_of (Err fault.WriteFailed) h = tt
stops_of (Err fault.Memory) h = tt
stops_of (Err fault.Stranger) h = tt
stops_of (Err fault.TooManyTurns) h = h
stops_of (Err fault.SocketFailed) h = h

stays : (text written : List ℕ) → IsWhole text → without_remarks written ≡ written → without_remarks (text ++ written) ≡ without_remarks text ++ written
stays text written whole plain = whole written ∙ ap (λ w. without_remarks text ++ w) plain

closes_longer : (first new : Register) (bytes more text : List ℕ) (said : Explained) (result : Result End FrontFault) →
    IfOk result (λ e. Closing first new bytes text e said) → IfOk result (λ e. Closing first new (bytes ++ more) text e said)
closes_longer first new bytes more text said (Ok e) h = closing_longer more h
closes_longer first new bytes more text said (Err why) h = tt

-- more bytes behind those in which it stopped
pub stopped_more : {first new : Register} {start : Option (List ℕ)} {bytes : List ℕ} {held : Option (List ℕ)} {said : Explained} {result : Result End FrontFault} →
    (more : List ℕ) → Stopped first new start bytes held said result → Stopped first new start (bytes ++ more) held said result
stopped_more {first} {new} {start} {bytes} {held} {said} {result} more s = record {
  stops = s.stops;
  text = s.text;
  writes = s.writes;
  session = session_longer first (Some []) bytes more new (Some (without_remarks s.text)) result (stops_of result s.stops) s.session;
  closes = closes_longer first new bytes more s.text said result s.closes;
}

-- the bytes by the line that has begun
bytes_on : {first : Register} {start : Option (List ℕ)} {bytes partial : List ℕ} {book : Register} {held : Option (List ℕ)} {said : Explained} →
    (e : Explaining first start bytes partial book held said) (more : List ℕ) → e.begun ++ (partial ++ more) ≡ bytes ++ more
bytes_on {partial = partial} e more = sym (append_assoc e.begun partial more) ∙ ap (λ bs. bs ++ more) (sym e.is)

-- what is heard in the line that ends here
one_line_of : {first : Register} {start : Option (List ℕ)} {bytes partial : List ℕ} {book : Register} {held : Option (List ℕ)} {said : Explained} →
    Explaining first start bytes partial book held said → (piece : List ℕ) → HasNoEnd piece → IsOneLine (heard_in book (partial ++ (piece ++ 10 ∷ [])))
one_line_of {partial = partial} {book = book} e piece clean =
    subst (λ line. IsOneLine (heard_in book line)) (append_assoc partial piece (10 ∷ [])) (one_line (room_in book) (partial ++ piece) (no_end-append partial piece e.clean clean))

-- how it closes where the session over a line stopped
closes_served : (first book new : Register) (begun line text : List ℕ) (said : Explained) (start held : Option (List ℕ)) (result : Result End FrontFault) → IsStop result →
    IsOneLine (heard_in book line) → Noted first book begun text said → (s : Session book new line start held result) →
    IfOk result (λ e. Closing first new (begun ++ line) (text ++ s.written) e said)
closes_served first book new begun line text said start held (Ok end.EndOfInput) stops one n s = absurd stops
closes_served first book new begun line text said start held (Ok end.Bye) stops one n s =
    let quiet = quiet_all book line s.lost s.written end.Bye one s.tells in
    closing_noted line s.written new end.Bye n (s.logs ∙ ap (after book) quiet.1) quiet.0
closes_served first book new begun line text said start held (Ok end.Full) stops one n s =
    let quiet = quiet_all book line s.lost s.written end.Full one s.tells in
    closing_noted line s.written new end.Full n (s.logs ∙ ap (after book) quiet.1) quiet.0
closes_served first book new begun line text said start held (Ok end.LongLine) stops one n s =
    let quiet = quiet_all book line s.lost s.written end.LongLine one s.tells in
    closing_noted line s.written new end.LongLine n (s.logs ∙ ap (after book) quiet.1) quiet.0
closes_served first book new begun line text said start held (Ok end.Closed) stops one n s =
    let quiet = quiet_run book line s.lost s.written one s.tells in
    closing_noted line s.written new end.Closed n (s.logs ∙ ap (after book) quiet.1) quiet.0
closes_served first book new begun line text said start held (Err why) stops one n s = tt

-- the session over the line stopped
pub stops_served : {first : Register} {start : Option (List ℕ)} {bytes partial : List ℕ} {book : Register} {held : Option (List ℕ)} {said : Explained} →
    (piece : List ℕ) (new : Register) (now : Option (List ℕ)) (result : Result End FrontFault) → Explaining first start bytes partial book held said → HasNoEnd piece →
    Served book new (partial ++ (piece ++ 10 ∷ [])) held now (Some result) → Stopped first new start (bytes ++ (piece ++ 10 ∷ [])) now said result
stops_served {first} {start} {bytes} {partial} {book} {held} {said} piece new now result e clean served =
    let s = served.1 in
    let more = piece ++ 10 ∷ [] in record {
      stops = served.0;
      text = e.text ++ s.written;
      writes = Appends-trans start held now e.text s.written e.writes s.writes;
      session = subst (λ bs. Session first new bs (Some []) (Some (without_remarks (e.text ++ s.written))) result) (bytes_on e more)
          (subst (λ p. Session first new (e.begun ++ (partial ++ more)) (Some []) (Some p) result)
          (sym (stays e.text s.written e.whole (written_plain book (partial ++ more) s.lost s.written result s.tells)))
          (session_joined (partial ++ more) new held now result e.going s));
      closes = subst (λ bs. IfOk result (λ x. Closing first new bs (e.text ++ s.written) x said)) (bytes_on e more)
          (closes_served first book new e.begun (partial ++ more) e.text said held now result served.0 (one_line_of e piece clean) e.noted s);
    }

-- a line that was served, before its remarks
record Answered (first : Register) (start : Option (List ℕ)) (bytes : List ℕ) (new : Register) (now : Option (List ℕ)) (said : Explained) : Type 0 where
  pub text : List ℕ
  pub writes : Appends start now text
  pub whole : IsWhole text
  pub going : Going first (Some []) bytes [] new (Some (without_remarks text))
  pub noted : (remarks : List ℕ) (later : Explained) → AreOn (last_code new) remarks → later ≡ said_on said (is_some (last_code new)) → Noted first new bytes (text ++ remarks) later

-- the lines heard in a line more
joined_lines : {first : Register} {start : Option (List ℕ)} {bytes partial : List ℕ} {book : Register} {held : Option (List ℕ)} {said : Explained} →
    (e : Explaining first start bytes partial book held said) (more : List ℕ) → (heard_in first (e.begun ++ more)).lines ≡ (heard_in first e.begun).lines ++ (heard_in book more).lines
joined_lines {book = book} e more =
    ap (λ (h : Heard). h.lines) (heard_behind e.going more) ∙ ap (λ (h : Heard). h.lines ++ (heard_in book more).lines) (sym e.going.hears)

answered : {first : Register} {start : Option (List ℕ)} {bytes partial : List ℕ} {book : Register} {held : Option (List ℕ)} {said : Explained} →
    (piece : List ℕ) (new : Register) (now : Option (List ℕ)) → Explaining first start bytes partial book held said → HasNoEnd piece →
    Served book new (partial ++ (piece ++ 10 ∷ [])) held now None → Answered first start (bytes ++ (piece ++ 10 ∷ [])) new now said
answered {first} {start} {bytes} {partial} {book} {held} piece new now e clean served =
    let line : partial ++ (piece ++ 10 ∷ []) ≡ (partial ++ piece) ++ 10 ∷ [] = sym (append_assoc partial piece (10 ∷ [])) in
    let s : Session book new ((partial ++ piece) ++ 10 ∷ []) held now (Ok end.EndOfInput) = subst (λ l. Session book new l held now (Ok end.EndOfInput)) line served in
    let g = going_joined (partial ++ piece) new held now e.going s in
    let plain = all_plain book ((partial ++ piece) ++ 10 ∷ []) s.lost s.written None s.tells in record {
      text = e.text ++ s.written;
      writes = Appends-trans start held now e.text s.written e.writes s.writes;
      whole = whole-append e.text s.written e.whole (all_whole book ((partial ++ piece) ++ 10 ∷ []) s.lost s.written s.tells);
      going = subst (λ bs. Going first (Some []) bs [] new (Some (without_remarks (e.text ++ s.written))))
          (ap (λ l. e.begun ++ l) (sym line) ∙ bytes_on e (piece ++ 10 ∷ []))
          (subst (λ p. Going first (Some []) (e.begun ++ ((partial ++ piece) ++ 10 ∷ [])) [] new (Some p)) (sym (stays e.text s.written e.whole plain)) g);
      noted = λ remarks later are is.
          let more = (partial ++ piece) ++ 10 ∷ [] in
          let one = one_line (room_in book) (partial ++ piece) (no_end-append partial piece e.clean clean) in
          subst (λ bs. Noted first new bs ((e.text ++ s.written) ++ remarks) later) (ap (λ l. e.begun ++ l) (sym line) ∙ bytes_on e (piece ++ 10 ∷ []))
          (subst (λ t. Noted first new (e.begun ++ more) t later) (sym (append_assoc e.text s.written remarks))
          (noted_more more s.written remarks new later (joined_lines e more) e.noted (replied_of book new more s.lost s.written one s.logs s.tells) are is));
    }

-- the line was served and explained
pub explaining_on : {first : Register} {start : Option (List ℕ)} {bytes partial : List ℕ} {book : Register} {held : Option (List ℕ)} {said : Explained} →
    (piece : List ℕ) (new : Register) (mid now : Option (List ℕ)) (later : Explained) → Explaining first start bytes partial book held said → HasNoEnd piece →
    Served book new (partial ++ (piece ++ 10 ∷ [])) held mid None → (text : List ℕ) × AreOn (last_code new) text × Appends mid now text →
    later ≡ said_on said (is_some (last_code new)) → Explaining first start (bytes ++ (piece ++ 10 ∷ [])) [] new now later
explaining_on {first} {start} {bytes} {partial} {book} {held} piece new mid now later e clean served remarks is =
    let a = answered piece new mid e clean served in
    let hidden = hidden-all remarks.0 (on-hidden (last_code new) remarks.0 remarks.1) in
    let same : without_remarks (a.text ++ remarks.0) ≡ without_remarks a.text =
    a.whole remarks.0 ∙ ap (λ t. without_remarks a.text ++ t) hidden ∙ append-nil (without_remarks a.text) in record {
      text = a.text ++ remarks.0;
      writes = Appends-trans start mid now a.text remarks.0 a.writes remarks.2;
      whole = whole-append a.text remarks.0 a.whole (on-whole (last_code new) remarks.0 remarks.1);
      begun = bytes ++ (piece ++ 10 ∷ []);
      is = sym (append-nil (bytes ++ (piece ++ 10 ∷ [])));
      clean = no_end-nil;
      short = omega arith;
      going = subst (λ p. Going first (Some []) (bytes ++ (piece ++ 10 ∷ [])) [] new (Some p)) (sym same) a.going;
      noted = a.noted remarks.0 later remarks.1 is;
    }

-- the remarks broke off
pub stops_in_remarks : {first : Register} {start : Option (List ℕ)} {bytes partial : List ℕ} {book : Register} {held : Option (List ℕ)} {said : Explained} →
    (piece : List ℕ) (new : Register) (mid now : Option (List ℕ)) (why : FrontFault) → Explaining first start bytes partial book held said → HasNoEnd piece →
    Served book new (partial ++ (piece ++ 10 ∷ [])) held mid None → (text : List ℕ) × (without_remarks text ≡ []) × Appends mid now text →
    (why ≡ fault.Memory) ⊎ (why ≡ fault.WriteFailed) → Stopped first new start (bytes ++ (piece ++ 10 ∷ [])) now said (Err why)
stops_in_remarks {first} {start} {bytes} {partial} {book} {held} {said} piece new mid now why e clean served remarks cause =
    let a = answered piece new mid e clean served in
    let same : without_remarks (a.text ++ remarks.0) ≡ without_remarks a.text =
    a.whole remarks.0 ∙ ap (λ t. without_remarks a.text ++ t) remarks.1 ∙ append-nil (without_remarks a.text) in
    let off = breaks_joined a.going in
    let writes = Appends-trans start mid now a.text remarks.0 a.writes remarks.2 in
    elim cause [
      | inl memory ↦ subst (λ f. Stopped first new start (bytes ++ (piece ++ 10 ∷ [])) now said (Err f)) (sym memory) (record {
        stops = tt;
        text = a.text ++ remarks.0;
        writes = writes;
        session = subst (λ p. Session first new (bytes ++ (piece ++ 10 ∷ [])) (Some []) (Some p) (Err fault.Memory)) (sym same) off.0;
        closes = tt;
      })
      | inr failed ↦ subst (λ f. Stopped first new start (bytes ++ (piece ++ 10 ∷ [])) now said (Err f)) (sym failed) (record {
        stops = tt;
        text = a.text ++ remarks.0;
        writes = writes;
        session = subst (λ p. Session first new (bytes ++ (piece ++ 10 ∷ [])) (Some []) (Some p) (Err fault.WriteFailed)) (sym same) off.1;
        closes = tt;
      })
    ]

-- ---- a piece of a line

-- the text and the last words of a session
closing_stays : (text last : List ℕ) → IsWhole text → without_remarks last ≡ last → Appends (Some (without_remarks text)) (Some (without_remarks (text ++ last))) last
closing_stays text last whole plain = stays text last whole plain

pub explaining_long : {first : Register} {start : Option (List ℕ)} {bytes partial : List ℕ} {book : Register} {held : Option (List ℕ)} {said : Explained} →
    (piece : List ℕ) (now : Option (List ℕ)) → Explaining first start bytes partial book held said → HasNoEnd piece → max_line < length partial + length piece →
    Appends held now (closing (Some end.LongLine)) → Stopped first book start (bytes ++ piece) now said (Ok end.LongLine)
explaining_long {first} {start} {bytes} {partial} {book} {held} {said} piece now e clean long writes =
    let last = closing (Some end.LongLine) in record {
      stops = tt;
      text = e.text ++ last;
      writes = Appends-trans start held now e.text last e.writes writes;
      session = subst (λ bs. Session first book bs (Some []) (Some (without_remarks (e.text ++ last))) (Ok end.LongLine)) (bytes_on e piece)
          (stops_long (partial ++ piece) e.going (no_end-append partial piece e.clean clean) (omega (arith, long, length-append partial piece))
          (closing_stays e.text last e.whole (plain-all last (plain-closing (Some end.LongLine)))));
      closes = subst (λ bs. Closing first book bs (e.text ++ last) end.LongLine said) (bytes_on e piece) (closing_noted (partial ++ piece) last book end.LongLine e.noted refl refl);
    }

pub explaining_in_long : {first : Register} {start : Option (List ℕ)} {bytes partial : List ℕ} {book : Register} {held : Option (List ℕ)} {said : Explained} →
    (piece : List ℕ) (now : Option (List ℕ)) → Explaining first start bytes partial book held said → HasNoEnd piece → max_line < length partial + length piece →
    AppendsFront held now (closing (Some end.LongLine)) → Stopped first book start (bytes ++ piece) now said (Err fault.WriteFailed)
explaining_in_long {first} {start} {bytes} {partial} {book} {held} piece now e clean long front =
    let last = take front.0 (closing (Some end.LongLine)) in record {
      stops = tt;
      text = e.text ++ last;
      writes = Appends-trans start held now e.text last e.writes front.2;
      session = subst (λ bs. Session first book bs (Some []) (Some (without_remarks (e.text ++ last))) (Err fault.WriteFailed)) (bytes_on e piece)
          (stops_in_long (partial ++ piece) e.going (no_end-append partial piece e.clean clean) (omega (arith, long, length-append partial piece))
          (front.0, front.1, closing_stays e.text last e.whole (plain-closing (Some end.LongLine) front.0)));
      closes = tt;
    }

-- the session ends at a line that is too long
pub explaining_ends : {first : Register} {start : Option (List ℕ)} {bytes partial : List ℕ} {book : Register} {said : Explained} →
    (piece : List ℕ) (earlier later : Draft) (result : Result End FrontFault) → Explaining first start bytes partial book earlier.held said → HasNoEnd piece →
    max_line < length partial + length piece → IfOk result (λ e. (e ≡ end.LongLine) × Writes earlier later (closing (Some end.LongLine))) →
    IfErr result (λ f. (f ≡ fault.WriteFailed) × BreaksOffIn earlier later (closing (Some end.LongLine))) → Stopped first book start (bytes ++ piece) later.held said result
explaining_ends {first} {start} {bytes} {partial} {book} {said = said} piece earlier later (Ok last) e clean long session_told cut =
    subst (λ x. Stopped first book start (bytes ++ piece) later.held said (Ok x)) (sym session_told.0) (explaining_long piece later.held e clean long session_told.1.bytes_out)
explaining_ends {first} {start} {bytes} {partial} {book} {said = said} piece earlier later (Err why) e clean long session_told cut =
    subst (λ x. Stopped first book start (bytes ++ piece) later.held said (Err x)) (sym cut.0) (explaining_in_long piece later.held e clean long cut.1.front)

-- ---- the whole session

pub explaining_first : (book : Register) (held : Option (List ℕ)) (partial : List ℕ) (said : Explained) → partial ≡ [] → said ≡ AllTaken → Explaining book held [] partial book held said
explaining_first book held partial said none is = subst (λ p. Explaining book held [] p book held said) (sym none) (record {
  text = [];
  writes = Appends-nil held;
  whole = whole-nil;
  begun = [];
  is = refl;
  clean = no_end-nil;
  short = omega arith;
  going = record { lines = []; hears = refl; short = omega arith; logs = refl; writes = refl };
  noted = noted_first book said is;
})

abbrev serving_of : {first : Register} {ahead left start : Option (List ℕ)} {bytes partial : List ℕ} {book : Register} {held : Option (List ℕ)} {said : Explained} →
    Consumes ahead left bytes → (e : Explaining first start bytes partial book held said) → Serving first ahead left (Some []) partial book (Some (without_remarks e.text))
serving_of {first} {bytes = bytes} {partial = partial} {book = book} reads e = record {
  bytes = bytes;
  reads = reads;
  going = subst (λ bs. Going first (Some []) bs partial book (Some (without_remarks e.text))) (sym e.is) (going_piece partial e.going e.clean (omega (arith, e.short)));
}

pub explains_nothing : (book : Register) (ahead : Option (List ℕ)) (latest : ℕ) (held : Option (List ℕ)) → Explains book book ahead ahead latest held held (Err fault.Memory)
explains_nothing book ahead latest held = record { text = []; writes = Appends-nil held; serves = serves_nothing book ahead latest (Some []) }

pub explains_idle : {first : Register} {ahead start : Option (List ℕ)} {bytes partial : List ℕ} {book : Register} {held : Option (List ℕ)} {said : Explained} →
    (left next : Option (List ℕ)) (latest : ℕ) (result : Result End FrontFault) → Consumes ahead left bytes → Explaining first start bytes partial book held said →
    Consumes ahead next bytes → IsIdle result → Explains first book ahead next latest start held result
explains_idle left next latest result reads e all idle =
    let s = serving_of reads e in
    record { text = e.text; writes = e.writes; serves = serves_idle next latest result s all idle }

-- the input ended, in a line or between two
pub remarks_idle : {first : Register} {start : Option (List ℕ)} {bytes partial : List ℕ} {book : Register} {held : Option (List ℕ)} {said : Explained} →
    (ahead next : Option (List ℕ)) → Explaining first start bytes partial book held said → Consumes ahead next bytes →
    Remarks first book ahead next start held end.EndOfInput (said_at end.EndOfInput said)
remarks_idle {first} {start} {bytes} {partial} {book} {held} {said} ahead next e reads =
    let closed = closing_noted partial [] book end.EndOfInput e.noted refl refl in
    remarks_of_closing ahead next start held
    (subst (λ bs. Closing first book bs (e.text ++ []) end.EndOfInput said) (sym e.is) closed) reads
    (subst (Appends start held) (sym (append-nil e.text)) e.writes)
