-- A session after a piece or a line more, and where it stops.
use Rattle.std.proofs.Common.{◌≡◌, ℕ, suc, ◌+◌, ◌≤◌, ◌<◌, List, [], ◌∷◌, ◌++◌, length, refl, sym, ap, ◌∙◌, subst, arith, append_assoc, append-nil, length-append, inl, true, false}
use Rattle.std.specs.Prelude.{Option, Some, None, Result, Ok, Err, ⊤, fold}
use Rattle.std.proofs.Math.ListN.{length-map}
use Rattle.std.proofs.lemmas.List.{map-append}
use Rattle.ot_book.specs.Books.{Register, next_number, line_logged}
use Rattle.ot_book.specs.Room.{Room, room_in, takes, room_after}
use Rattle.ot_session.specs.Session.{Heard, hear, with_line, is_bye, max_line, HasNoEnd, heard_in, texts, after}
use Rattle.ot_session.specs.declared.fault.End.{End}
use Rattle.ot_session.specs.declared.fault.End.TheVariants as end
use Rattle.ot_session.proofs.HeardLemmas.{heard-more, at_line, with_line-bye, with_line-full, with_line-request, heard-append, heard_ended, lines_grow, heard-piece, heard-long}
use Rattle.ot_session.proofs.ToldLemmas.{after-more, room-after, next-after, pending-after}
use Rattle.ot_show_last.specs.LastRuns.{Run, Taken, BadAt, last_found, found_in, closed_by, beginner, TellsOf, Finds}
use Rattle.ot_show_last.specs.Going.{run_in, lines_kept, GoesOnHearing, Says, GoesOrStops, stop_result, told_at_end, SaysAfter, HearsSession}
use Rattle.ot_show_last.specs.declared.found.LastRun.{LastRun}
use Rattle.ot_show_last.specs.declared.fault.LastFault.{LastFault}
use Rattle.ot_show_last.specs.declared.fault.LastFault.TheVariants as fault
use Rattle.ot_show_last.specs.declared.fault.Untaken.{Untaken}
use Rattle.ot_show_last.specs.declared.fault.Untaken.TheVariants as answer
use Rattle.ot_show_last.specs.declared.stop.Stop.{Stop}
use Rattle.ot_show_last.specs.declared.stop.Stop.TheVariants.{Bye, Bad, Memory}
use Rattle.ot_show_last.proofs.FoundLemmas.{found-append, found-bad, closed_bad}

abbrev first_room : Room
first_room = room_in beginner

-- ---- what is heard

-- after the end nothing is heard
heard_stays : (bytes more : List ℕ) (h : Heard) (e : End) → heard_in beginner bytes ≡ h → h.end ≡ Some e → heard_in beginner (bytes ++ more) ≡ h
heard_stays bytes more h e is ended = heard-append first_room bytes more ∙ ap (λ x. fold (hear first_room) x more) is ∙ heard_ended first_room h e more ended

found_from : (bytes : List ℕ) (h : Heard) → heard_in beginner bytes ≡ h →
    found_in beginner bytes ≡ closed_by h.end (next_number beginner + length h.lines) (last_found beginner None h.lines)
found_from bytes h is = ap (λ (x : Heard). closed_by x.end (next_number beginner + length x.lines) (last_found beginner None x.lines)) is

texts-kept : (lines : List (List ℕ)) → texts (lines_kept lines) ≡ lines
texts-kept [] = refl
texts-kept (line ∷ lines) = ap (λ ls. line ∷ ls) (texts-kept lines)

-- the next request's number counts the lines
number_is : {bytes partial : List ℕ} {book : Register} {last : Option Run} → (g : GoesOnHearing bytes partial book last) → next_number book ≡ next_number beginner + length g.lines
number_is g = ap next_number g.logs ∙ next-after beginner (lines_kept g.lines) ∙ ap (λ n. next_number beginner + n) (length-map g.lines (λ line. (line, false)))

room_is : {bytes partial : List ℕ} {book : Register} {last : Option Run} → (g : GoesOnHearing bytes partial book last) → room_in book ≡ room_after first_room g.lines
room_is g = ap room_in g.logs ∙ room-after beginner (lines_kept g.lines) ∙ ap (room_after first_room) (texts-kept g.lines)

hears_line : {bytes line : List ℕ} {book : Register} {last : Option Run} → (g : GoesOnHearing bytes line book last) →
    heard_in beginner (bytes ++ 10 ∷ []) ≡ with_line first_room (at_line g.lines line)
hears_line {bytes} {line} g = heard-more first_room bytes 10 ∙ ap (λ h. hear first_room h 10) g.hears

-- ---- a piece

pub going_piece : {bytes partial : List ℕ} {book : Register} {last : Option Run} → (piece : List ℕ) → GoesOnHearing bytes partial book last → HasNoEnd piece →
    length partial + length piece ≤ max_line → GoesOnHearing (bytes ++ piece) (partial ++ piece) book last
going_piece {bytes} {partial} piece g clean fits = record {
  lines = g.lines;
  hears = heard-append first_room bytes piece ∙ ap (λ h. fold (hear first_room) h piece) g.hears ∙ heard-piece first_room g.lines partial piece clean fits;
  short = omega (arith, fits, length-append partial piece);
  logs = g.logs;
  taken = g.taken;
}

pub stops_long : {bytes partial : List ℕ} {book : Register} {last : Option Run} → (piece : List ℕ) (number : ℕ) → GoesOnHearing bytes partial book last → HasNoEnd piece →
    max_line < length partial + length piece → number ≡ next_number book → (more : List ℕ) → Says ((bytes ++ piece) ++ more) last (Bad number answer.Long)
stops_long {bytes} {partial} piece number g clean past is = λ more.
    let long = heard-long first_room g.lines partial piece clean g.short past in
    let h : Heard = record { lines = g.lines; partial = long.0; end = Some end.LongLine } in
    let hears : heard_in beginner (bytes ++ piece) ≡ h = heard-append first_room bytes piece ∙ ap (λ x. fold (hear first_room) x piece) g.hears ∙ long.1 in
    found_from ((bytes ++ piece) ++ more) h (heard_stays (bytes ++ piece) more h end.LongLine hears refl)
    ∙ ap (closed_by (Some end.LongLine) (next_number beginner + length g.lines)) g.taken
    ∙ ap (λ n. BadAt n answer.Long) (sym (is ∙ number_is g))

-- ---- a whole line

pub stops_bye : {bytes line : List ℕ} {book : Register} {last : Option Run} → GoesOnHearing bytes line book last → is_bye line ≡ true →
    (more : List ℕ) → Says ((bytes ++ 10 ∷ []) ++ more) last Bye
stops_bye {bytes} {line} g bye = λ more.
    let h : Heard = record { lines = g.lines; partial = []; end = Some end.Bye } in
    let hears : heard_in beginner (bytes ++ 10 ∷ []) ≡ h = hears_line g ∙ with_line-bye first_room g.lines line bye in
    let stays = heard_stays (bytes ++ 10 ∷ []) more h end.Bye hears refl in
    (ap (λ (x : Heard). x.end) stays, found_from ((bytes ++ 10 ∷ []) ++ more) h stays ∙ g.taken)

pub stops_full : {bytes line : List ℕ} {book : Register} {last : Option Run} → (number : ℕ) → GoesOnHearing bytes line book last → is_bye line ≡ false →
    takes (room_in book) line ≡ false → number ≡ next_number book → (more : List ℕ) → Says ((bytes ++ 10 ∷ []) ++ more) last (Bad number answer.Full)
stops_full {bytes} {line} number g bye full is = λ more.
    let h : Heard = record { lines = g.lines; partial = []; end = Some end.Full } in
    let no : takes (room_after first_room g.lines) line ≡ false = ap (λ r. takes r line) (sym (room_is g)) ∙ full in
    let hears : heard_in beginner (bytes ++ 10 ∷ []) ≡ h = hears_line g ∙ with_line-full first_room g.lines line bye no in
    found_from ((bytes ++ 10 ∷ []) ++ more) h (heard_stays (bytes ++ 10 ∷ []) more h end.Full hears refl)
    ∙ ap (closed_by (Some end.Full) (next_number beginner + length g.lines)) g.taken
    ∙ ap (λ n. BadAt n answer.Full) (sym (is ∙ number_is g))

hears_request : {bytes line : List ℕ} {book : Register} {last : Option Run} → (g : GoesOnHearing bytes line book last) → is_bye line ≡ false → takes (room_in book) line ≡ true →
    heard_in beginner (bytes ++ 10 ∷ []) ≡ at_line (g.lines ++ line ∷ []) []
hears_request {bytes} {line} g bye free =
    hears_line g ∙ with_line-request first_room g.lines line bye (ap (λ r. takes r line) (sym (room_is g)) ∙ free)

found_line : {bytes line : List ℕ} {book : Register} {last : Option Run} → (g : GoesOnHearing bytes line book last) →
    last_found beginner None (g.lines ++ line ∷ []) ≡ last_found book last (line ∷ [])
found_line {bytes} {line} {book} {last} g =
    found-append beginner None last g.lines (line ∷ []) g.taken ∙ ap (λ b. last_found b last (line ∷ [])) (sym g.logs)

-- a line that is taken
pub going_line : {bytes line : List ℕ} {book : Register} {last : Option Run} → (now : Option Run) → GoesOnHearing bytes line book last → is_bye line ≡ false →
    takes (room_in book) line ≡ true → last_found book last (line ∷ []) ≡ Taken now → GoesOnHearing (bytes ++ 10 ∷ []) [] (line_logged book line false) now
going_line {bytes} {line} {book} {last} now g bye free is = record {
  lines = g.lines ++ line ∷ [];
  hears = hears_request g bye free;
  short = omega arith;
  logs =
      ap (λ b. line_logged b line false) g.logs
      ∙ sym (ap (after beginner) (map-append (λ l. (l, false)) g.lines (line ∷ [])) ∙ after-more beginner (lines_kept g.lines) (line, false));
  taken = found_line g ∙ is;
}

-- a line that isn't
pub stops_refused : {bytes line : List ℕ} {book : Register} {last : Option Run} → (number : ℕ) (answer : Untaken) → GoesOnHearing bytes line book last → is_bye line ≡ false →
    takes (room_in book) line ≡ true → last_found book last (line ∷ []) ≡ BadAt number answer → (more : List ℕ) → Says ((bytes ++ 10 ∷ []) ++ more) last (Bad number answer)
stops_refused {bytes} {line} {book} {last} number answer g bye free is = λ more.
    let begun : Heard = at_line (g.lines ++ line ∷ []) [] in
    let h : Heard = fold (hear first_room) begun more in
    let hears : heard_in beginner ((bytes ++ 10 ∷ []) ++ more) ≡ h =
    heard-append first_room (bytes ++ 10 ∷ []) more ∙ ap (λ x. fold (hear first_room) x more) (hears_request g bye free) in
    let grows = lines_grow first_room begun more in
    let bad : last_found beginner None h.lines ≡ BadAt number answer =
    ap (last_found beginner None) grows.1 ∙ found-bad beginner None number answer (g.lines ++ line ∷ []) grows.0 (found_line g ∙ is) in
    found_from ((bytes ++ 10 ∷ []) ++ more) h hears
    ∙ ap (closed_by h.end (next_number beginner + length h.lines)) bad
    ∙ closed_bad h.end (next_number beginner + length h.lines) number answer

-- ---- more bytes

-- the session stopped before these
pub stop_more : (last : Option Run) (stop : Stop) (bytes behind : List ℕ) → ((more : List ℕ) → Says (bytes ++ more) last stop) → (more : List ℕ) → Says ((bytes ++ behind) ++ more) last stop
stop_more last stop bytes behind says = λ more. subst (λ bs. Says bs last stop) (sym (append_assoc bytes behind more)) (says (behind ++ more))

-- ---- a session that begins, and one that ends

-- no request is open
pub closed_going : {bytes partial : List ℕ} {book : Register} {last : Option Run} → GoesOnHearing bytes partial book last → book.pending ≡ None
closed_going g = ap (λ (b : Register). b.pending) g.logs ∙ pending-after beginner (lines_kept g.lines) refl

-- where nothing more comes
pub found_going : {bytes partial : List ℕ} {book : Register} {last : Option Run} → GoesOnHearing bytes partial book last → found_in beginner bytes ≡ Taken last
found_going {bytes} {partial} g =
    let h : Heard = record { lines = g.lines; partial = partial; end = None } in found_from bytes h g.hears ∙ g.taken

says_so : (left : Option (List ℕ)) (bytes : List ℕ) (last : Option Run) (stop : Stop) → Says bytes last stop → SaysAfter left bytes last (stop_result stop)
says_so left bytes last Bye says = (inl says.0, says.1)
says_so left bytes last (Bad number answer) says = says
says_so left bytes last Memory says = tt

-- what is told where it stopped
pub says_after : (left : Option (List ℕ)) (bytes : List ℕ) (last : Option Run) (stop : Stop) → ((more : List ℕ) → Says (bytes ++ more) last stop) → SaysAfter left bytes last (stop_result stop)
says_after left bytes last stop says =
    let now : Says bytes last stop = subst (λ bs. Says bs last stop) (append-nil bytes) (says []) in says_so left bytes last stop now

-- ---- what is told of it all

tells_so : (left : Option (List ℕ)) (bytes : List ℕ) (result : Result ⊤ LastFault) (last : Option LastRun) → SaysAfter left bytes (run_in last) result → TellsOf left bytes (told_at_end result last)
tells_so left bytes (Ok done) (Some last) says = says
tells_so left bytes (Ok done) None says = says
tells_so left bytes (Err fault.NoRun) last says = absurd says
tells_so left bytes (Err (fault.BadLine number answer)) last says = says
tells_so left bytes (Err fault.ReadFailed) last says = tt
tells_so left bytes (Err fault.TooManyReads) last says = tt
tells_so left bytes (Err fault.Memory) last says = tt

pub finds : (ahead left : Option (List ℕ)) (result : Result ⊤ LastFault) (last : Option LastRun) → HearsSession ahead left (run_in last) result → Finds ahead left (told_at_end result last)
finds ahead left result last h = record {
  bytes = h.bytes;
  reads = h.reads;
  tells = tells_so left h.bytes result last h.says;
}

pub told_failed : (read : Result ⊤ LastFault) (last : Option LastRun) → told_at_end read last ≡ Err fault.ReadFailed → read ≡ Err fault.ReadFailed
told_failed (Ok done) (Some last) is = cc
told_failed (Ok done) None is = cc
told_failed (Err why) last is = let same : why ≡ fault.ReadFailed = cc in ap Err same

pub told_worked : (read : Result ⊤ LastFault) (last : Option LastRun) → (told_at_end read last ≡ Err fault.ReadFailed → ⊥) → read ≡ Err fault.ReadFailed → ⊥
told_worked read last other is = other (ap (λ r. told_at_end r last) is)
