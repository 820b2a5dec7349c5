-- A session of which the remarks alone are written.
use Rattle.std.proofs.Common.{◌≡◌, ℕ, suc, ◌+◌, ◌<◌, ◌≤◌, List, [], ◌∷◌, ◌++◌, length, take, length-take-le, append_assoc, append-nil, le_refl, refl, sym, ap, subst, ◌∙◌, arith, Bool, ◌||◌}
use Rattle.std.specs.Prelude.{All, Option, None, Result, Ok, Err, ⊤, IfOk, is_some}
use Rattle.std.specs.Io.KnownBytes.{Appends, Consumes}
use Rattle.std.proofs.KnownBytes.{Appends-nil, Appends-trans}
use Rattle.ot_lines.specs.Lines.{Flow, Hearing, HasNoEnd, hearing_opened, Passes, lines_ended, IsLine, Went, Through, Ends, Listens, Stops as StopsAt}
use Rattle.ot_lines.specs.declared.listener.Ended.{Ended}
use Rattle.ot_lines.specs.declared.listener.Ended.TheVariants as ended_as
use Rattle.ot_book.specs.Books.{Register, next_number, line_logged}
use Rattle.ot_book.specs.Room.{room_in}
use Rattle.ot_session.specs.Session.{Heard, max_line, heard_in, Session, Serves, Lines, after, texts}
use Rattle.ot_session.specs.Serving.{Draft, Going, session_bounds, result_of}
use Rattle.ot_session.specs.declared.fault.End.{End}
use Rattle.ot_session.specs.declared.fault.End.TheVariants as end
use Rattle.ot_session.specs.declared.fault.FrontFault.{FrontFault}
use Rattle.ot_session.specs.declared.stop.Stop.{Stop}
use Rattle.ot_session.proofs.ToldLemmas.{pending-after, texts-more, after-more}
use Rattle.ot_session.proofs.SessionLemmas.{going_piece, stops_long}
use Rattle.ot_session.proofs.ServingLemmas.{serves_idle}
use Rattle.ot_session.proofs.PrefixLemmas.{last_of, clean_take, consumed}
use Rattle.ot_session.proofs.LineLemmas.{going_nothing, serves_in}
use Rattle.ot_why_explain.specs.Explaining.{last_code, AreOn, RemarksOn, refuses, says, RemarksAlone}
use Rattle.ot_why_explain.specs.Listening.{said_at, IsStop, Hushed, HushedOn, HushesLine}
use Rattle.ot_why_explain.specs.declared.explaining.Explained.{Explained}
use Rattle.ot_why_explain.specs.declared.explaining.Explained.TheVariants.{AllTaken}
use Rattle.ot_why_explain.specs.declared.explaining.Talk.{Talk}
use Rattle.ot_why_explain.proofs.RemarkLemmas.{refuses-more, said_on, says-more}
use Rattle.ot_why_explain.proofs.NotedLemmas.{IsOneLine, one_line, quiet_all, quiet_run, replied_of, still_heard, said-at}
use Rattle.ot_why_explain.proofs.JoinLemmas.{heard_behind}
use Rattle.ot_why_explain.proofs.ExplainLemmas.{stops_of}
use Rattle.ot_why_explain.proofs.ListenLemmas.{is_stop, served_on}

-- ---- one line

remarks_more : (book : Register) (lines : Lines) (line : List ℕ × Bool) (text remarks : List ℕ) → RemarksOn book lines text →
    AreOn (last_code (line_logged (after book lines) line.0 line.1)) remarks → RemarksOn book (lines ++ line ∷ []) (text ++ remarks)
remarks_more book [] line text remarks none are = (remarks, [], ap (λ t. t ++ remarks) none ∙ sym (append-nil remarks), are, refl)
remarks_more book (l ∷ lines) line text remarks (own, later, is, on, more) are =
    (own, later ++ remarks, ap (λ t. t ++ remarks) is ∙ append_assoc own later remarks, on, remarks_more (line_logged book l.0 l.1) lines line later remarks more are)

-- no request of the book is open
pub hushed_closed : {first : Register} {start : Option (List ℕ)} {bytes : List ℕ} {book : Register} {held : Option (List ℕ)} {said : Explained} →
    first.pending ≡ None → Hushed first start bytes book held said → book.pending ≡ None
hushed_closed {first} closed h = ap (λ (b : Register). b.pending) h.logs ∙ pending-after first h.lines closed

-- the line has begun
pub hushed_begun : {first : Register} {start : Option (List ℕ)} {bytes : List ℕ} {book : Register} {held : Option (List ℕ)} {said : Explained} (line : List ℕ) →
    Hushed first start bytes book held said → HasNoEnd line → length line ≤ max_line → Going first None (bytes ++ line) line book None
hushed_begun line h clean short = going_piece line h.going clean (omega (arith, short))

-- it was taken, and these are the remarks on its reply
pub hushed_on : {first : Register} {start : Option (List ℕ)} {bytes : List ℕ} {book : Register} {held : Option (List ℕ)} {said : Explained} (line : List ℕ) (new : Register) (now : Option (List ℕ)) (later : Explained) →
    Hushed first start bytes book held said → HasNoEnd line → Going first None ((bytes ++ line) ++ 10 ∷ []) [] new None → Going book None (line ++ 10 ∷ []) [] new None →
    (text : List ℕ) × AreOn (last_code new) text × Appends held now text → later ≡ said_on said (is_some (last_code new)) →
    Hushed first start (bytes ++ (line ++ 10 ∷ [])) new now later
hushed_on {first} {start} {bytes} {book} {held} {said} line new now later h clean going alone told is =
    let more = line ++ 10 ∷ [] in
    let s : Session book new more None None (Ok end.EndOfInput) = served_on alone in
    let r = replied_of book new more s.lost s.written (one_line (room_in book) line clean) s.logs s.tells in
    let logs : new ≡ line_logged (after first h.lines) r.line.0 r.line.1 = r.logs ∙ ap (λ b. line_logged b r.line.0 r.line.1) h.logs in
    let joined : (heard_in first (bytes ++ more)).lines ≡ (heard_in first bytes).lines ++ (heard_in book more).lines =
    ap (λ (x : Heard). x.lines) (heard_behind h.going more) ∙ ap (λ (x : Heard). x.lines ++ (heard_in book more).lines) (sym h.going.hears) in record {
      going = subst (λ bs. Going first None bs [] new None) (append_assoc bytes line (10 ∷ [])) going;
      lines = h.lines ++ r.line ∷ [];
      hears = joined ∙ ap (λ ls. ls ++ (heard_in book more).lines) h.hears ∙ ap (λ ls. texts h.lines ++ ls) r.hears ∙ sym (texts-more h.lines r.line);
      logs = logs ∙ sym (after-more first h.lines r.line);
      text = h.text ++ told.0;
      remarks = remarks_more first h.lines r.line h.text told.0 h.remarks (subst (λ b. AreOn (last_code b) told.0) logs told.1);
      writes = Appends-trans start held now h.text told.0 h.writes told.2;
      tells =
          is
          ∙ says-more (refuses first h.lines) (is_some (last_code new)) said h.tells
          ∙ ap (λ b. says (refuses first h.lines || is_some (last_code b))) logs
          ∙ ap says (sym (refuses-more first h.lines r.line));
    }

-- nothing was logged where the session ended at the line
same_book : (book new : Register) (bytes : List ℕ) (e : End) → IsStop (Ok e) → IsOneLine (heard_in book bytes) → Session book new bytes None None (Ok e) → new ≡ book
same_book book new bytes end.EndOfInput stops one s = absurd stops
same_book book new bytes end.Bye stops one s = s.logs ∙ ap (after book) (quiet_all book bytes s.lost s.written end.Bye one s.tells).1
same_book book new bytes end.Full stops one s = s.logs ∙ ap (after book) (quiet_all book bytes s.lost s.written end.Full one s.tells).1
same_book book new bytes end.LongLine stops one s = s.logs ∙ ap (after book) (quiet_all book bytes s.lost s.written end.LongLine one s.tells).1
same_book book new bytes end.Closed stops one s = s.logs ∙ ap (after book) (quiet_run book bytes s.lost s.written one s.tells).1

ended_so : (first : Register) (bytes : List ℕ) (book : Register) (start : Option (List ℕ)) (line : List ℕ) (new : Register) (held : Option (List ℕ)) (said : Explained) (result : Result End FrontFault) → IsStop result → HasNoEnd line →
    Session first new (bytes ++ (line ++ 10 ∷ [])) None None result → Session book new (line ++ 10 ∷ []) None None result →
    HushedOn first start (bytes ++ (line ++ 10 ∷ [])) book new held held said said (Err result)
ended_so first bytes book start line new held said (Ok e) stops clean session alone = record {
  stops = stops;
  session = session;
  unlogged = same_book book new (line ++ 10 ∷ []) e stops (one_line (room_in book) line clean) alone;
  unwritten = refl;
  unsaid = refl;
}
ended_so first bytes book start line new held said (Err why) stops clean session alone = tt

-- it stopped the session
pub hushed_stop : (first : Register) (bytes : List ℕ) (book : Register) (start : Option (List ℕ)) (line : List ℕ) (new : Register) (held : Option (List ℕ)) (said : Explained) (why : Stop) (result : Result End FrontFault) →
    result ≡ result_of why → HasNoEnd line → Session first new ((bytes ++ line) ++ 10 ∷ []) None None (result_of why) → Session book new (line ++ 10 ∷ []) None None (result_of why) →
    HushedOn first start (bytes ++ (line ++ 10 ∷ [])) book new held held said said (Err result)
hushed_stop first bytes book start line new held said why result is clean session alone =
    subst (λ r. HushedOn first start (bytes ++ (line ++ 10 ∷ [])) book new held held said said (Err r)) (sym is)
    (ended_so first bytes book start line new held said (result_of why) (is_stop why) clean (subst (λ bs. Session first new bs None None (result_of why)) (append_assoc bytes line (10 ∷ [])) session) alone)

-- ---- all lines

pub hushed_nothing : (first : Register) (start : Option (List ℕ)) (said : Explained) → said ≡ AllTaken → Hushed first start [] first start said
hushed_nothing first start said is = record {
  going = going_nothing first None;
  lines = [];
  hears = refl;
  logs = refl;
  text = [];
  remarks = refl;
  writes = Appends-nil start;
  tells = is;
}

-- what is told of the lines in the end
told_alone : {first book : Register} {start held : Option (List ℕ)} {bytes : List ℕ} {said : Explained} (ahead left : Option (List ℕ)) (latest : ℕ) (more : List ℕ) (new : Register) (now : Option (List ℕ)) (later : Explained) (e : End) →
    Hushed first start bytes book held said → new ≡ book → now ≡ held → later ≡ said → Serves first new ahead left latest None None (Ok e) → Consumes ahead left (bytes ++ more) →
    RemarksAlone first new ahead left latest start now e (said_at e later)
told_alone {first} {book} {start} {held} {bytes} {said} ahead left latest more new now later e h same written says_so serves reads =
    let far = still_heard first bytes more in record {
      serves = serves;
      bytes = bytes ++ more;
      reads = reads;
      lines = h.lines;
      others = far.0;
      hears = far.1 ∙ ap (λ ls. ls ++ far.0) h.hears;
      logs = same ∙ h.logs;
      text = h.text;
      remarks = h.remarks;
      writes = subst (λ w. Appends start w h.text) (sym written) h.writes;
      tells = ap (said_at e) (says_so ∙ h.tells) ∙ said-at e (refuses first h.lines);
    }

module _ {A : Type 0} (draft : A → Draft) where
  abbrev pub Took : Talk → A → List ℕ → Talk → A → Result ⊤ (Result End FrontFault) → Type 0
  Took old a line new b result = HushesLine old.book old.said (draft a).held line new.book new.said (draft b).held result

  went_hushed : (first : Register) (start : Option (List ℕ)) → first.pending ≡ None → (lines : List (List ℕ)) → All (IsLine max_line) lines → (old : Talk) (a : A) (new : Talk) (b : A) →
      Went Took old a lines new b → (bytes : List ℕ) → Hushed first start bytes old.book (draft a).held old.said → Hushed first start (bytes ++ lines_ended lines) new.book (draft b).held new.said
  went_hushed first start closed [] are old a new b went bytes e =
      subst (λ bs. Hushed first start bs new.book (draft b).held new.said) (sym (append-nil bytes))
      (subst (λ (n : Talk). Hushed first start bytes n.book (draft b).held n.said) (sym went.0) (subst (λ s. Hushed first start bytes old.book (draft s).held old.said) (sym went.1) e))
  went_hushed first start closed (line ∷ lines) are old a new b (mid, more, took, later) bytes e =
      let is : IsLine max_line line = are 0 [] (omega arith) in
      let rest : All (IsLine max_line) lines = λ k d within. are (suc k) d (omega (arith, within)) in
      subst (λ bs. Hushed first start bs new.book (draft b).held new.said)
      (append_assoc bytes (line ++ 10 ∷ []) (lines_ended lines) ∙ ap (λ bs. bytes ++ bs) (append_assoc line (10 ∷ []) (lines_ended lines)))
      (went_hushed first start closed lines rest mid more new b later (bytes ++ (line ++ 10 ∷ [])) (took.goes first start bytes closed is.clean is.short e))

  through : {to : Hearing} {f h : Flow} {first new : Talk} {a b : A} {rest : List ℕ} {n m : ℕ} → first.book.pending ≡ None → first.said ≡ AllTaken →
      (t : Through Took (hearing_opened session_bounds) f first a to h new b rest n m) → Hushed first.book (draft a).held (lines_ended t.lines) new.book (draft b).held new.said
  through {first = first} {new = new} {a = a} {b = b} closed says t =
      went_hushed first.book (draft a).held closed t.lines t.are first a new b t.went [] (hushed_nothing first.book (draft a).held first.said says)

  reads_all : {to : Hearing} {f h : Flow} {bytes : List ℕ} {n m : ℕ} → Passes (hearing_opened session_bounds) f to h bytes n m → Consumes f.ahead h.ahead (bytes ++ to.ahead)
  reads_all {to} {f} {h} {bytes} p = consumed f.ahead h.ahead to.ahead bytes p.heard

  stopped_alone : (to : Hearing) (f h : Flow) (first mid new : Talk) (a b c : A) (why : Result End FrontFault) (bytes : List ℕ) →
      HushedOn first.book (draft a).held (bytes ++ (to.line ++ 10 ∷ [])) mid.book new.book (draft b).held (draft c).held mid.said new.said (Err why) →
      Hushed first.book (draft a).held bytes mid.book (draft b).held mid.said → HasNoEnd to.line → length to.line ≤ max_line → (earlier : List ℕ) →
      bytes ++ (to.line ++ 10 ∷ []) ≡ earlier ++ to.since → 0 < length to.since → length to.since + length to.ahead ≤ h.latest → Consumes f.ahead h.ahead ((bytes ++ (to.line ++ 10 ∷ [])) ++ to.ahead) →
      next_number mid.book ≤ next_number new.book → IfOk why (λ e. RemarksAlone first.book new.book f.ahead h.ahead h.latest (draft a).held (draft c).held e (said_at e new.said))
  stopped_alone to f h first mid new a b c (Ok e) bytes stop hushed clean short earlier since some few reads grows =
      let line : bytes ++ (to.line ++ 10 ∷ []) ≡ (bytes ++ to.line) ++ 10 ∷ [] = sym (append_assoc bytes to.line (10 ∷ [])) in
      let serves : Serves first.book new.book f.ahead h.ahead h.latest None None (Ok e) =
      serves_in (hushed_begun to.line hushed clean short) 10 f.ahead h.ahead h.latest earlier to.since to.ahead new.book None (Ok e) (stops_of (Ok e) stop.stops) (sym line ∙ since) some few
      (subst (λ bs. Consumes f.ahead h.ahead (bs ++ to.ahead)) line reads)
      (subst (λ bs. Session first.book new.book bs None None (Ok e)) line stop.session) grows in
      let all = subst (Consumes f.ahead h.ahead) (append_assoc bytes (to.line ++ 10 ∷ []) to.ahead) reads in
      told_alone f.ahead h.ahead h.latest ((to.line ++ 10 ∷ []) ++ to.ahead) new.book (draft c).held new.said e hushed stop.unlogged stop.unwritten stop.unsaid serves all
  stopped_alone to f h first mid new a b c (Err why) bytes stop hushed clean short earlier since some few reads grows = tt

  pub by_stop : (from to : Hearing) (f h : Flow) (first new : Talk) (a b : A) (field : Ended (Result End FrontFault)) (why : Result End FrontFault) →
      field ≡ ended_as.Stopped why → from ≡ hearing_opened session_bounds → first.book.pending ≡ None → first.said ≡ AllTaken → Listens Took from f first a to h new b (Ok field) →
      IfOk why (λ e. RemarksAlone first.book new.book f.ahead h.ahead h.latest (draft a).held (draft b).held e (said_at e new.said))
  by_stop from to f h first new a b field why is begun closed calm l =
      let s : StopsAt Took (hearing_opened session_bounds) f first a to h new b why =
      subst (λ (e : Ended (Result End FrontFault)). Listens Took (hearing_opened session_bounds) f first a to h new b (Ok e)) is (subst (λ x. Listens Took x f first a to h new b (Ok field)) begun l) in
      let t = s.through in
      let hushed = through closed calm t in
      let took = s.last.goes first.book (draft a).held (lines_ended t.lines) closed s.is.clean s.is.short hushed in
      stopped_alone to f h first s.mid new a s.more b why (lines_ended t.lines) took hushed s.is.clean s.is.short
      t.passes.earlier t.passes.since s.amid.some (t.passes.latest (omega arith)) (reads_all t.passes) s.last.grows

  pub by_end : (from to : Hearing) (f h : Flow) (first new : Talk) (a b : A) (field : Ended (Result End FrontFault)) →
      field ≡ ended_as.End → from ≡ hearing_opened session_bounds → first.book.pending ≡ None → first.said ≡ AllTaken → Listens Took from f first a to h new b (Ok field) →
      RemarksAlone first.book new.book f.ahead h.ahead h.latest (draft a).held (draft b).held end.EndOfInput (said_at end.EndOfInput new.said)
  by_end from to f h first new a b field is begun closed calm l =
      let s : Ends Took (hearing_opened session_bounds) f first a to h new b (Ok ended_as.End) =
      subst (λ (e : Ended (Result End FrontFault)). Listens Took (hearing_opened session_bounds) f first a to h new b (Ok e)) is (subst (λ x. Listens Took x f first a to h new b (Ok field)) begun l) in
      let t = s.through in
      let bytes = lines_ended t.lines ++ to.line in
      let top : to.longest ≡ 65536 = t.passes.longest in
      let hushed = through closed calm t in
      let reads : Consumes f.ahead h.ahead bytes =
      subst (Consumes f.ahead h.ahead) (append-nil bytes) (subst (λ ahead. Consumes f.ahead h.ahead (bytes ++ ahead)) s.is.0.none (reads_all t.passes)) in
      let serves : Serves first.book new.book f.ahead h.ahead h.latest None None (Ok end.EndOfInput) =
      serves_idle h.ahead h.latest (Ok end.EndOfInput) (record { bytes = bytes; reads = reads; going = going_piece to.line hushed.going s.clean (omega (arith, s.is.0.short, top)) }) reads tt in
      told_alone f.ahead h.ahead h.latest to.line new.book (draft b).held new.said end.EndOfInput hushed refl refl refl serves reads

  pub by_long : (from to : Hearing) (f h : Flow) (first new : Talk) (a b : A) (field : Ended (Result End FrontFault)) →
      field ≡ ended_as.Long → from ≡ hearing_opened session_bounds → first.book.pending ≡ None → first.said ≡ AllTaken → Listens Took from f first a to h new b (Ok field) →
      RemarksAlone first.book new.book f.ahead h.ahead h.latest (draft a).held (draft b).held end.LongLine (said_at end.LongLine new.said)
  by_long from to f h first new a b field is begun closed calm l =
      let s : Ends Took (hearing_opened session_bounds) f first a to h new b (Ok ended_as.Long) =
      subst (λ (e : Ended (Result End FrontFault)). Listens Took (hearing_opened session_bounds) f first a to h new b (Ok e)) is (subst (λ x. Listens Took x f first a to h new b (Ok field)) begun l) in
      let t = s.through in
      let bytes = lines_ended t.lines in
      let hushed = through closed calm t in
      let long : length to.line ≡ suc 65536 = s.is.0 ∙ ap suc t.passes.longest in
      let last = last_of to.line 65536 long in
      let front = take 65536 to.line in
      let going = going_piece front hushed.going (clean_take to.line 65536 (omega (arith, long)) s.clean) (omega (arith, long, length-take-le 65536 to.line (omega (arith, long)))) in
      let line : bytes ++ to.line ≡ (bytes ++ front) ++ last.0 ∷ [] = ap (λ xs. bytes ++ xs) last.1 ∙ sym (append_assoc bytes front (last.0 ∷ [])) in
      let session : Session first.book new.book (bytes ++ to.line) None None (Ok end.LongLine) = stops_long to.line hushed.going s.clean (omega (arith, long)) tt in
      let serves : Serves first.book new.book f.ahead h.ahead h.latest None None (Ok end.LongLine) =
      serves_in going last.0 f.ahead h.ahead h.latest t.passes.earlier to.since to.ahead new.book None (Ok end.LongLine) tt (sym line ∙ t.passes.since) s.is.1.some (t.passes.latest (omega arith))
      (subst (λ bs. Consumes f.ahead h.ahead (bs ++ to.ahead)) line (reads_all t.passes))
      (subst (λ bs. Session first.book new.book bs None None (Ok end.LongLine)) line session) (le_refl (next_number new.book)) in
      let all = subst (Consumes f.ahead h.ahead) (append_assoc bytes to.line to.ahead) (reads_all t.passes) in
      told_alone f.ahead h.ahead h.latest (to.line ++ to.ahead) new.book (draft b).held new.said end.LongLine hushed refl refl refl serves all
