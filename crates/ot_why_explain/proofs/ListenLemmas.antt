-- An explained session over the lines that were heard.
use Rattle.std.proofs.Common.{◌≡◌, ℕ, suc, ◌+◌, ◌<◌, ◌≤◌, List, [], ◌∷◌, ◌++◌, length, take, length-take-le, append_assoc, append-nil, le_refl, refl, sym, ap, subst, ◌∙◌, arith}
use Rattle.std.specs.Prelude.{All, Option, Some, None, Result, Ok, Err, ⊤, IfOk, IfErr}
use Rattle.std.specs.Io.KnownBytes.{Appends, Consumes}
use Rattle.ot_lines.specs.Lines.{Flow, Hearing, HasNoEnd, hearing_opened, Passes, IsIdle, lines_ended, IsLine, Went, Through, Ends, Listens, Stops as StopsAt}
use Rattle.ot_lines.specs.declared.lines.LineFault.{LineFault}
use Rattle.ot_lines.specs.declared.lines.LineFault.TheVariants as lines
use Rattle.ot_lines.specs.declared.listener.Ended.{Ended}
use Rattle.ot_lines.specs.declared.listener.Ended.TheVariants as ended_as
use Rattle.ot_book.specs.Books.{Register, next_number}
use Rattle.ot_session.specs.Serving.{Draft, Writes, BreaksOffIn, Going, session_bounds, result_of}
use Rattle.ot_session.specs.Session.{Heard, max_line, closing, Session, session_told, texts}
use Rattle.ot_session.specs.declared.fault.End.{End}
use Rattle.ot_session.specs.declared.fault.End.TheVariants as end
use Rattle.ot_session.specs.declared.fault.FrontFault.{FrontFault}
use Rattle.ot_session.specs.declared.fault.FrontFault.TheVariants as fault
use Rattle.ot_session.specs.declared.stop.Stop.{Stop}
use Rattle.ot_session.specs.declared.stop.Stop.TheVariants as stop
use Rattle.ot_session.proofs.ToldLemmas.{pending-after}
use Rattle.ot_session.proofs.SessionLemmas.{going_piece, session_of, tells_all}
use Rattle.ot_session.proofs.PrefixLemmas.{last_of, clean_take, consumed}
use Rattle.ot_session.proofs.LineLemmas.{going_nothing, serves_in}
use Rattle.ot_why_explain.specs.Explaining.{without_remarks, Explains, Remarks}
use Rattle.ot_why_explain.specs.Listening.{Explaining, IsStop, Stopped, ExplainsLine, Served, said_at}
use Rattle.ot_why_explain.specs.declared.explaining.Explained.{Explained}
use Rattle.ot_why_explain.specs.declared.explaining.Explained.TheVariants.{AllTaken}
use Rattle.ot_why_explain.specs.declared.explaining.Talk.{Talk}
use Rattle.ot_why_explain.proofs.NotedLemmas.{remarks_of_closing}
use Rattle.ot_why_explain.proofs.ExplainLemmas.{stops_of, stopped_more, explaining_ends, explaining_first, explains_idle, remarks_idle}

-- ---- one line

-- no request of the book is open
pub closed_book : {first : Register} {start : Option (List ℕ)} {bytes partial : List ℕ} {book : Register} {held : Option (List ℕ)} {said : Explained} →
    first.pending ≡ None → Explaining first start bytes partial book held said → book.pending ≡ None
closed_book {first} closed e = ap (λ (b : Register). b.pending) e.going.logs ∙ pending-after first e.going.lines closed

-- the line as a session of its own
pub begun_line : (book : Register) (held : Option (List ℕ)) (line : List ℕ) → HasNoEnd line → length line ≤ max_line → Going book held line line book held
begun_line book held line clean short = going_piece line (going_nothing book held) clean (omega (arith, short))

pub served_on : {old new : Register} {held now : Option (List ℕ)} {bytes partial : List ℕ} → Going old held bytes partial new now → Served old new bytes held now None
served_on {old} {new} {held} {now} {bytes} {partial} going =
    session_of old held bytes new now going.lines [] (session_told old going.lines ++ []) (Ok end.EndOfInput)
    (ap (λ (h : Heard). h.lines) going.hears ∙ sym (append-nil (texts going.lines))) going.logs
    (subst (Appends held now) (sym (append-nil (session_told old going.lines))) going.writes)
    (tells_all old bytes going.lines partial None going.hears)

pub is_stop : (why : Stop) → IsStop (result_of why)
is_stop stop.Bye = tt
is_stop stop.Full = tt
is_stop stop.LongLine = tt
is_stop stop.Closed = tt
is_stop stop.Stranger = tt
is_stop stop.WriteFailed = tt
is_stop stop.Memory = tt

pub served_stop : {old new : Register} {held now : Option (List ℕ)} {bytes : List ℕ} (why : Stop) (result : Result End FrontFault) → result ≡ result_of why →
    Session old new bytes held now (result_of why) → Served old new bytes held now (Some result)
served_stop {old} {new} {held} {now} {bytes} why result is session = subst (λ r. Served old new bytes held now (Some r)) (sym is) (is_stop why, session)

-- ---- all lines

module _ {A : Type 0} (draft : A → Draft) where
  abbrev pub Took : Talk → A → List ℕ → Talk → A → Result ⊤ (Result End FrontFault) → Type 0
  Took old a line new b result = ExplainsLine old.book old.said (draft a).held line new.book new.said (draft b).held result

  went_explaining : (first : Register) (start : Option (List ℕ)) → first.pending ≡ None → (lines : List (List ℕ)) → All (IsLine max_line) lines → (old : Talk) (a : A) (new : Talk) (b : A) →
      Went Took old a lines new b → (bytes : List ℕ) → Explaining first start bytes [] old.book (draft a).held old.said →
      Explaining first start (bytes ++ lines_ended lines) [] new.book (draft b).held new.said
  went_explaining first start closed [] are old a new b went bytes e =
      subst (λ bs. Explaining first start bs [] new.book (draft b).held new.said) (sym (append-nil bytes))
      (subst (λ (n : Talk). Explaining first start bytes [] n.book (draft b).held n.said) (sym went.0) (subst (λ s. Explaining first start bytes [] old.book (draft s).held old.said) (sym went.1) e))
  went_explaining first start closed (line ∷ lines) are old a new b (mid, more, took, later) bytes e =
      let is : IsLine max_line line = are 0 [] (omega arith) in
      let rest : All (IsLine max_line) lines = λ k d within. are (suc k) d (omega (arith, within)) in
      subst (λ bs. Explaining first start bs [] new.book (draft b).held new.said)
      (append_assoc bytes (line ++ 10 ∷ []) (lines_ended lines) ∙ ap (λ bs. bytes ++ bs) (append_assoc line (10 ∷ []) (lines_ended lines)))
      (went_explaining first start closed lines rest mid more new b later (bytes ++ (line ++ 10 ∷ [])) (took.goes first start bytes closed is.clean is.short e))

  through : {to : Hearing} {f h : Flow} {first new : Talk} {a b : A} {rest : List ℕ} {n m : ℕ} → first.book.pending ≡ None → first.said ≡ AllTaken →
      (t : Through Took (hearing_opened session_bounds) f first a to h new b rest n m) → Explaining first.book (draft a).held (lines_ended t.lines) [] new.book (draft b).held new.said
  through {first = first} {new = new} {a = a} {b = b} closed says t =
      went_explaining first.book (draft a).held closed t.lines t.are first a new b t.went [] (explaining_first first.book (draft a).held [] first.said refl says)

  -- what is said where it stopped
  remarks_stopped : {first new : Register} {start now : Option (List ℕ)} {bytes : List ℕ} {said : Explained} (ahead left : Option (List ℕ)) (result : Result End FrontFault) →
      Consumes ahead left bytes → Stopped first new start bytes now said result → IfOk result (λ e. Remarks first new ahead left start now e (said_at e said))
  remarks_stopped {start = start} {now = now} ahead left (Ok e) reads s = remarks_of_closing ahead left start now s.closes reads s.writes
  remarks_stopped ahead left (Err why) reads s = tt

  -- how it ended, and what is said
  pub record Comes (first new : Register) (said : Explained) (f h : Flow) (start held : Option (List ℕ)) (result : Result End FrontFault) : Type 0 where
    pub explains : Explains first new f.ahead h.ahead h.latest start held result
    pub remarks : IfOk result (λ e. Remarks first new f.ahead h.ahead start held e (said_at e said))

  -- the session behind its lines, without the remarks
  plain_going : {first : Register} {start : Option (List ℕ)} {bytes : List ℕ} {book : Register} {held : Option (List ℕ)} {said : Explained} →
      (e : Explaining first start bytes [] book held said) → Going first (Some []) bytes [] book (Some (without_remarks e.text))
  plain_going {first} {book = book} e = subst (λ bs. Going first (Some []) bs [] book (Some (without_remarks e.text))) (sym (e.is ∙ append-nil e.begun)) e.going

  reads_all : {to : Hearing} {f h : Flow} {bytes : List ℕ} {n m : ℕ} → Passes (hearing_opened session_bounds) f to h bytes n m → Consumes f.ahead h.ahead (bytes ++ to.ahead)
  reads_all {to} {f} {h} {bytes} p = consumed f.ahead h.ahead to.ahead bytes p.heard

  -- it stopped at this byte
  stopped_in : {first new : Register} {start now : Option (List ℕ)} {bytes partial : List ℕ} {book : Register} {said : Explained} (plain : Option (List ℕ)) (b : ℕ) (f h : Flow) (earlier since more : List ℕ) (result : Result End FrontFault) →
      Going first (Some []) bytes partial book plain → Stopped first new start (bytes ++ b ∷ []) now said result → bytes ++ b ∷ [] ≡ earlier ++ since → 0 < length since →
      length since + length more ≤ h.latest → Consumes f.ahead h.ahead ((bytes ++ b ∷ []) ++ more) → next_number book ≤ next_number new → Comes first new said f h start now result
  stopped_in {first} {new} {start} {now} {bytes} plain b f h earlier since more result going s is some few reads grows = record {
    explains = record {
      text = s.text;
      writes = s.writes;
      serves = serves_in going b f.ahead h.ahead h.latest earlier since more new (Some (without_remarks s.text)) result (stops_of result s.stops) is some few reads s.session grows;
    };
    remarks = remarks_stopped f.ahead h.ahead result reads (stopped_more more s);
  }

  pub by_stop : (from to : Hearing) (f h : Flow) (first new : Talk) (a b : A) (field : Ended (Result End FrontFault)) (why : Result End FrontFault) →
      field ≡ ended_as.Stopped why → from ≡ hearing_opened session_bounds → first.book.pending ≡ None → first.said ≡ AllTaken → Listens Took from f first a to h new b (Ok field) →
      Comes first.book new.book new.said f h (draft a).held (draft b).held why
  by_stop from to f h first new a b field why is begun closed says l =
      let s : StopsAt Took (hearing_opened session_bounds) f first a to h new b why =
      subst (λ (e : Ended (Result End FrontFault)). Listens Took (hearing_opened session_bounds) f first a to h new b (Ok e)) is (subst (λ x. Listens Took x f first a to h new b (Ok field)) begun l) in
      let t = s.through in
      let bytes = lines_ended t.lines in
      let e = through closed says t in
      let line : bytes ++ (to.line ++ 10 ∷ []) ≡ (bytes ++ to.line) ++ 10 ∷ [] = sym (append_assoc bytes to.line (10 ∷ [])) in
      let going = going_piece to.line (plain_going e) s.is.clean (omega (arith, s.is.short)) in
      let stopped = subst (λ bs. Stopped first.book new.book (draft a).held bs (draft b).held new.said why) line (s.last.goes first.book (draft a).held bytes closed s.is.clean s.is.short e) in
      stopped_in (Some (without_remarks e.text)) 10 f h t.passes.earlier to.since to.ahead why going stopped (sym line ∙ t.passes.since) s.amid.some (t.passes.latest (omega arith))
      (subst (λ bs. Consumes f.ahead h.ahead (bs ++ to.ahead)) line (reads_all t.passes)) s.last.grows

  -- all that was read was heard
  idle_explaining : {to : Hearing} {f h : Flow} {first new : Talk} {a b : A} {n m : ℕ} → first.book.pending ≡ None → first.said ≡ AllTaken →
      (t : Through Took (hearing_opened session_bounds) f first a to h new b to.line n m) → HasNoEnd to.line → IsIdle to →
      Explaining first.book (draft a).held (lines_ended t.lines ++ to.line) to.line new.book (draft b).held new.said
  idle_explaining {to} closed says t clean idle =
      let e = through closed says t in
      let top : to.longest ≡ 65536 = t.passes.longest in record {
        text = e.text;
        writes = e.writes;
        whole = e.whole;
        begun = e.begun;
        is = ap (λ bs. bs ++ to.line) (e.is ∙ append-nil e.begun);
        clean = clean;
        short = omega (arith, idle.short, top);
        going = e.going;
        noted = e.noted;
      }

  idle_reads : {to : Hearing} {f h : Flow} {bytes : List ℕ} {n m : ℕ} → Passes (hearing_opened session_bounds) f to h bytes n m → to.ahead ≡ [] → Consumes f.ahead h.ahead bytes
  idle_reads {to} {f} {h} {bytes} p none =
      subst (Consumes f.ahead h.ahead) (append-nil bytes) (subst (λ ahead. Consumes f.ahead h.ahead (bytes ++ ahead)) none (reads_all p))

  pub by_end : (from to : Hearing) (f h : Flow) (first new : Talk) (a b : A) (field : Ended (Result End FrontFault)) →
      field ≡ ended_as.End → from ≡ hearing_opened session_bounds → first.book.pending ≡ None → first.said ≡ AllTaken → Listens Took from f first a to h new b (Ok field) →
      Comes first.book new.book new.said f h (draft a).held (draft b).held (Ok end.EndOfInput)
  by_end from to f h first new a b field is begun closed says l =
      let s : Ends Took (hearing_opened session_bounds) f first a to h new b (Ok ended_as.End) =
      subst (λ (e : Ended (Result End FrontFault)). Listens Took (hearing_opened session_bounds) f first a to h new b (Ok e)) is (subst (λ x. Listens Took x f first a to h new b (Ok field)) begun l) in
      let e = idle_explaining closed says s.through s.clean s.is.0 in
      let reads = idle_reads s.through.passes s.is.0.none in record {
        explains = explains_idle h.ahead h.ahead h.latest (Ok end.EndOfInput) reads e reads tt;
        remarks = remarks_idle f.ahead h.ahead e reads;
      }

  pub by_read_failed : (from to : Hearing) (f h : Flow) (first new : Talk) (a b : A) (field : LineFault) →
      field ≡ lines.ReadFailed → from ≡ hearing_opened session_bounds → first.book.pending ≡ None → first.said ≡ AllTaken → Listens Took from f first a to h new b (Err field) →
      Comes first.book new.book new.said f h (draft a).held (draft b).held (Err fault.ReadFailed)
  by_read_failed from to f h first new a b field is begun closed says l =
      let s : Ends Took (hearing_opened session_bounds) f first a to h new b (Err lines.ReadFailed) =
      subst (λ (e : LineFault). Listens Took (hearing_opened session_bounds) f first a to h new b (Err e)) is (subst (λ x. Listens Took x f first a to h new b (Err field)) begun l) in
      let e = idle_explaining closed says s.through s.clean s.is in
      let reads = idle_reads s.through.passes s.is.none in record {
        explains = explains_idle h.ahead h.ahead h.latest (Err fault.ReadFailed) reads e reads tt;
        remarks = tt;
      }

  pub by_turns : (from to : Hearing) (f h : Flow) (first new : Talk) (a b : A) (field : LineFault) →
      field ≡ lines.TooManyReads → from ≡ hearing_opened session_bounds → first.book.pending ≡ None → first.said ≡ AllTaken → Listens Took from f first a to h new b (Err field) →
      Comes first.book new.book new.said f h (draft a).held (draft b).held (Err fault.TooManyTurns)
  by_turns from to f h first new a b field is begun closed says l =
      let s : Ends Took (hearing_opened session_bounds) f first a to h new b (Err lines.TooManyReads) =
      subst (λ (e : LineFault). Listens Took (hearing_opened session_bounds) f first a to h new b (Err e)) is (subst (λ x. Listens Took x f first a to h new b (Err field)) begun l) in
      let e = idle_explaining closed says s.through s.clean s.is.0 in
      let reads = idle_reads s.through.passes s.is.0.none in record {
        explains = explains_idle h.ahead h.ahead h.latest (Err fault.TooManyTurns) reads e reads tt;
        remarks = tt;
      }

  pub by_long : (from to : Hearing) (f h : Flow) (first new : Talk) (a b c : A) (field : Ended (Result End FrontFault)) (r : Result End FrontFault) →
      field ≡ ended_as.Long → from ≡ hearing_opened session_bounds → first.book.pending ≡ None → first.said ≡ AllTaken → Listens Took from f first a to h new b (Ok field) →
      IfOk r (λ x. (x ≡ end.LongLine) × Writes (draft b) (draft c) (closing (Some end.LongLine))) →
      IfErr r (λ why. (why ≡ fault.WriteFailed) × BreaksOffIn (draft b) (draft c) (closing (Some end.LongLine))) →
      Comes first.book new.book new.said f h (draft a).held (draft c).held r
  by_long from to f h first new a b c field r is begun closed says l session_told cut =
      let s : Ends Took (hearing_opened session_bounds) f first a to h new b (Ok ended_as.Long) =
      subst (λ (e : Ended (Result End FrontFault)). Listens Took (hearing_opened session_bounds) f first a to h new b (Ok e)) is (subst (λ x. Listens Took x f first a to h new b (Ok field)) begun l) in
      let t = s.through in
      let bytes = lines_ended t.lines in
      let e = through closed says t in
      let long : length to.line ≡ suc 65536 = s.is.0 ∙ ap suc t.passes.longest in
      let last = last_of to.line 65536 long in
      let front = take 65536 to.line in
      let going = going_piece front (plain_going e) (clean_take to.line 65536 (omega (arith, long)) s.clean) (omega (arith, long, length-take-le 65536 to.line (omega (arith, long)))) in
      let line : bytes ++ to.line ≡ (bytes ++ front) ++ last.0 ∷ [] = ap (λ xs. bytes ++ xs) last.1 ∙ sym (append_assoc bytes front (last.0 ∷ [])) in
      let stopped = subst (λ bs. Stopped first.book new.book (draft a).held bs (draft c).held new.said r) line (explaining_ends to.line (draft b) (draft c) r e s.clean (omega (arith, long)) session_told cut) in
      stopped_in (Some (without_remarks e.text)) last.0 f h t.passes.earlier to.since to.ahead r going stopped (sym line ∙ t.passes.since) s.is.1.some (t.passes.latest (omega arith))
      (subst (λ bs. Consumes f.ahead h.ahead (bs ++ to.ahead)) line (reads_all t.passes)) (le_refl (next_number new.book))
