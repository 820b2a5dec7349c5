-- A session over the lines that were heard.
use Rattle.std.proofs.Common.{◌≡◌, ◌≢◌, ℕ, suc, ◌+◌, ◌<◌, ◌≤◌, List, [], ◌∷◌, ◌++◌, length, take, length-append, length-take-le, append_assoc, append-nil, le_refl, refl, sym, ap, subst, ◌∙◌, arith}
use Rattle.std.specs.Prelude.{All, Option, Some, None, Result, Ok, Err, ⊤, IfOk, IfErr}
use Rattle.std.specs.Io.KnownBytes.{Consumes, IsAtEnd}
use Rattle.std.proofs.KnownBytes.{Appends-nil}
use Rattle.ot_lines.specs.Lines.{Flow, next_count, count_after, Hearing, HasNoEnd, hearing_opened, IsIdle, lines_ended, IsLine, Went, Through, Ends, Listens, Stops as StopsAt}
use Rattle.ot_lines.specs.declared.lines.LineFault.{LineFault}
use Rattle.ot_lines.specs.declared.lines.LineFault.TheVariants as lines
use Rattle.ot_lines.specs.declared.listener.Ended.{Ended}
use Rattle.ot_lines.specs.declared.listener.Ended.TheVariants as ended_as
use Rattle.ot_book.specs.Books.{Register, next_number}
use Rattle.ot_session.specs.Serving.{Draft, Writes, BreaksOffIn, Going, TakesLine, result_of, failed_writes, session_bounds, IsServed}
use Rattle.ot_session.specs.Session.{Heard, max_line, heard_in, closing, Session, Serves}
use Rattle.ot_session.specs.declared.fault.End.{End}
use Rattle.ot_session.specs.declared.fault.End.TheVariants as end
use Rattle.ot_session.specs.declared.fault.FrontFault.{FrontFault}
use Rattle.ot_session.specs.declared.fault.FrontFault.TheVariants as fault
use Rattle.ot_session.specs.declared.stop.Stop.{Stop}
use Rattle.ot_session.specs.declared.stop.Stop.TheVariants as stop
use Rattle.ot_session.proofs.SessionLemmas.{going_piece, stops_long, stops_in_long}
use Rattle.ot_session.proofs.StopLemmas.{Stops, session_longer}
use Rattle.ot_session.proofs.ServingLemmas.{IsIdle as IsIdleEnd, serves_nothing, serves_idle, heard_logged, closed_after}
use Rattle.ot_session.proofs.PrefixLemmas.{cut_last, front_idle, last_of, clean_take, consumed}

-- nothing was heard yet
pub going_nothing : (first : Register) (start : Option (List ℕ)) → Going first start [] [] first start
going_nothing first start = record {
  lines = [];
  hears = refl;
  short = omega arith;
  logs = refl;
  writes = Appends-nil start;
}

-- it stopped at this byte, behind which more was read
pub serves_in : {first : Register} {start : Option (List ℕ)} {bytes partial : List ℕ} {book : Register} {held : Option (List ℕ)} (going : Going first start bytes partial book held)
    (b : ℕ) (ahead left : Option (List ℕ)) (latest : ℕ) (earlier since more : List ℕ) (new : Register) (now : Option (List ℕ)) (result : Result End FrontFault) →
    Stops result → bytes ++ b ∷ [] ≡ earlier ++ since → 0 < length since → length since + length more ≤ latest → Consumes ahead left ((bytes ++ b ∷ []) ++ more) →
    Session first new (bytes ++ b ∷ []) start now result → next_number book ≤ next_number new → Serves first new ahead left latest start now result
serves_in {first} {start} {bytes} going b ahead left latest earlier since more new now result stops is some few reads session grows =
    let cut = cut_last bytes b earlier since is some in
    let ends : (heard_in first bytes).end ≡ None = ap (λ (h : Heard). h.end) going.hears in
    let idle = front_idle first earlier cut.0 (ap (λ bs. (heard_in first bs).end) (sym cut.1) ∙ ends) in
    let all : (bytes ++ b ∷ []) ++ more ≡ earlier ++ (since ++ more) = ap (λ xs. xs ++ more) is ∙ append_assoc earlier since more in
    let longer : Session first new (earlier ++ (since ++ more)) start now result =
    subst (λ bs. Session first new bs start now result) all (session_longer first start (bytes ++ b ∷ []) more new now result stops session) in record {
      before = earlier;
      last = since ++ more;
      reads = subst (Consumes ahead left) all reads;
      few = omega (arith, few, length-append since more);
      session = longer;
      goes_on = idle.0;
      logs = omega (arith, idle.1, ap (λ bs. length (heard_in first bs).lines) cut.1, heard_logged going new now (earlier ++ (since ++ more)) result longer grows);
    }

-- ---- what is told

abbrev ends_of : Result End FrontFault → ℕ
ends_of (Ok end.EndOfInput) = 1
ends_of result = 0

abbrev read_failures : Result End FrontFault → ℕ
read_failures (Err fault.ReadFailed) = 1
read_failures result = 0

abbrev write_failures : Result End FrontFault → ℕ
write_failures (Err fault.WriteFailed) = 1
write_failures result = 0

no_read_failed : (r : Result End FrontFault) → r ≢ Err fault.ReadFailed → read_failures r ≡ 0
no_read_failed (Err fault.ReadFailed) other = absurd (other refl)
no_read_failed result other = refl

no_write_failed : (r : Result End FrontFault) → r ≢ Err fault.WriteFailed → write_failures r ≡ 0
no_write_failed (Err fault.WriteFailed) other = absurd (other refl)
no_write_failed result other = refl

served : {first new : Register} {f h : Flow} {d e : Draft} {result : Result End FrontFault} (reads left : ℕ) → first.pending ≡ None →
    Serves first new f.ahead h.ahead h.latest d.held e.held result → reads + left ≡ 1000000 → h.reads ≡ count_after reads f.reads → (result ≡ Err fault.TooManyTurns → left ≡ 0) →
    (result ≡ Ok end.EndOfInput → IsAtEnd h.ahead) → h.ends ≡ count_after (ends_of result) f.ends → h.failures ≡ count_after (read_failures result) f.failures →
    e.failures ≡ count_after (write_failures result) d.failures → IsServed first new f h d e result
served {f = f} {h = h} {d = d} {result = result} reads left closed serves sum counted turns at_end ends failures writes = record {
  serves = serves;
  closed = closed_after serves closed;
  reads = (reads, omega (arith, sum), counted);
  turns = λ is. counted ∙ ap (λ k. count_after k f.reads) (let all : reads ≡ 1000000 = omega (arith, sum, turns is) in all);
  at_end = at_end;
  end_told = λ is. ends ∙ ap (λ r. count_after (ends_of r) f.ends) is;
  read_failed = λ is. failures ∙ ap (λ r. count_after (read_failures r) f.failures) is;
  read_worked = λ other. failures ∙ ap (λ n. count_after n f.failures) (no_read_failed result other);
  write_failed = λ is. writes ∙ ap (λ r. count_after (write_failures r) d.failures) is;
  write_worked = λ other. writes ∙ ap (λ n. count_after n d.failures) (no_write_failed result other);
}

-- a session that could not begin
pub served_nothing : (book : Register) (f : Flow) (d : Draft) → book.pending ≡ None → IsServed book book f f d d (Err fault.Memory)
served_nothing book f d closed =
    served {first = book} {new = book} {f = f} {h = f} {d = d} {e = d} {result = Err fault.Memory} 0 1000000 closed (serves_nothing book f.ahead f.latest d.held) refl refl (λ is. absurd (cc)) (λ is. absurd (cc)) refl refl refl

module _ {A : Type 0} (draft : A → Draft) where
  -- a line that is taken into a book and answered
  abbrev pub Took : Register → A → List ℕ → Register → A → Result ⊤ Stop → Type 0
  Took old a line new b result = TakesLine old (draft a) line new (draft b) result

  -- line after line
  pub went_going : (first : Register) (start : Option (List ℕ)) → first.pending ≡ None → (lines : List (List ℕ)) → All (IsLine max_line) lines → (old : Register) (a : A) (new : Register) (b : A) →
      Went Took old a lines new b → (bytes : List ℕ) → Going first start bytes [] old (draft a).held → Going first start (bytes ++ lines_ended lines) [] new (draft b).held
  went_going first start closed [] are old a new b went bytes going =
      subst (λ bs. Going first start bs [] new (draft b).held) (sym (append-nil bytes))
      (subst (λ n. Going first start bytes [] n (draft b).held) (sym went.0) (subst (λ s. Going first start bytes [] old (draft s).held) (sym went.1) going))
  went_going first start closed (line ∷ lines) are old a new b (mid, more, took, later) bytes going =
      let is : IsLine max_line line = are 0 [] (omega arith) in
      let rest : All (IsLine max_line) lines = λ k d within. are (suc k) d (omega (arith, within)) in
      let begun = going_piece line going is.clean (omega (arith, is.short)) in
      let taken = took.goes first start (bytes ++ line) closed begun in
      subst (λ bs. Going first start bs [] new (draft b).held)
      (append_assoc (bytes ++ line) (10 ∷ []) (lines_ended lines) ∙ append_assoc bytes line (10 ∷ lines_ended lines))
      (went_going first start closed lines rest mid more new b later ((bytes ++ line) ++ 10 ∷ []) taken)

  pub went_failures : (lines : List (List ℕ)) (old : Register) (a : A) (new : Register) (b : A) → Went Took old a lines new b → (draft b).failures ≡ (draft a).failures
  went_failures [] old a new b went = ap (λ s. (draft s).failures) went.1
  went_failures (line ∷ lines) old a new b (mid, more, took, later) = went_failures lines mid more new b later ∙ took.failures

  -- the session goes on over the lines that were taken
  pub through_going : {to : Hearing} {f h : Flow} {first new : Register} {a b : A} {rest : List ℕ} {n m : ℕ} → first.pending ≡ None →
      (t : Through Took (hearing_opened session_bounds) f first a to h new b rest n m) → Going first (draft a).held (lines_ended t.lines) [] new (draft b).held
  through_going {first = first} {new = new} {a = a} {b = b} closed t =
      went_going first (draft a).held closed t.lines t.are first a new b t.went [] (going_nothing first (draft a).held)

  -- ---- it is stopped by a line

  what_stops : (why : Stop) → Stops (result_of why) × (failed_writes (Err why) ≡ write_failures (result_of why)) × (ends_of (result_of why) ≡ 0) × (read_failures (result_of why) ≡ 0)
      × (result_of why ≢ Err fault.TooManyTurns) × (result_of why ≢ Ok end.EndOfInput)
  what_stops stop.Bye = (tt, refl, refl, refl, (λ is. cc), (λ is. cc))
  what_stops why = (tt, refl, refl, refl, (λ is. cc), (λ is. cc))

  -- ---- it hears no more

  -- all that was read was heard, and the session goes on
  serves_all : {to : Hearing} {f h : Flow} {first new : Register} {a b : A} {n m : ℕ} (result : Result End FrontFault) → first.pending ≡ None →
      Through Took (hearing_opened session_bounds) f first a to h new b to.line n m → HasNoEnd to.line → IsIdle to → IsIdleEnd result → Serves first new f.ahead h.ahead h.latest (draft a).held (draft b).held result
  serves_all {to} {f} {h} {first} {new} {a} {b} result closed t clean idle ends =
      let bytes = lines_ended t.lines ++ to.line in
      let top : to.longest ≡ 65536 = t.passes.longest in
      let going = going_piece to.line (through_going closed t) clean (omega (arith, idle.short, top)) in
      let reads : Consumes f.ahead h.ahead bytes =
      subst (Consumes f.ahead h.ahead) (append-nil bytes) (subst (λ ahead. Consumes f.ahead h.ahead (bytes ++ ahead)) idle.none (consumed f.ahead h.ahead to.ahead bytes t.passes.heard)) in
      serves_idle h.ahead h.latest result (record { bytes = bytes; reads = reads; going = going }) reads ends

  -- ---- it hears a line that is too long

  -- it stopped at the first byte too many
  serves_long : {to : Hearing} {f h : Flow} {first new : Register} {a b : A} (now : Option (List ℕ)) (result : Result End FrontFault) → first.pending ≡ None → Stops result →
      (s : Ends Took (hearing_opened session_bounds) f first a to h new b (Ok ended_as.Long)) → Session first new (lines_ended s.through.lines ++ to.line) (draft a).held now result →
      Serves first new f.ahead h.ahead h.latest (draft a).held now result
  serves_long {to} {f} {h} {first} {new} {a} {b} now result closed stops s session =
      let t = s.through in
      let lines = lines_ended t.lines in
      let long : length to.line ≡ suc 65536 = s.is.0 ∙ ap suc t.passes.longest in
      let last = last_of to.line 65536 long in
      let front = take 65536 to.line in
      let begun = going_piece front (through_going closed t) (clean_take to.line 65536 (omega (arith, long)) s.clean) (omega (arith, long, length-take-le 65536 to.line (omega (arith, long)))) in
      let bytes : lines ++ to.line ≡ (lines ++ front) ++ last.0 ∷ [] = ap (λ xs. lines ++ xs) last.1 ∙ sym (append_assoc lines front (last.0 ∷ [])) in
      serves_in begun last.0 f.ahead h.ahead h.latest t.passes.earlier to.since to.ahead new now result stops
      (sym bytes ∙ t.passes.since) s.is.1.some (t.passes.latest (omega arith))
      (subst (λ bs. Consumes f.ahead h.ahead (bs ++ to.ahead)) bytes (consumed f.ahead h.ahead to.ahead (lines ++ to.line) t.passes.heard))
      (subst (λ bs. Session first new bs (draft a).held now result) bytes session) (le_refl (next_number new))

  pub served_long : {to : Hearing} {f h : Flow} {first new : Register} {a b c : A} (r : Result End FrontFault) → first.pending ≡ None → Ends Took (hearing_opened session_bounds) f first a to h new b (Ok ended_as.Long) →
      IfOk r (λ lines_ended. (lines_ended ≡ end.LongLine) × Writes (draft b) (draft c) (closing (Some end.LongLine))) →
      IfErr r (λ why. (why ≡ fault.WriteFailed) × BreaksOffIn (draft b) (draft c) (closing (Some end.LongLine))) → IsServed first new f h (draft a) (draft c) r
  served_long {to} {f} {h} {first} {new} {a} {b} {c} (Ok e) closed s told cut =
      let t = s.through in
      let top : to.longest ≡ 65536 = t.passes.longest in
      let session = stops_long to.line (through_going closed t) s.clean (omega (arith, s.is.0, top)) told.1.bytes_out in
      subst (λ x. IsServed first new f h (draft a) (draft c) (Ok x)) (sym told.0)
      (served t.passes.reads to.left closed (serves_long (draft c).held (Ok end.LongLine) closed tt s session) t.passes.left t.passes.counted (λ is. absurd (cc)) (λ is. absurd (cc))
      t.passes.ended t.passes.failed (told.1.worked ∙ went_failures t.lines first a new b t.went))
  served_long {to} {f} {h} {first} {new} {a} {b} {c} (Err why) closed s told cut =
      let t = s.through in
      let top : to.longest ≡ 65536 = t.passes.longest in
      let session = stops_in_long to.line (through_going closed t) s.clean (omega (arith, s.is.0, top)) cut.1.front in
      subst (λ x. IsServed first new f h (draft a) (draft c) (Err x)) (sym cut.0)
      (served t.passes.reads to.left closed (serves_long (draft c).held (Err fault.WriteFailed) closed tt s session) t.passes.left t.passes.counted (λ is. absurd (cc)) (λ is. absurd (cc))
      t.passes.ended t.passes.failed (cut.1.failed ∙ ap next_count (went_failures t.lines first a new b t.went)))

  -- ---- by how it was listened to

  listened : (from to : Hearing) (f h : Flow) (first new : Register) (a b : A) (told is : Result (Ended Stop) LineFault) → told ≡ is → from ≡ hearing_opened session_bounds →
      Listens Took from f first a to h new b told → Listens Took (hearing_opened session_bounds) f first a to h new b is
  listened from to f h first new a b told is same begun l =
      subst (λ r. Listens Took (hearing_opened session_bounds) f first a to h new b r) same (subst (λ x. Listens Took x f first a to h new b told) begun l)

  pub by_stop : (from to : Hearing) (f h : Flow) (first new : Register) (a b : A) (field : Ended Stop) (why : Stop) (result : Result End FrontFault) →
      field ≡ ended_as.Stopped why → result ≡ result_of why → from ≡ hearing_opened session_bounds → first.pending ≡ None → Listens Took from f first a to h new b (Ok field) →
      IsServed first new f h (draft a) (draft b) result
  by_stop from to f h first new a b field why result is told begun closed l =
      let s : StopsAt Took (hearing_opened session_bounds) f first a to h new b why = listened from to f h first new a b (Ok field) (Ok (ended_as.Stopped why)) (ap Ok is) begun l in
      let t = s.through in
      let lines = lines_ended t.lines in
      let begun = going_piece to.line (through_going closed t) s.is.clean (omega (arith, s.is.short)) in
      let bytes : lines ++ (to.line ++ 10 ∷ []) ≡ (lines ++ to.line) ++ 10 ∷ [] = sym (append_assoc lines to.line (10 ∷ [])) in
      let serves = serves_in begun 10 f.ahead h.ahead h.latest t.passes.earlier to.since to.ahead new (draft b).held (result_of why) (what_stops why).0
      (sym bytes ∙ t.passes.since) s.amid.some (t.passes.latest (omega arith))
      (subst (λ bs. Consumes f.ahead h.ahead (bs ++ to.ahead)) bytes (consumed f.ahead h.ahead to.ahead (lines ++ (to.line ++ 10 ∷ [])) t.passes.heard))
      (s.last.goes first (draft a).held (lines ++ to.line) closed begun) s.last.grows in
      subst (λ r. IsServed first new f h (draft a) (draft b) r) (sym told)
      (served t.passes.reads to.left closed serves t.passes.left t.passes.counted (λ is. absurd ((what_stops why).4 is)) (λ is. absurd ((what_stops why).5 is))
      (t.passes.ended ∙ ap (λ n. count_after n f.ends) (sym (what_stops why).2)) (t.passes.failed ∙ ap (λ n. count_after n f.failures) (sym (what_stops why).3))
      (s.last.failures ∙ ap (λ n. count_after n (draft s.more).failures) (what_stops why).1 ∙ ap (count_after (write_failures (result_of why))) (went_failures t.lines first a s.mid s.more t.went)))

  pub by_end : (from to : Hearing) (f h : Flow) (first new : Register) (a b : A) (field : Ended Stop) →
      field ≡ ended_as.End → from ≡ hearing_opened session_bounds → first.pending ≡ None → Listens Took from f first a to h new b (Ok field) →
      IsServed first new f h (draft a) (draft b) (Ok end.EndOfInput)
  by_end from to f h first new a b field is begun closed l =
      let s : Ends Took (hearing_opened session_bounds) f first a to h new b (Ok ended_as.End) = listened from to f h first new a b (Ok field) (Ok ended_as.End) (ap Ok is) begun l in
      let t = s.through in
      served t.passes.reads to.left closed (serves_all (Ok end.EndOfInput) closed t s.clean s.is.0 tt) t.passes.left t.passes.counted (λ is. absurd (cc)) (λ is. s.is.1)
      t.passes.ended t.passes.failed (went_failures t.lines first a new b t.went)

  pub by_long : (from to : Hearing) (f h : Flow) (first new : Register) (a b c : A) (field : Ended Stop) (r : Result End FrontFault) →
      field ≡ ended_as.Long → from ≡ hearing_opened session_bounds → first.pending ≡ None → Listens Took from f first a to h new b (Ok field) →
      IfOk r (λ lines_ended. (lines_ended ≡ end.LongLine) × Writes (draft b) (draft c) (closing (Some end.LongLine))) →
      IfErr r (λ why. (why ≡ fault.WriteFailed) × BreaksOffIn (draft b) (draft c) (closing (Some end.LongLine))) → IsServed first new f h (draft a) (draft c) r
  by_long from to f h first new a b c field r is begun closed l =
      served_long r closed
      (listened from to f h first new a b (Ok field) (Ok ended_as.Long) (ap Ok is) begun l)

  pub by_read_failed : (from to : Hearing) (f h : Flow) (first new : Register) (a b : A) (field : LineFault) →
      field ≡ lines.ReadFailed → from ≡ hearing_opened session_bounds → first.pending ≡ None → Listens Took from f first a to h new b (Err field) →
      IsServed first new f h (draft a) (draft b) (Err fault.ReadFailed)
  by_read_failed from to f h first new a b field is begun closed l =
      let s : Ends Took (hearing_opened session_bounds) f first a to h new b (Err lines.ReadFailed) = listened from to f h first new a b (Err field) (Err lines.ReadFailed) (ap Err is) begun l in
      let t = s.through in
      served t.passes.reads to.left closed (serves_all (Err fault.ReadFailed) closed t s.clean s.is tt) t.passes.left t.passes.counted (λ is. absurd (cc)) (λ is. absurd (cc))
      t.passes.ended t.passes.failed (went_failures t.lines first a new b t.went)

  pub by_turns : (from to : Hearing) (f h : Flow) (first new : Register) (a b : A) (field : LineFault) →
      field ≡ lines.TooManyReads → from ≡ hearing_opened session_bounds → first.pending ≡ None → Listens Took from f first a to h new b (Err field) →
      IsServed first new f h (draft a) (draft b) (Err fault.TooManyTurns)
  by_turns from to f h first new a b field is begun closed l =
      let s : Ends Took (hearing_opened session_bounds) f first a to h new b (Err lines.TooManyReads) = listened from to f h first new a b (Err field) (Err lines.TooManyReads) (ap Err is) begun l in
      let t = s.through in
      served t.passes.reads to.left closed (serves_all (Err fault.TooManyTurns) closed t s.clean s.is.0 tt) t.passes.left t.passes.counted (λ is. s.is.1) (λ is. absurd (cc))
      t.passes.ended t.passes.failed (went_failures t.lines first a new b t.went)
