-- A run of sim over the lines that were heard.
use Rattle.std.proofs.Common.{◌≡◌, ◌≢◌, ℕ, ◌+◌, List, [], ◌∷◌, ◌++◌, append_assoc, append-nil, refl, sym, ap, ◌∙◌, subst, arith}
use Rattle.std.specs.Prelude.{Option, Result, Ok, Err, OnOk, ⊤}
use Rattle.std.specs.Io.KnownBytes.{IsAtEnd}
use Rattle.std.proofs.KnownBytes.{Appends-nil, Appends-trans}
use Rattle.ot_lines.specs.Lines.{Flow, next_count, count_after, Hearing, HasNoEnd, hearing_opened, IsIdle, lines_ended, Went, Through, Ends, Listens, Stops as StopsAt}
use Rattle.ot_lines.specs.declared.lines.LineFault.{LineFault}
use Rattle.ot_lines.specs.declared.lines.LineFault.TheVariants as lines
use Rattle.ot_lines.specs.declared.listener.Ended.{Ended}
use Rattle.ot_lines.specs.declared.listener.Ended.TheVariants as ended_as
use Rattle.ot_session.specs.Serving.{Draft, Writes}
use Rattle.ot_session.proofs.PrefixLemmas.{consumed}
use Rattle.ot_sim.specs.declared.play.Play.{Play}
use Rattle.ot_sim.specs.declared.fault.Untold.{Untold}
use Rattle.ot_sim.specs.declared.fault.Untold.TheVariants as untold
use Rattle.ot_sim.specs.declared.fault.SimFault.{SimFault}
use Rattle.ot_sim.specs.declared.fault.SimFault.TheVariants as fault
use Rattle.ot_sim.specs.Playing.{empty_play}
use Rattle.ot_sim.specs.Talk.{PlaysAll, Talks, TalksAll, StopsAtLong, TalksBy, TalksOver}
use Rattle.ot_sim.specs.Running.{untold_fault, untold_writes, sim_bounds, PlaysHeldLine, IsSimRun}

-- ---- what is told

abbrev read_failures : Result ⊤ SimFault → ℕ
read_failures (Err fault.ReadFailed) = 1
read_failures result = 0

abbrev write_failures : Result ⊤ SimFault → ℕ
write_failures (Err fault.WriteFailed) = 1
write_failures result = 0

no_read_failed : (r : Result ⊤ SimFault) → r ≢ Err fault.ReadFailed → read_failures r ≡ 0
no_read_failed (Err fault.ReadFailed) other = absurd (other refl)
no_read_failed result other = refl

no_write_failed : (r : Result ⊤ SimFault) → r ≢ Err fault.WriteFailed → write_failures r ≡ 0
no_write_failed (Err fault.WriteFailed) other = absurd (other refl)
no_write_failed result other = refl

run : {f h : Flow} {d e : Draft} {result : Result ⊤ SimFault} (reads left : ℕ) → TalksOver f.ahead h.ahead d.held e.held result → reads + left ≡ 1000000 →
    h.reads ≡ count_after reads f.reads → (result ≡ Err fault.TooManyTurns → left ≡ 0) → OnOk result (IsAtEnd h.ahead) → OnOk result (h.ends ≡ next_count f.ends) →
    h.failures ≡ count_after (read_failures result) f.failures → e.failures ≡ count_after (write_failures result) d.failures → IsSimRun f h d e result
run {f = f} {h = h} {d = d} {result = result} reads left talks sum counted turns at_end end_told failures writes = record {
  talks = talks;
  reads = (reads, omega (arith, sum), counted);
  turns = λ is. counted ∙ ap (λ k. count_after k f.reads) (let all : reads ≡ 1000000 = omega (arith, sum, turns is) in all);
  at_end = at_end;
  end_told = end_told;
  read_failed = λ is. failures ∙ ap (λ r. count_after (read_failures r) f.failures) is;
  read_worked = λ other. failures ∙ ap (λ n. count_after n f.failures) (no_read_failed result other);
  write_failed = λ is. writes ∙ ap (λ r. count_after (write_failures r) d.failures) is;
  write_worked = λ other. writes ∙ ap (λ n. count_after n d.failures) (no_write_failed result other);
}

-- ---- all lines

module _ {A : Type 0} (draft : A → Draft) where
  abbrev pub Took : Play → A → List ℕ → Play → A → Result ⊤ Untold → Type 0
  Took old a line new b result = PlaysHeldLine old (draft a) line new (draft b) result

  -- lines that were played, and what was written
  record Played (old : Play) (a : A) (lines : List (List ℕ)) (new : Play) (b : A) : Type 0 where
    pub text : List ℕ
    pub plays : PlaysAll old lines text new
    pub writes : Writes (draft a) (draft b) text

  played : (lines : List (List ℕ)) (old : Play) (a : A) (new : Play) (b : A) → Went Took old a lines new b → Played old a lines new b
  played [] old a new b went = record {
    text = [];
    plays = (refl, went.0);
    writes = subst (λ s. Writes (draft a) (draft s) []) (sym went.1) (record { bytes_out = Appends-nil (draft a).held; worked = refl });
  }
  played (line ∷ lines) old a new b (mid, more, took, later) =
      let rest = played lines mid more new b later in
      let first = took.plays in record {
        text = first.0 ++ rest.text;
        plays = (mid, first.0, rest.text, first.1, rest.plays, refl);
        writes = record {
          bytes_out = Appends-trans (draft a).held (draft more).held (draft b).held first.0 rest.text first.2 rest.writes.bytes_out;
          worked = rest.writes.worked ∙ took.failures;
        };
      }

  talks : {to : Hearing} {f h : Flow} {new : Play} {a b : A} {rest : List ℕ} {n m : ℕ} (more : List ℕ) →
      (t : Through Took (hearing_opened sim_bounds) f empty_play a to h new b rest n m) → Talks ((lines_ended t.lines ++ rest) ++ more) (rest ++ more) (draft a).held (draft b).held new
  talks {new = new} {a = a} {b = b} {rest = rest} more t =
      let p = played t.lines empty_play a new b t.went in record {
        lines = t.lines;
        heard = append_assoc (lines_ended t.lines) rest more;
        are = λ k line within. let is = t.are k line within in (is.clean, is.short);
        text = p.text;
        plays = p.plays;
        writes = p.writes.bytes_out;
      }

  worked : {to : Hearing} {f h : Flow} {new : Play} {a b : A} {rest : List ℕ} {n m : ℕ} → (t : Through Took (hearing_opened sim_bounds) f empty_play a to h new b rest n m) → (draft b).failures ≡ (draft a).failures
  worked {new = new} {a = a} {b = b} t = (played t.lines empty_play a new b t.went).writes.worked

  -- all that was read is lines and a rest
  talks_all : {to : Hearing} {f h : Flow} {new : Play} {a b : A} {n m : ℕ} (t : Through Took (hearing_opened sim_bounds) f empty_play a to h new b to.line n m) → HasNoEnd to.line → IsIdle to →
      TalksAll ((lines_ended t.lines ++ to.line) ++ to.ahead) (draft a).held (draft b).held
  talks_all {to} {new = new} {a = a} {b = b} t clean idle =
      let top : to.longest ≡ 65600 = t.passes.longest in record {
        rest = to.line;
        is_rest = (clean, omega (arith, idle.short, top));
        play = new;
        talks = subst (λ rest. Talks ((lines_ended t.lines ++ to.line) ++ to.ahead) rest (draft a).held (draft b).held new)
            (ap (λ ahead. to.line ++ ahead) idle.none ∙ append-nil to.line) (talks to.ahead t);
      }

  over : {to : Hearing} {f h : Flow} {new : Play} {a b : A} {rest : List ℕ} {n m : ℕ} (held : Option (List ℕ)) (result : Result ⊤ SimFault) (t : Through Took (hearing_opened sim_bounds) f empty_play a to h new b rest n m) →
      TalksBy ((lines_ended t.lines ++ rest) ++ to.ahead) (draft a).held held result → TalksOver f.ahead h.ahead (draft a).held held result
  over {to} {f} {h} {rest = rest} held result t talks = record {
    bytes = (lines_ended t.lines ++ rest) ++ to.ahead;
    reads = consumed f.ahead h.ahead to.ahead (lines_ended t.lines ++ rest) t.passes.heard;
    talks = talks;
  }

  -- ---- by how it was listened to

  -- lines that are listened to from the start
  begun : (from to : Hearing) (f h : Flow) (first new : Play) (a b : A) (told is : Result (Ended Untold) LineFault) → told ≡ is → from ≡ hearing_opened sim_bounds → first ≡ empty_play →
      Listens Took from f first a to h new b told → Listens Took (hearing_opened sim_bounds) f empty_play a to h new b is
  begun from to f h first new a b told is same begins nobody l =
      subst (λ r. Listens Took (hearing_opened sim_bounds) f empty_play a to h new b r) same
      (subst (λ p. Listens Took (hearing_opened sim_bounds) f p a to h new b told) nobody (subst (λ x. Listens Took x f first a to h new b told) begins l))

  what_stops : (why : Untold) → (untold_writes (Err why) ≡ write_failures (Err (untold_fault why))) × (read_failures (Err (untold_fault why)) ≡ 0) × (untold_fault why ≢ fault.TooManyTurns)
      × ((bytes : List ℕ) (start held : Option (List ℕ)) → TalksBy bytes start held (Err (untold_fault why)))
  what_stops untold.WriteFailed = (refl, refl, (λ is. cc), (λ bytes start held. tt))
  what_stops untold.Memory = (refl, refl, (λ is. cc), (λ bytes start held. tt))

  pub by_stop : (from to : Hearing) (f h : Flow) (first new : Play) (a b : A) (field : Ended Untold) (why : Untold) (told : SimFault) →
      field ≡ ended_as.Stopped why → told ≡ untold_fault why → from ≡ hearing_opened sim_bounds → first ≡ empty_play → Listens Took from f first a to h new b (Ok field) →
      IsSimRun f h (draft a) (draft b) (Err told)
  by_stop from to f h first new a b field why told is fault_is begins nobody l =
      let s : StopsAt Took (hearing_opened sim_bounds) f empty_play a to h new b why = begun from to f h first new a b (Ok field) (Ok (ended_as.Stopped why)) (ap Ok is) begins nobody l in
      let t = s.through in
      subst (λ e. IsSimRun f h (draft a) (draft b) (Err e)) (sym fault_is)
      (run t.passes.reads to.left (over (draft b).held (Err (untold_fault why)) t ((what_stops why).3 _ (draft a).held (draft b).held)) t.passes.left t.passes.counted
      (λ same. absurd ((what_stops why).2 (cc))) tt tt
      (t.passes.failed ∙ ap (λ n. count_after n f.failures) (sym (what_stops why).1))
      (s.last.failures ∙ ap (λ n. count_after n (draft s.more).failures) (what_stops why).0 ∙ ap (count_after (write_failures (Err (untold_fault why)))) (worked t)))

  pub by_end : (from to : Hearing) (f h : Flow) (first new : Play) (a b : A) (field : Ended Untold) →
      field ≡ ended_as.End → from ≡ hearing_opened sim_bounds → first ≡ empty_play → Listens Took from f first a to h new b (Ok field) →
      IsSimRun f h (draft a) (draft b) (Ok tt)
  by_end from to f h first new a b field is begins nobody l =
      let s : Ends Took (hearing_opened sim_bounds) f empty_play a to h new b (Ok ended_as.End) = begun from to f h first new a b (Ok field) (Ok ended_as.End) (ap Ok is) begins nobody l in
      let t = s.through in
      run t.passes.reads to.left (over (draft b).held (Ok tt) t (talks_all t s.clean s.is.0)) t.passes.left t.passes.counted (λ same. absurd (cc)) s.is.1 t.passes.ended t.passes.failed (worked t)

  pub by_long : (from to : Hearing) (f h : Flow) (first new : Play) (a b : A) (field : Ended Untold) →
      field ≡ ended_as.Long → from ≡ hearing_opened sim_bounds → first ≡ empty_play → Listens Took from f first a to h new b (Ok field) →
      IsSimRun f h (draft a) (draft b) (Err fault.LongLine)
  by_long from to f h first new a b field is begins nobody l =
      let s : Ends Took (hearing_opened sim_bounds) f empty_play a to h new b (Ok ended_as.Long) = begun from to f h first new a b (Ok field) (Ok ended_as.Long) (ap Ok is) begins nobody l in
      let t = s.through in
      let top : to.longest ≡ 65600 = t.passes.longest in
      let stops : StopsAtLong ((lines_ended t.lines ++ to.line) ++ to.ahead) (draft a).held (draft b).held = record {
        front = to.line;
        behind = to.ahead;
        no_end = s.clean;
        long = omega (arith, s.is.0, top);
        play = new;
        talks = talks to.ahead t;
      } in
      run t.passes.reads to.left (over (draft b).held (Err fault.LongLine) t stops) t.passes.left t.passes.counted (λ same. absurd (cc)) tt tt t.passes.failed (worked t)

  pub by_read_failed : (from to : Hearing) (f h : Flow) (first new : Play) (a b : A) (field : LineFault) →
      field ≡ lines.ReadFailed → from ≡ hearing_opened sim_bounds → first ≡ empty_play → Listens Took from f first a to h new b (Err field) →
      IsSimRun f h (draft a) (draft b) (Err fault.ReadFailed)
  by_read_failed from to f h first new a b field is begins nobody l =
      let s : Ends Took (hearing_opened sim_bounds) f empty_play a to h new b (Err lines.ReadFailed) = begun from to f h first new a b (Err field) (Err lines.ReadFailed) (ap Err is) begins nobody l in
      let t = s.through in
      run t.passes.reads to.left (over (draft b).held (Err fault.ReadFailed) t (talks_all t s.clean s.is)) t.passes.left t.passes.counted (λ same. absurd (cc)) tt tt t.passes.failed (worked t)

  pub by_turns : (from to : Hearing) (f h : Flow) (first new : Play) (a b : A) (field : LineFault) →
      field ≡ lines.TooManyReads → from ≡ hearing_opened sim_bounds → first ≡ empty_play → Listens Took from f first a to h new b (Err field) →
      IsSimRun f h (draft a) (draft b) (Err fault.TooManyTurns)
  by_turns from to f h first new a b field is begins nobody l =
      let s : Ends Took (hearing_opened sim_bounds) f empty_play a to h new b (Err lines.TooManyReads) = begun from to f h first new a b (Err field) (Err lines.TooManyReads) (ap Err is) begins nobody l in
      let t = s.through in
      run t.passes.reads to.left (over (draft b).held (Err fault.TooManyTurns) t (talks_all t s.clean s.is.0)) t.passes.left t.passes.counted (λ same. s.is.1) tt tt t.passes.failed (worked t)
