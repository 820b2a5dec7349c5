-- A session over the lines that were heard.
use Rattle.std.proofs.Common.{◌≡◌, ◌≢◌, ℕ, suc, ◌+◌, ◌<◌, ◌≤◌, List, [], ◌∷◌, ◌++◌, length, append_assoc, append-nil, refl, sym, ap, subst, ◌∙◌, arith, inr}
use Rattle.std.specs.Prelude.{All, Option, Some, None, Result, Ok, Err, ⊤}
use Rattle.std.specs.Io.KnownBytes.{Consumes, IsAtEnd}
use Rattle.ot_lines.specs.Lines.{Flow, next_count, count_after, Hearing, HasNoEnd, hearing_opened, Passes, IsIdle, lines_ended, IsLine, Went, Through, Ends, Listens, Stops}
use Rattle.ot_lines.specs.declared.lines.LineFault.{LineFault}
use Rattle.ot_lines.specs.declared.lines.LineFault.TheVariants as lines
use Rattle.ot_lines.specs.declared.listener.Ended.{Ended}
use Rattle.ot_lines.specs.declared.listener.Ended.TheVariants as ended_as
use Rattle.ot_book.specs.Books.{Register, next_number}
use Rattle.ot_session.specs.Session.{max_line}
use Rattle.ot_session.specs.Serving.{session_bounds}
use Rattle.ot_session.proofs.PrefixLemmas.{consumed}
use Rattle.ot_show_last.specs.LastRuns.{Run}
use Rattle.ot_show_last.specs.Going.{GoesOnHearing, GoesOrStops, Says, SaysAfter, TakesHeardLine, stop_result, HearsSession, run_in}
use Rattle.ot_show_last.specs.declared.found.LastRun.{LastRun}
use Rattle.ot_show_last.specs.declared.fault.LastFault.{LastFault}
use Rattle.ot_show_last.specs.declared.fault.LastFault.TheVariants as fault
use Rattle.ot_show_last.specs.declared.fault.Untaken.TheVariants as answer
use Rattle.ot_show_last.specs.declared.stop.Stop.{Stop}
use Rattle.ot_show_last.specs.declared.stop.Stop.TheVariants.{Bye, Bad, Memory}
use Rattle.ot_show_last.proofs.GoingLemmas.{going_piece, stops_long, stop_more, found_going, says_after}

abbrev Kept : Type 0
Kept = Option LastRun

abbrev Took : Register → Kept → List ℕ → Register → Kept → Result ⊤ Stop → Type 0
Took old last line new now result = TakesHeardLine old (run_in last) line new (run_in now) result

-- what is so, and whether a read failed
pub record HearsAll (f h : Flow) (now : Option Run) (result : Result ⊤ LastFault) : Type 0 where
  pub hears : HearsSession f.ahead h.ahead now result
  pub read_failed : result ≡ Err fault.ReadFailed → h.failures ≡ next_count f.failures
  pub read_worked : result ≢ Err fault.ReadFailed → h.failures ≡ f.failures

-- line after line
went_going : (lines : List (List ℕ)) → All (IsLine max_line) lines → (old : Register) (a : Kept) (new : Register) (b : Kept) →
    Went Took old a lines new b → (bytes : List ℕ) → GoesOnHearing bytes [] old (run_in a) → GoesOnHearing (bytes ++ lines_ended lines) [] new (run_in b)
went_going [] are old a new b went bytes going =
    subst (λ bs. GoesOnHearing bs [] new (run_in b)) (sym (append-nil bytes))
    (subst (λ n. GoesOnHearing bytes [] n (run_in b)) (sym went.0) (subst (λ s. GoesOnHearing bytes [] old (run_in s)) (sym went.1) going))
went_going (line ∷ lines) are old a new b (mid, more, took, later) bytes going =
    let is : IsLine max_line line = are 0 [] (omega arith) in
    let rest : All (IsLine max_line) lines = λ k d within. are (suc k) d (omega (arith, within)) in
    let begun = going_piece line going is.clean (omega (arith, is.short)) in
    subst (λ bs. GoesOnHearing bs [] new (run_in b))
    (append_assoc (bytes ++ line) (10 ∷ []) (lines_ended lines) ∙ append_assoc bytes line (10 ∷ lines_ended lines))
    (went_going lines rest mid more new b later ((bytes ++ line) ++ 10 ∷ []) (took (bytes ++ line) begun))

through_going : {to : Hearing} {f h : Flow} {first new : Register} {a b : Kept} {rest : List ℕ} {n m : ℕ} → GoesOnHearing [] [] first (run_in a) →
    (t : Through Took (hearing_opened session_bounds) f first a to h new b rest n m) → GoesOnHearing (lines_ended t.lines) [] new (run_in b)
through_going {first = first} {new = new} {a = a} {b = b} begins t = went_going t.lines t.are first a new b t.went [] begins

-- all that was read
reads : {to : Hearing} {f h : Flow} {bytes : List ℕ} {n m : ℕ} → Passes (hearing_opened session_bounds) f to h bytes n m → Consumes f.ahead h.ahead (bytes ++ to.ahead)
reads {to} {f} {h} {bytes} p = consumed f.ahead h.ahead to.ahead bytes p.heard

idle_going : {to : Hearing} {f h : Flow} {first new : Register} {a b : Kept} {n m : ℕ} → GoesOnHearing [] [] first (run_in a) →
    (t : Through Took (hearing_opened session_bounds) f first a to h new b to.line n m) → HasNoEnd to.line → IsIdle to → GoesOnHearing ((lines_ended t.lines ++ to.line) ++ to.ahead) to.line new (run_in b)
idle_going {to} {new = new} {b = b} begins t clean idle =
    let top : to.longest ≡ 65536 = t.passes.longest in
    subst (λ bs. GoesOnHearing bs to.line new (run_in b)) (sym (ap (λ ahead. (lines_ended t.lines ++ to.line) ++ ahead) idle.none ∙ append-nil (lines_ended t.lines ++ to.line)))
    (going_piece to.line (through_going begins t) clean (omega (arith, idle.short, top)))

no_read_failed : (why : Stop) → stop_result why ≢ Err fault.ReadFailed
no_read_failed Bye is = cc
no_read_failed (Bad number untaken) is = cc
no_read_failed Memory is = cc

pub by_stop : (from to : Hearing) (f h : Flow) (first new : Register) (a b : Kept) (field : Ended Stop) (why : Stop) (result : Result ⊤ LastFault) →
    field ≡ ended_as.Stopped why → result ≡ stop_result why → from ≡ hearing_opened session_bounds → GoesOnHearing [] [] first (run_in a) → Listens Took from f first a to h new b (Ok field) →
    HearsAll f h (run_in b) result
by_stop from to f h first new a b field why result is told begun begins l =
    let s : Stops Took (hearing_opened session_bounds) f first a to h new b why =
    subst (λ (e : Ended Stop). Listens Took (hearing_opened session_bounds) f first a to h new b (Ok e)) is (subst (λ x. Listens Took x f first a to h new b (Ok field)) begun l) in
    let t = s.through in
    let lines = lines_ended t.lines in
    let begun_line = going_piece to.line (through_going begins t) s.is.clean (omega (arith, s.is.short)) in
    let says = stop_more (run_in b) why ((lines ++ to.line) ++ 10 ∷ []) to.ahead (s.last (lines ++ to.line) begun_line) in
    let bytes : (lines ++ (to.line ++ 10 ∷ [])) ++ to.ahead ≡ ((lines ++ to.line) ++ 10 ∷ []) ++ to.ahead = ap (λ xs. xs ++ to.ahead) (sym (append_assoc lines to.line (10 ∷ []))) in
    let hears : HearsSession f.ahead h.ahead (run_in b) (stop_result why) = record {
      bytes = ((lines ++ to.line) ++ 10 ∷ []) ++ to.ahead;
      reads = subst (Consumes f.ahead h.ahead) bytes (reads t.passes);
      says = says_after h.ahead (((lines ++ to.line) ++ 10 ∷ []) ++ to.ahead) (run_in b) why says;
    } in
    subst (HearsAll f h (run_in b)) (sym told) record {
      hears = hears;
      read_failed = λ same. absurd (no_read_failed why same);
      read_worked = λ other. t.passes.failed;
    }

pub by_end : (from to : Hearing) (f h : Flow) (first new : Register) (a b : Kept) (field : Ended Stop) →
    field ≡ ended_as.End → from ≡ hearing_opened session_bounds → GoesOnHearing [] [] first (run_in a) → Listens Took from f first a to h new b (Ok field) → HearsAll f h (run_in b) (Ok tt)
by_end from to f h first new a b field is begun begins l =
    let s : Ends Took (hearing_opened session_bounds) f first a to h new b (Ok ended_as.End) =
    subst (λ (e : Ended Stop). Listens Took (hearing_opened session_bounds) f first a to h new b (Ok e)) is (subst (λ x. Listens Took x f first a to h new b (Ok field)) begun l) in
    let t = s.through in record {
      hears = record {
        bytes = (lines_ended t.lines ++ to.line) ++ to.ahead;
        reads = reads t.passes;
        says = (inr s.is.1, found_going (idle_going begins t s.clean s.is.0));
      };
      read_failed = λ same. absurd (cc);
      read_worked = λ other. t.passes.failed;
    }

pub by_long : (from to : Hearing) (f h : Flow) (first new : Register) (a b : Kept) (field : Ended Stop) (number : ℕ) →
    field ≡ ended_as.Long → number ≡ next_number new → from ≡ hearing_opened session_bounds → GoesOnHearing [] [] first (run_in a) → Listens Took from f first a to h new b (Ok field) →
    HearsAll f h (run_in b) (Err (fault.BadLine number answer.Long))
by_long from to f h first new a b field number is number_is begun begins l =
    let s : Ends Took (hearing_opened session_bounds) f first a to h new b (Ok ended_as.Long) =
    subst (λ (e : Ended Stop). Listens Took (hearing_opened session_bounds) f first a to h new b (Ok e)) is (subst (λ x. Listens Took x f first a to h new b (Ok field)) begun l) in
    let t = s.through in
    let top : to.longest ≡ 65536 = t.passes.longest in record {
      hears = record {
        bytes = (lines_ended t.lines ++ to.line) ++ to.ahead;
        reads = reads t.passes;
        says = stops_long to.line number (through_going begins t) s.clean (omega (arith, s.is.0, top)) number_is to.ahead;
      };
      read_failed = λ same. absurd (cc);
      read_worked = λ other. t.passes.failed;
    }

pub by_read_failed : (from to : Hearing) (f h : Flow) (first new : Register) (a b : Kept) (field : LineFault) →
    field ≡ lines.ReadFailed → from ≡ hearing_opened session_bounds → Listens Took from f first a to h new b (Err field) → HearsAll f h (run_in b) (Err fault.ReadFailed)
by_read_failed from to f h first new a b field is begun l =
    let s : Ends Took (hearing_opened session_bounds) f first a to h new b (Err lines.ReadFailed) =
    subst (λ (e : LineFault). Listens Took (hearing_opened session_bounds) f first a to h new b (Err e)) is (subst (λ x. Listens Took x f first a to h new b (Err field)) begun l) in
    let t = s.through in record {
      hears = record {
        bytes = (lines_ended t.lines ++ to.line) ++ to.ahead;
        reads = reads t.passes;
        says = tt;
      };
      read_failed = λ same. t.passes.failed;
      read_worked = λ other. absurd (other refl);
    }

pub by_turns : (from to : Hearing) (f h : Flow) (first new : Register) (a b : Kept) (field : LineFault) →
    field ≡ lines.TooManyReads → from ≡ hearing_opened session_bounds → Listens Took from f first a to h new b (Err field) → HearsAll f h (run_in b) (Err fault.TooManyReads)
by_turns from to f h first new a b field is begun l =
    let s : Ends Took (hearing_opened session_bounds) f first a to h new b (Err lines.TooManyReads) =
    subst (λ (e : LineFault). Listens Took (hearing_opened session_bounds) f first a to h new b (Err e)) is (subst (λ x. Listens Took x f first a to h new b (Err field)) begun l) in
    let t = s.through in record {
      hears = record {
        bytes = (lines_ended t.lines ++ to.line) ++ to.ahead;
        reads = reads t.passes;
        says = tt;
      };
      read_failed = λ same. absurd (cc);
      read_worked = λ other. t.passes.failed;
    }
