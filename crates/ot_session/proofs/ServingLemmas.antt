-- What a session is between its reads and where it ends.
use Rattle.std.proofs.Common.{◌≡◌, ℕ, ◌≤◌, List, [], ◌++◌, length, refl, sym, ap, ◌∙◌, subst, arith, append-nil, le_refl, Bool}
use Rattle.std.specs.Prelude.{Option, None, Result, Ok, Err}
use Rattle.std.specs.Io.KnownBytes.{Appends, Consumes}
use Rattle.std.proofs.KnownBytes.{Appends-nil, Consumes-nil}
use Rattle.std.proofs.lemmas.List.{length-take-le}
use Rattle.ot_book.specs.Books.{Register, next_number}
use Rattle.ot_session.specs.Session.{Heard, heard_in, logged_lines, SessionTells, Session, Serves, Lines, texts, line_marks, marked_lines, after, session_told}
use Rattle.ot_session.specs.Serving.{Going, Serving}
use Rattle.ot_session.specs.declared.fault.End.{End}
use Rattle.ot_session.specs.declared.fault.End.TheVariants.{EndOfInput}
use Rattle.ot_session.specs.declared.fault.FrontFault.{FrontFault}
use Rattle.ot_session.specs.declared.fault.FrontFault.TheVariants.{ReadFailed, Memory, TooManyTurns}
use Rattle.ot_session.proofs.ToldLemmas.{pending-after, length-texts, length-marked, next-after}
use Rattle.ot_session.proofs.SessionLemmas.{session_of, tells_all, breaks_between, breaks_closing}

-- ---- a session that begins

-- a session that could not begin
pub serves_nothing : (book : Register) (ahead : Option (List ℕ)) (latest : ℕ) (held : Option (List ℕ)) → Serves book book ahead ahead latest held held (Err Memory)
serves_nothing book ahead latest held = record {
  before = [];
  last = [];
  reads = Consumes-nil ahead;
  few = omega arith;
  session = session_of book held [] book held [] [] [] (Err Memory) refl refl (Appends-nil held) (breaks_between book [] [] [] refl);
  goes_on = refl;
  logs = omega arith;
}

-- the lines that were logged are no more than in the end
logs_more : (first book new : Register) (bytes : List ℕ) (lines : Lines) (lost : List Bool) → book ≡ after first lines → new ≡ after first (logged_lines first bytes lost) →
    length lost ≤ length (heard_in first bytes).lines → next_number book ≤ next_number new → length lines ≤ length lost
logs_more first book new bytes lines lost logs new_logs few grows =
    let count : length (logged_lines first bytes lost) ≡ length lost =
    length-take-le (length lost) (marked_lines (heard_in first bytes).lines lost) (omega (arith, few, length-marked (heard_in first bytes).lines lost)) in
    omega (
      arith,
      grows,
      count,
      ap next_number logs,
      ap next_number new_logs,
      next-after first lines,
      next-after first (logged_lines first bytes lost),
    )

-- the lines heard so far are no more than those logged
pub heard_logged : {first : Register} {start : Option (List ℕ)} {bytes partial : List ℕ} {book : Register} {held : Option (List ℕ)} →
    (going : Going first start bytes partial book held) (new : Register) (now : Option (List ℕ)) (more : List ℕ) (result : Result End FrontFault) →
    (s : Session first new more start now result) → next_number book ≤ next_number new → length (heard_in first bytes).lines ≤ length s.lost
heard_logged {first} {start} {bytes} {partial} {book} going new now more result s grows =
    let lines = logs_more first book new more going.lines s.lost going.logs s.logs s.few grows in
    omega (arith, lines, ap (λ (h : Heard). length h.lines) going.hears, length-texts going.lines)

-- what a session may answer that wanted more and got none
abbrev pub IsIdle : Result End FrontFault → Type 0
IsIdle (Ok EndOfInput) = Unit {0}
IsIdle (Err ReadFailed) = Unit {0}
IsIdle (Err TooManyTurns) = Unit {0}
IsIdle (Err Memory) = Unit {0}
IsIdle result = ⊥

tells_idle : (first : Register) (bytes : List ℕ) (lines : Lines) (partial : List ℕ) (result : Result End FrontFault) → IsIdle result →
    heard_in first bytes ≡ record { lines = texts lines; partial = partial; end = None } → SessionTells first bytes (line_marks lines) (session_told first lines ++ []) result
tells_idle first bytes lines partial (Ok EndOfInput) idle hears = tells_all first bytes lines partial None hears
tells_idle first bytes lines partial (Err ReadFailed) idle hears = tells_all first bytes lines partial None hears
tells_idle first bytes lines partial (Err TooManyTurns) idle hears = tells_all first bytes lines partial None hears
tells_idle first bytes lines partial (Err Memory) idle hears = breaks_closing first bytes lines partial None 0 hears
tells_idle first bytes lines partial result idle hears = absurd idle

pub serves_idle : {first : Register} {ahead left start : Option (List ℕ)} {partial : List ℕ} {book : Register} {held : Option (List ℕ)} →
    (next : Option (List ℕ)) (latest : ℕ) (result : Result End FrontFault) → (s : Serving first ahead left start partial book held) → Consumes ahead next s.bytes → IsIdle result →
    Serves first book ahead next latest start held result
serves_idle {first} {ahead} {left} {start} {partial} {book} {held} next latest result s reads idle =
    let all : s.bytes ≡ s.bytes ++ [] = sym (append-nil s.bytes) in
    let lines = s.going.lines in
    let session : Session first book (s.bytes ++ []) start held result =
    subst (λ bytes. Session first book bytes start held result) all
    (session_of first start s.bytes book held lines [] (session_told first lines ++ []) result
    (ap (λ (h : Heard). h.lines) s.going.hears ∙ sym (append-nil (texts lines))) s.going.logs
    (subst (Appends start held) (sym (append-nil (session_told first lines))) s.going.writes)
    (tells_idle first s.bytes lines partial result idle s.going.hears)) in record {
      before = s.bytes;
      last = [];
      reads = subst (Consumes ahead next) all reads;
      few = omega arith;
      session = session;
      goes_on = ap (λ (h : Heard). h.end) s.going.hears;
      logs = heard_logged s.going book held (s.bytes ++ []) result session (le_refl (next_number book));
    }

-- ---- no request is left open

pub closed_after : {old new : Register} {ahead left start held : Option (List ℕ)} {latest : ℕ} {result : Result End FrontFault} →
    Serves old new ahead left latest start held result → old.pending ≡ None → new.pending ≡ None
closed_after {old} s closed =
    ap (λ (b : Register). b.pending) s.session.logs ∙ pending-after old (logged_lines old (s.before ++ s.last) s.session.lost) closed
