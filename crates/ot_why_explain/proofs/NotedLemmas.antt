-- The lines of an explained session with their remarks: a line more, and the end.
use Rattle.std.proofs.Common.{◌≡◌, ℕ, zero, suc, List, [], ◌∷◌, ◌++◌, length, take, refl, sym, ap, ◌∙◌, subst, arith, append_assoc, append-nil, ◌⊎◌, inl, inr, Bool, true, false, ◌||◌}
use Rattle.std.specs.Prelude.{Option, Some, None, is_some, if◌then◌else◌, slice_get}
use Rattle.std.specs.Io.KnownBytes.{Appends, Consumes}
use Rattle.std.proofs.lemmas.Bool.Decides.{leb_tells}
use Rattle.ot_book.specs.Books.{Register, line_logged}
use Rattle.ot_book.specs.Room.{Room, room_in, takes, room_after}
use Rattle.ot_session.specs.Session.{Heard, heard, hear, with_line, is_bye, HasNoEnd, max_line, closing, heard_in, logged_lines, TellsAll, LeavesRun, Lines, texts, marked_lines, after, session_told, reply_line}
use Rattle.ot_session.specs.declared.fault.End.{End}
use Rattle.ot_session.specs.declared.fault.End.TheVariants as end
use Rattle.ot_session.proofs.HeardLemmas.{at_line, heard-append, lines_grow, heard-piece, heard-long}
use Rattle.ot_session.proofs.ToldLemmas.{texts-more, after-more}
use Rattle.ot_why_explain.specs.Explaining.{last_code, AreOn, Remarked, refuses, is_untaken, says, Remarks}
use Rattle.ot_why_explain.specs.Listening.{said_at, Noted, Closing}
use Rattle.ot_why_explain.specs.declared.explaining.Explained.{Explained}
use Rattle.ot_why_explain.proofs.RemarkLemmas.{remarked_more, refuses-more, said_on, says-more}

-- ---- what is heard in one line

-- it ends the session and is no request, or it is a request
abbrev pub IsOneLine : Heard → Type 0
IsOneLine h = ((h.lines ≡ []) × (h.end ≡ None → ⊥)) ⊎ ((line : List ℕ) × (h.lines ≡ line ∷ []) × (h.end ≡ None))

some_end : (e : End) → Some e ≡ None → ⊥
some_end e is = cc

-- what a whole line makes of a line that has begun
whole_line : (room : Room) (line : List ℕ) → IsOneLine (with_line room (at_line [] line))
whole_line room line = by_bits (is_bye line) (takes (room_after room []) line)
  where
    by_bits : (c d : Bool) → IsOneLine (if c then record { lines = []; partial = []; end = Some end.Bye } else (if d then record { lines = line ∷ []; partial = []; end = None } else record { lines = []; partial = []; end = Some end.Full }))
    by_bits true d = inl (refl, some_end end.Bye)
    by_bits false true = inr (line, refl, refl)
    by_bits false false = inl (refl, some_end end.Full)

pub one_line : (room : Room) (line : List ℕ) → HasNoEnd line → IsOneLine (heard room (line ++ 10 ∷ []))
one_line room line clean = elim (leb_tells (length line) max_line) [
  | inl (test, fits) ↦
      let begun : heard room line ≡ at_line [] line = heard-piece room [] [] line clean (omega (arith, fits)) in
      subst IsOneLine (sym (heard-append room line (10 ∷ []) ∙ ap (λ h. hear room h 10) begun)) (whole_line room line)
  | inr (test, long) ↦
      let far = heard-long room [] [] line clean (omega arith) (omega (arith, long)) in
      subst IsOneLine (sym (heard-append room line (10 ∷ []) ∙ ap (λ h. hear room h 10) far.1)) (inl (refl, some_end end.LongLine))
]

-- ---- a session over one line

-- one that ended at it has logged nothing, and has written how it closes
pub quiet_all : (book : Register) (bytes : List ℕ) (lost : List Bool) (written : List ℕ) (e : End) → IsOneLine (heard_in book bytes) → TellsAll book bytes lost written (Some e) →
    (written ≡ closing (Some e)) × (logged_lines book bytes lost ≡ [])
quiet_all book bytes lost written e (inl none) t =
    let h = heard_in book bytes in (
      t.tells ∙ ap (λ ls. session_told book (marked_lines ls lost) ++ closing h.end) none.0 ∙ ap closing t.ends,
      ap (λ ls. take (length lost) (marked_lines ls lost)) none.0 ∙ take_none lost (length lost),
    )
  where
    take_none : (lost : List Bool) (n : ℕ) → take n (marked_lines [] lost) ≡ []
    take_none lost zero = refl
    take_none lost (suc n) = refl
quiet_all book bytes lost written e (inr one) t = absurd (some_end e (sym t.ends ∙ one.2))

pub quiet_run : (book : Register) (bytes : List ℕ) (lost : List Bool) (written : List ℕ) → IsOneLine (heard_in book bytes) → LeavesRun book bytes lost written →
    (written ≡ []) × (logged_lines book bytes lost ≡ [])
quiet_run book bytes lost written one t =
    let none : logged_lines book bytes lost ≡ [] = by_lost lost one t.is_next in
    (t.tells ∙ ap (session_told book) none, none)
  where
    no_place : (line next : List ℕ) (n : ℕ) → slice_get (line ∷ []) (suc n) ≡ Some next → ⊥
    no_place line next zero is = cc
    no_place line next (suc n) is = cc

    no_first : (next : List ℕ) (n : ℕ) → let none : List (List ℕ) = [] in slice_get none n ≡ Some next → ⊥
    no_first next zero is = cc
    no_first next (suc n) is = cc

    by_lost : (marks : List Bool) → IsOneLine (heard_in book bytes) → slice_get (heard_in book bytes).lines (length marks) ≡ Some t.next → logged_lines book bytes marks ≡ []
    by_lost [] one next = refl
    by_lost (m ∷ marks) (inl none) next = absurd (no_first t.next (length (m ∷ marks)) (ap (λ ls. slice_get ls (length (m ∷ marks))) (sym none.0) ∙ next))
    by_lost (m ∷ marks) (inr line) next = absurd (no_place line.0 t.next (length marks) (ap (λ ls. slice_get ls (length (m ∷ marks))) (sym line.1) ∙ next))

-- one that goes on behind it has logged it, and has written the reply
pub record Replied (book new : Register) (bytes written : List ℕ) : Type 0 where
  pub line : List ℕ × Bool
  pub hears : (heard_in book bytes).lines ≡ line.0 ∷ []
  pub logs : new ≡ line_logged book line.0 line.1
  pub tells : written ≡ reply_line book line

pub replied_of : (book new : Register) (bytes : List ℕ) (lost : List Bool) (written : List ℕ) → IsOneLine (heard_in book bytes) → new ≡ after book (logged_lines book bytes lost) →
    TellsAll book bytes lost written None → Replied book new bytes written
replied_of book new bytes lost written (inl none) logs t = absurd (none.1 t.ends)
replied_of book new bytes lost written (inr one) logs t = by_lost lost t.logs logs t.tells
  where
    end_is : closing (heard_in book bytes).end ≡ []
    end_is = ap closing one.2

    by_lost : (marks : List Bool) → length marks ≡ length (heard_in book bytes).lines → new ≡ after book (logged_lines book bytes marks) →
        written ≡ session_told book (marked_lines (heard_in book bytes).lines marks) ++ closing (heard_in book bytes).end → Replied book new bytes written
    by_lost [] count logs tells = absurd (omega (arith, count, ap length one.1))
    by_lost (m ∷ marks) count logs tells = record {
      line = (one.0, m);
      hears = one.1;
      logs = logs ∙ ap (λ ls. after book (take (length (m ∷ marks)) (marked_lines ls (m ∷ marks)))) one.1 ∙ ap (after book) (first_of (length marks));
      tells =
          tells
          ∙ ap (λ ls. session_told book (marked_lines ls (m ∷ marks)) ++ closing (heard_in book bytes).end) one.1
          ∙ ap (λ e. (reply_line book (one.0, m) ++ []) ++ e) end_is
          ∙ append-nil (reply_line book (one.0, m) ++ [])
          ∙ append-nil (reply_line book (one.0, m));
    }
      where
        first_of : (n : ℕ) → let lines : Lines = (one.0, m) ∷ marked_lines [] marks in take (suc n) lines ≡ (one.0, m) ∷ []
        first_of zero = refl
        first_of (suc n) = refl

-- ---- notes

pub noted_first : (book : Register) (said : Explained) → said ≡ says false → Noted book book [] [] said
noted_first book said is = record { lines = []; hears = refl; logs = refl; remarked = refl; tells = is }

-- a line more, with its remarks
pub noted_more : {first book : Register} {begun text : List ℕ} {said : Explained} (more written remarks : List ℕ) (new : Register) (now : Explained) →
    (heard_in first (begun ++ more)).lines ≡ (heard_in first begun).lines ++ (heard_in book more).lines → Noted first book begun text said → Replied book new more written →
    AreOn (last_code new) remarks → now ≡ said_on said (is_some (last_code new)) → Noted first new (begun ++ more) (text ++ (written ++ remarks)) now
noted_more {first} {book} {begun} {text} {said} more written remarks new now joined n r are now_is =
    let line = r.line in
    let logs : new ≡ line_logged (after first n.lines) line.0 line.1 = r.logs ∙ ap (λ b. line_logged b line.0 line.1) n.logs in record {
      lines = n.lines ++ line ∷ [];
      hears = joined ∙ ap (λ ls. ls ++ (heard_in book more).lines) n.hears ∙ ap (λ ls. texts n.lines ++ ls) r.hears ∙ sym (texts-more n.lines line);
      logs = logs ∙ sym (after-more first n.lines line);
      remarked = subst (Remarked first (n.lines ++ line ∷ [])) (sym whole)
          (remarked_more first n.lines line text remarks n.remarked (subst (λ b. AreOn (last_code b) remarks) logs are));
      tells =
          now_is
          ∙ says-more (refuses first n.lines) (is_some (last_code new)) said n.tells
          ∙ ap (λ b. says (refuses first n.lines || is_some (last_code b))) logs
          ∙ ap says (sym (refuses-more first n.lines line));
    }
  where
    whole : text ++ (written ++ remarks) ≡ text ++ (reply_line (after first n.lines) r.line ++ remarks)
    whole = ap (λ w. text ++ (w ++ remarks)) (r.tells ∙ ap (λ b. reply_line b r.line) n.logs)

-- lines behind which more was heard
pub still_heard : (first : Register) (bytes more : List ℕ) → (others : List (List ℕ)) × ((heard_in first (bytes ++ more)).lines ≡ (heard_in first bytes).lines ++ others)
still_heard first bytes more =
    let room = room_in first in
    let grown = lines_grow room (heard room bytes) more in
    (grown.0, ap (λ (h : Heard). h.lines) (heard-append room bytes more) ∙ grown.1)

-- the session ends in what stands behind the lines
pub closing_noted : {first book : Register} {begun text : List ℕ} {said : Explained} (more written : List ℕ) (new : Register) (e : End) →
    Noted first book begun text said → new ≡ book → written ≡ closing (Some e) → Closing first new (begun ++ more) (text ++ written) e said
closing_noted {first} {book} {begun} {text} more written new e n same closes =
    let far = still_heard first begun more in record {
      lines = n.lines;
      others = far.0;
      hears = far.1 ∙ ap (λ ls. ls ++ far.0) n.hears;
      logs = same ∙ n.logs;
      replies = text;
      remarked = n.remarked;
      is = ap (λ w. text ++ w) closes;
      tells = n.tells;
    }

pub closing_longer : {first new : Register} {bytes text : List ℕ} {e : End} {said : Explained} (more : List ℕ) → Closing first new bytes text e said → Closing first new (bytes ++ more) text e said
closing_longer {first} {bytes = bytes} more h =
    let far = still_heard first bytes more in record {
      lines = h.lines;
      others = h.others ++ far.0;
      hears = far.1 ∙ ap (λ ls. ls ++ far.0) h.hears ∙ append_assoc (texts h.lines) h.others far.0;
      logs = h.logs;
      replies = h.replies;
      remarked = h.remarked;
      is = h.is;
      tells = h.tells;
    }

pub said-at : (e : End) (refused : Bool) → said_at e (says refused) ≡ says (refused || is_untaken e)
said-at end.Bye true = refl
said-at end.Bye false = refl
said-at end.EndOfInput true = refl
said-at end.EndOfInput false = refl
said-at end.Full true = refl
said-at end.Full false = refl
said-at end.LongLine true = refl
said-at end.LongLine false = refl
said-at end.Closed true = refl
said-at end.Closed false = refl

-- what is told of it in the end
pub remarks_of_closing : {first new : Register} {bytes text : List ℕ} {e : End} {said : Explained} (ahead left start held : Option (List ℕ)) →
    Closing first new bytes text e said → Consumes ahead left bytes → Appends start held text → Remarks first new ahead left start held e (said_at e said)
remarks_of_closing {bytes = bytes} {e = e} ahead left start held h reads writes = record {
  bytes = bytes;
  reads = reads;
  lines = h.lines;
  others = h.others;
  hears = h.hears;
  logs = h.logs;
  replies = h.replies;
  remarked = h.remarked;
  writes = subst (Appends start held) h.is writes;
  tells = ap (said_at e) h.tells ∙ said-at e (refuses _ h.lines);
}
