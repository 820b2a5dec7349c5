-- A session behind a session over the same book: together they are one over the bytes of both.
use Rattle.std.proofs.Common.{◌≡◌, ℕ, zero, suc, ◌+◌, ◌-◌, ◌≤◌, List, [], ◌∷◌, ◌++◌, length, take, slice_get, refl, sym, ap, ap₂, ◌∙◌, subst, arith, append_assoc, append-nil, length-append, Bool, true, false, inl, inr, take_all}
use Rattle.std.specs.Prelude.{Option, Some, None, Result, Ok, Err, fold, is_some, if◌then◌else◌, ◌==◌, nat_le}
use Rattle.ot_book.specs.Books.{Register, next_number}
use Rattle.ot_book.specs.Room.{Room, room_in, takes, with_entry, room_after}
use Rattle.ot_session.specs.Session.{Heard, nothing_heard, hear, with_line, with_byte, is_bye, max_line, closing, heard_in, session_text, logged_lines, TellsAll, LeavesRun, BreaksOff, SessionTells, Session, Lines, texts, line_marks, marked_lines, after, session_told, RunsProgram}
use Rattle.ot_session.specs.Serving.{Going}
use Rattle.ot_session.specs.declared.fault.End.{End}
use Rattle.ot_session.specs.declared.fault.End.TheVariants as end
use Rattle.ot_session.specs.declared.fault.FrontFault.{FrontFault}
use Rattle.ot_session.specs.declared.fault.FrontFault.TheVariants as fault
use Rattle.ot_session.proofs.HeardLemmas.{at_line, heard-append}
use Rattle.ot_session.proofs.ToldLemmas.{length-texts, length-marks, after-append, told-append, told-take, room-after, next-after, length-marked}
use Rattle.ot_session.proofs.SessionLemmas.{session_of, breaks_between}

-- ---- what is heard behind lines

-- the lines stand before what is heard
abbrev behind : List (List ℕ) → Heard → Heard
behind lines h = record { lines = lines ++ h.lines; partial = h.partial; end = h.end }

behind-if : (lines : List (List ℕ)) (c : Bool) (x y : Heard) → (if c then behind lines x else behind lines y) ≡ behind lines (if c then x else y)
behind-if lines true x y = refl
behind-if lines false x y = refl

same_if : (c : Bool) (x y z w : Heard) → x ≡ z → y ≡ w → (if c then x else y) ≡ (if c then z else w)
same_if true x y z w one two = one
same_if false x y z w one two = two

room-two : (room : Room) (lines more : List (List ℕ)) → room_after room (lines ++ more) ≡ room_after (room_after room lines) more
room-two room [] more = refl
room-two room (line ∷ lines) more = room-two (with_entry room line) lines more

behind-line : (room : Room) (lines : List (List ℕ)) (h : Heard) → with_line room (behind lines h) ≡ behind lines (with_line (room_after room lines) h)
behind-line room lines h =
    let bye : Heard = record { lines = h.lines; partial = []; end = Some end.Bye } in
    let full : Heard = record { lines = h.lines; partial = []; end = Some end.Full } in
    let request : Heard = record { lines = h.lines ++ h.partial ∷ []; partial = []; end = None } in
    let longer : Heard = record { lines = (lines ++ h.lines) ++ h.partial ∷ []; partial = []; end = None } in
    let free = takes (room_after (room_after room lines) h.lines) h.partial in
    let assoc : longer ≡ behind lines request = ap (λ ls. at_line ls []) (append_assoc lines h.lines (h.partial ∷ [])) in
    ap (λ r. if is_bye h.partial then behind lines bye else (if takes r h.partial then longer else behind lines full)) (room-two room lines h.lines)
    ∙ same_if (is_bye h.partial) (behind lines bye) (if free then longer else behind lines full) (behind lines bye) (behind lines (if free then request else full)) refl
    (same_if free longer (behind lines full) (behind lines request) (behind lines full) assoc refl ∙ behind-if lines free request full)
    ∙ behind-if lines (is_bye h.partial) bye (if free then request else full)

behind-byte : (lines : List (List ℕ)) (h : Heard) (byte : ℕ) → with_byte (behind lines h) byte ≡ behind lines (with_byte h byte)
behind-byte lines h byte =
    behind-if lines (nat_le max_line (length h.partial)) (record { lines = h.lines; partial = h.partial; end = Some end.LongLine })
    (record { lines = h.lines; partial = h.partial ++ byte ∷ []; end = None })

behind-hear : (room : Room) (lines : List (List ℕ)) (h : Heard) (byte : ℕ) → hear room (behind lines h) byte ≡ behind lines (hear (room_after room lines) h byte)
behind-hear room lines h byte =
    let room_there = room_after room lines in
    let ten = byte == 10 in
    same_if (is_some h.end) (behind lines h) (if ten then with_line room (behind lines h) else with_byte (behind lines h) byte) (behind lines h)
    (behind lines (if ten then with_line room_there h else with_byte h byte)) refl
    (same_if ten (with_line room (behind lines h)) (with_byte (behind lines h) byte) (behind lines (with_line room_there h)) (behind lines (with_byte h byte))
    (behind-line room lines h) (behind-byte lines h byte)
    ∙ behind-if lines ten (with_line room_there h) (with_byte h byte))
    ∙ behind-if lines (is_some h.end) h (if ten then with_line room_there h else with_byte h byte)

behind-all : (room : Room) (lines : List (List ℕ)) (h : Heard) (bytes : List ℕ) → fold (hear room) (behind lines h) bytes ≡ behind lines (fold (hear (room_after room lines)) h bytes)
behind-all room lines h [] = refl
behind-all room lines h (b ∷ bytes) =
    ap (λ x. fold (hear room) x bytes) (behind-hear room lines h b) ∙ behind-all room lines (hear (room_after room lines) h b) bytes

pub heard_behind : {first : Register} {start : Option (List ℕ)} {bytes : List ℕ} {book : Register} {held : Option (List ℕ)} →
    (going : Going first start bytes [] book held) (more : List ℕ) → heard_in first (bytes ++ more) ≡ behind (texts going.lines) (heard_in book more)
heard_behind {first} {start} {bytes} {book} going more =
    let room = room_in first in
    let lines = texts going.lines in
    let same : room_after room lines ≡ room_in book = sym (room-after first going.lines) ∙ ap room_in (sym going.logs) in
    heard-append room bytes more
    ∙ ap (λ h. fold (hear room) h more) (going.hears ∙ ap (λ ls. at_line ls []) (sym (append-nil lines)))
    ∙ behind-all room lines nothing_heard more
    ∙ ap (λ r. behind lines (fold (hear r) nothing_heard more)) same

-- ---- lines with marks

marked-two : (lines : Lines) (more : List (List ℕ)) (lost : List Bool) → marked_lines (texts lines ++ more) (line_marks lines ++ lost) ≡ lines ++ marked_lines more lost
marked-two [] more lost = refl
marked-two (l ∷ lines) more lost = ap (λ ls. l ∷ ls) (marked-two lines more lost)

take-past_lines : (a b : Lines) (n : ℕ) → take (length a + n) (a ++ b) ≡ a ++ take n b
take-past_lines [] b n = ap (λ k. take k b) (let same : 0 + n ≡ n = omega arith in same)
take-past_lines (x ∷ a) b n =
    ap (λ k. take k (x ∷ (a ++ b))) (let same : suc (length a) + n ≡ suc (length a + n) = omega arith in same) ∙ ap (λ t. x ∷ t) (take-past_lines a b n)

slice_get-past : (a b : List (List ℕ)) (n : ℕ) → slice_get (a ++ b) (length a + n) ≡ slice_get b n
slice_get-past [] b n = ap (slice_get b) (let same : 0 + n ≡ n = omega arith in same)
slice_get-past (x ∷ a) b n =
    ap (slice_get (x ∷ (a ++ b))) (let same : suc (length a) + n ≡ suc (length a + n) = omega arith in same) ∙ slice_get-past a b n

count_two : (lines : Lines) (lost : List Bool) → length (line_marks lines ++ lost) ≡ length lines + length lost
count_two lines lost = length-append (line_marks lines) lost ∙ ap (λ n. n + length lost) (length-marks lines)

-- ---- one session of two

-- What a going session and one behind it are together: its parts are named, since each case below cites some of them.
record Joined (first : Register) (bytes more : List ℕ) (lines : Lines) (book : Register) : Type 0 where
  pub hears : heard_in first (bytes ++ more) ≡ behind (texts lines) (heard_in book more)
  pub logs : book ≡ after first lines

joined_of : {first : Register} {start : Option (List ℕ)} {bytes : List ℕ} {book : Register} {held : Option (List ℕ)} →
    (going : Going first start bytes [] book held) (more : List ℕ) → Joined first bytes more going.lines book
joined_of going more = record { hears = heard_behind going more; logs = going.logs }

lines_joined : (first : Register) (bytes more : List ℕ) (lines : Lines) (book : Register) → Joined first bytes more lines book →
    (heard_in first (bytes ++ more)).lines ≡ texts lines ++ (heard_in book more).lines
lines_joined first bytes more lines book j = ap (λ (h : Heard). h.lines) j.hears

marked_joined : (first : Register) (bytes more : List ℕ) (lines : Lines) (book : Register) (lost : List Bool) → Joined first bytes more lines book →
    marked_lines (heard_in first (bytes ++ more)).lines (line_marks lines ++ lost) ≡ lines ++ marked_lines (heard_in book more).lines lost
marked_joined first bytes more lines book lost j =
    ap (λ ls. marked_lines ls (line_marks lines ++ lost)) (lines_joined first bytes more lines book j) ∙ marked-two lines (heard_in book more).lines lost

logged_joined : (first : Register) (bytes more : List ℕ) (lines : Lines) (book : Register) (lost : List Bool) → Joined first bytes more lines book →
    logged_lines first (bytes ++ more) (line_marks lines ++ lost) ≡ lines ++ logged_lines book more lost
logged_joined first bytes more lines book lost j =
    ap (take (length (line_marks lines ++ lost))) (marked_joined first bytes more lines book lost j)
    ∙ ap (λ n. take n (lines ++ marked_lines (heard_in book more).lines lost)) (count_two lines lost)
    ∙ take-past_lines lines (marked_lines (heard_in book more).lines lost) (length lost)

told_joined : (first : Register) (lines : Lines) (book : Register) (more : Lines) → book ≡ after first lines → session_told first (lines ++ more) ≡ session_told first lines ++ session_told book more
told_joined first lines book more logs = told-append first lines more ∙ ap (λ b. session_told first lines ++ session_told b more) (sym logs)

after_joined : (first : Register) (lines : Lines) (book : Register) (more : Lines) → book ≡ after first lines → after first (lines ++ more) ≡ after book more
after_joined first lines book more logs = after-append first lines more ∙ ap (λ b. after b more) (sym logs)

text_joined : (first : Register) (bytes more : List ℕ) (lines : Lines) (book : Register) (lost : List Bool) → Joined first bytes more lines book →
    session_text first (bytes ++ more) (line_marks lines ++ lost) ≡ session_told first lines ++ session_text book more lost
text_joined first bytes more lines book lost j =
    let end = closing (heard_in first (bytes ++ more)).end in
    let h = heard_in book more in
    ap (λ ls. session_told first ls ++ end) (marked_joined first bytes more lines book lost j)
    ∙ ap (λ t. t ++ end) (told_joined first lines book (marked_lines h.lines lost) j.logs)
    ∙ append_assoc (session_told first lines) (session_told book (marked_lines h.lines lost)) end
    ∙ ap (λ (x : Heard). session_told first lines ++ (session_told book (marked_lines h.lines lost) ++ closing x.end)) j.hears

all_joined : (first : Register) (bytes more : List ℕ) (lines : Lines) (book : Register) (lost : List Bool) (written : List ℕ) (e : Option End) → Joined first bytes more lines book →
    TellsAll book more lost written e → TellsAll first (bytes ++ more) (line_marks lines ++ lost) (session_told first lines ++ written) e
all_joined first bytes more lines book lost written e j t = record {
  ends = ap (λ (h : Heard). h.end) j.hears ∙ t.ends;
  logs = omega (
    arith,
    count_two lines lost,
    t.logs,
    ap length (lines_joined first bytes more lines book j),
    length-append (texts lines) (heard_in book more).lines,
    length-texts lines,
  );
  tells = ap (λ w. session_told first lines ++ w) t.tells ∙ sym (text_joined first bytes more lines book lost j);
}

run_joined : (first : Register) (bytes more : List ℕ) (lines : Lines) (book : Register) (lost : List Bool) (written : List ℕ) → Joined first bytes more lines book →
    LeavesRun book more lost written → LeavesRun first (bytes ++ more) (line_marks lines ++ lost) (session_told first lines ++ written)
run_joined first bytes more lines book lost written j t =
    let logged_is = logged_joined first bytes more lines book lost j in
    let place : length (line_marks lines ++ lost) ≡ length (texts lines) + length lost = count_two lines lost ∙ ap (λ n. n + length lost) (sym (length-texts lines)) in record {
      next = t.next;
      is_next =
          ap₂ slice_get (lines_joined first bytes more lines book j) place
          ∙ slice_get-past (texts lines) (heard_in book more).lines (length lost)
          ∙ t.is_next;
      runs = subst (λ b. RunsProgram b t.next) (sym (ap (after first) logged_is ∙ after_joined first lines book (logged_lines book more lost) j.logs)) t.runs;
      tells = ap (λ w. session_told first lines ++ w) t.tells ∙ sym (ap (session_told first) logged_is ∙ told_joined first lines book (logged_lines book more lost) j.logs);
    }

-- all replies but the last
all_but_last_joined : (first : Register) (lines : Lines) (book : Register) (logged : Lines) (lost : List Bool) (written : List ℕ) → book ≡ after first lines →
    length (session_told book (take (length lost - 1) logged)) ≤ length written →
    length (session_told first (take (length (line_marks lines ++ lost) - 1) (lines ++ logged))) ≤ length (session_told first lines ++ written)
all_but_last_joined first lines book logged [] written logs most =
    let front : take (length (line_marks lines ++ []) - 1) (lines ++ logged) ≡ take (length lines - 1) lines =
    ap (λ n. take (n - 1) (lines ++ logged)) (count_two lines [])
    ∙ ap (λ n. take n (lines ++ logged)) (let same : (length lines + 0) - 1 ≡ length lines - 1 = omega arith in same)
    ∙ take-front lines logged (length lines - 1) (omega arith) in
    omega (arith, ap (λ ls. length (session_told first ls)) front, told-take first lines (length lines - 1), length-append (session_told first lines) written)
  where
    take-front : (a b : Lines) (n : ℕ) → n ≤ length a → take n (a ++ b) ≡ take n a
    take-front a b zero within = refl
    take-front [] b (suc n) within = absurd (omega (arith, within))
    take-front (x ∷ a) b (suc n) within = ap (λ t. x ∷ t) (take-front a b n (omega (arith, within)))
all_but_last_joined first lines book logged (m ∷ lost) written logs most =
    let front : take (length (line_marks lines ++ m ∷ lost) - 1) (lines ++ logged) ≡ lines ++ take (length (m ∷ lost) - 1) logged =
    ap (λ n. take (n - 1) (lines ++ logged)) (count_two lines (m ∷ lost))
    ∙ ap (λ n. take n (lines ++ logged)) (let same : (length lines + suc (length lost)) - 1 ≡ length lines + (suc (length lost) - 1) = omega arith in same)
    ∙ take-past_lines lines logged (length (m ∷ lost) - 1) in
    let whole = ap (session_told first) front ∙ told_joined first lines book (take (length (m ∷ lost) - 1) logged) logs in
    omega (arith, ap length whole, most, length-append (session_told first lines) (session_told book (take (length (m ∷ lost) - 1) logged)), length-append (session_told first lines) written)

off_joined : (first : Register) (bytes more : List ℕ) (lines : Lines) (book : Register) (lost : List Bool) (written : List ℕ) → Joined first bytes more lines book →
    BreaksOff book more lost written → BreaksOff first (bytes ++ more) (line_marks lines ++ lost) (session_told first lines ++ written)
off_joined first bytes more lines book lost written j t =
    let logged_is = logged_joined first bytes more lines book lost j in
    let whole = told_joined first lines book (logged_lines book more lost) j.logs in
    let longer = length-append (session_told first lines) written in record {
      missing = t.missing;
      begins =
          text_joined first bytes more lines book lost j
          ∙ ap (λ w. session_told first lines ++ w) t.begins
          ∙ sym (append_assoc (session_told first lines) written t.missing);
      all_but_last =
          subst (λ ls. length (session_told first (take (length (line_marks lines ++ lost) - 1) ls)) ≤ length (session_told first lines ++ written)) (sym logged_is)
          (all_but_last_joined first lines book (logged_lines book more lost) lost written j.logs t.all_but_last);
      no_other = elim t.no_other [
        | inl within ↦ inl (omega (
          arith,
          within,
          longer,
          ap (λ ls. length (session_told first ls)) logged_is,
          ap length whole,
          length-append (session_told first lines) (session_told book (logged_lines book more lost)),
        ))
        | inr all ↦ inr (omega (
          arith,
          all,
          count_two lines lost,
          ap length (lines_joined first bytes more lines book j),
          length-append (texts lines) (heard_in book more).lines,
          length-texts lines,
        ))
      ];
    }

tells_joined : (first : Register) (bytes more : List ℕ) (lines : Lines) (book : Register) (lost : List Bool) (written : List ℕ) (result : Result End FrontFault) → Joined first bytes more lines book →
    SessionTells book more lost written result → SessionTells first (bytes ++ more) (line_marks lines ++ lost) (session_told first lines ++ written) result
tells_joined first bytes more lines book lost written (Ok end.EndOfInput) j t = all_joined first bytes more lines book lost written None j t
tells_joined first bytes more lines book lost written (Ok end.Bye) j t = all_joined first bytes more lines book lost written (Some end.Bye) j t
tells_joined first bytes more lines book lost written (Ok end.Full) j t = all_joined first bytes more lines book lost written (Some end.Full) j t
tells_joined first bytes more lines book lost written (Ok end.LongLine) j t = all_joined first bytes more lines book lost written (Some end.LongLine) j t
tells_joined first bytes more lines book lost written (Ok end.Closed) j t = run_joined first bytes more lines book lost written j t
tells_joined first bytes more lines book lost written (Err fault.ReadFailed) j t = all_joined first bytes more lines book lost written None j t
tells_joined first bytes more lines book lost written (Err fault.WriteFailed) j t = off_joined first bytes more lines book lost written j t
tells_joined first bytes more lines book lost written (Err fault.Memory) j t = off_joined first bytes more lines book lost written j t
tells_joined first bytes more lines book lost written (Err fault.Stranger) j t = run_joined first bytes more lines book lost written j t
tells_joined first bytes more lines book lost written (Err fault.TooManyTurns) j t = all_joined first bytes more lines book lost written None j t
tells_joined first bytes more lines book lost written (Err fault.SocketFailed) j t = absurd t

-- the session goes on, and one over its book stands behind it
pub session_joined : {first : Register} {bytes : List ℕ} {book : Register} {plain : List ℕ} →
    (more : List ℕ) (new : Register) (held now : Option (List ℕ)) (result : Result End FrontFault) → Going first (Some []) bytes [] book (Some plain) →
    (s : Session book new more held now result) → Session first new (bytes ++ more) (Some []) (Some (plain ++ s.written)) result
session_joined {first} {bytes} {book} {plain} more new held now result going s =
    let j = joined_of going more in
    let lines = going.lines in record {
      lost = line_marks lines ++ s.lost;
      written = session_told first lines ++ s.written;
      few = omega (
        arith,
        s.few,
        count_two lines s.lost,
        ap length (lines_joined first bytes more lines book j),
        length-append (texts lines) (heard_in book more).lines,
        length-texts lines,
      );
      grown = omega (arith, s.grown, count_two lines s.lost, ap next_number going.logs, next-after first lines);
      logs =
          s.logs
          ∙ sym (after_joined first lines book (logged_lines book more s.lost) going.logs)
          ∙ ap (after first) (sym (logged_joined first bytes more lines book s.lost j));
      writes = ap (λ p. p ++ s.written) going.writes;
      tells = tells_joined first bytes more lines book s.lost s.written result j s.tells;
    }

-- ---- a line that was served, behind which the session goes on

ended_line : (room : Room) (h : Heard) → (hear room h 10).end ≡ None → (hear room h 10).partial ≡ []
ended_line room h none = by_end h.end refl
  where
    some_none : (e : End) → Some e ≡ None → ⊥
    some_none e h = cc

    by_room : (c d : Bool) (x y z : Heard) → x.partial ≡ [] → y.partial ≡ [] → z.partial ≡ [] → (if c then x else (if d then y else z)).partial ≡ []
    by_room true d x y z one two three = one
    by_room false true x y z one two three = two
    by_room false false x y z one two three = three

    by_end : (e : Option End) → h.end ≡ e → (hear room h 10).partial ≡ []
    by_end None is =
        ap (λ o. (if is_some o then h else with_line room h).partial) is
        ∙ by_room (is_bye h.partial) (takes (room_after room h.lines) h.partial) (record { lines = h.lines; partial = []; end = Some end.Bye })
        (record { lines = h.lines ++ h.partial ∷ []; partial = []; end = None }) (record { lines = h.lines; partial = []; end = Some end.Full }) refl refl refl
    by_end (Some e) is =
        let stays : hear room h 10 ≡ h = ap (λ o. if is_some o then h else with_line room h) is in
        absurd (some_none e (sym is ∙ ap (λ (x : Heard). x.end) (sym stays) ∙ none))

-- it goes on behind the line, with all that was written
pub going_joined : {first : Register} {bytes : List ℕ} {book : Register} {plain : List ℕ} →
    (line : List ℕ) (new : Register) (held now : Option (List ℕ)) → Going first (Some []) bytes [] book (Some plain) →
    (s : Session book new (line ++ 10 ∷ []) held now (Ok end.EndOfInput)) → Going first (Some []) (bytes ++ (line ++ 10 ∷ [])) [] new (Some (plain ++ s.written))
going_joined {first} {bytes} {book} {plain} line new held now going s =
    let all = session_joined (line ++ 10 ∷ []) new held now (Ok end.EndOfInput) going s in
    let h = heard_in first (bytes ++ (line ++ 10 ∷ [])) in
    let lines = marked_lines h.lines all.lost in
    let last : h ≡ hear (room_in first) (heard_in first (bytes ++ line)) 10 =
    ap (heard_in first) (sym (append_assoc bytes line (10 ∷ []))) ∙ heard-append (room_in first) (bytes ++ line) (10 ∷ []) in
    let ends : h.end ≡ None = all.tells.ends in
    let partial : h.partial ≡ [] =
    ap (λ (x : Heard). x.partial) last ∙ ended_line (room_in first) (heard_in first (bytes ++ line)) (ap (λ (x : Heard). x.end) (sym last) ∙ ends) in record {
      lines = lines;
      hears = heard_is h (texts lines) (sym (texts-marked h.lines all.lost)) partial ends;
      short = omega arith;
      logs = all.logs ∙ ap (after first) (take_all_lines (length all.lost) lines (omega (arith, all.tells.logs, length-marked h.lines all.lost)));
      writes = all.writes ∙ all.tells.tells ∙ ap (λ e. session_told first lines ++ closing e) ends ∙ append-nil (session_told first lines);
    }
  where
    heard_is : (h : Heard) (lines : List (List ℕ)) → h.lines ≡ lines → h.partial ≡ [] → h.end ≡ None → h ≡ at_line lines []
    heard_is h lines one two three = λ i. record { lines = one i; partial = two i; end = three i }

    texts-marked : (lines : List (List ℕ)) (lost : List Bool) → texts (marked_lines lines lost) ≡ lines
    texts-marked [] lost = refl
    texts-marked (l ∷ lines) [] = ap (λ ls. l ∷ ls) (texts-marked lines [])
    texts-marked (l ∷ lines) (m ∷ lost) = ap (λ ls. l ∷ ls) (texts-marked lines lost)

    take_all_lines : (n : ℕ) (ls : Lines) → length ls ≤ n → take n ls ≡ ls
    take_all_lines n ls most = take_all n ls most

-- all is told behind it
pub breaks_joined : {first : Register} {bytes : List ℕ} {book : Register} {held : Option (List ℕ)} → (going : Going first (Some []) bytes [] book held) →
    Session first book bytes (Some []) held (Err fault.Memory) × Session first book bytes (Some []) held (Err fault.WriteFailed)
breaks_joined {first} {bytes} {book} {held} going =
    let hears : (heard_in first bytes).lines ≡ texts going.lines ++ [] = ap (λ (h : Heard). h.lines) going.hears ∙ sym (append-nil (texts going.lines)) in
    let off = breaks_between first bytes going.lines [] hears in (
      session_of first (Some []) bytes book held going.lines [] (session_told first going.lines) (Err fault.Memory) hears going.logs going.writes off,
      session_of first (Some []) bytes book held going.lines [] (session_told first going.lines) (Err fault.WriteFailed) hears going.logs going.writes off,
    )
