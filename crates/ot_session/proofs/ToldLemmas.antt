-- A book after more lines, and the replies to them.
use Rattle.std.proofs.Common.{◌≡◌, ℕ, suc, ◌+◌, ◌≤◌, ◌<◌, List, [], ◌∷◌, ◌++◌, length, take, drop, refl, sym, ap, ◌∙◌, arith, append_assoc, append-nil, length-append, Bool, true, false, true≢false}
use Rattle.std.specs.Prelude.{Some, None, slice_get}
use Rattle.std.proofs.Math.ListN.{length-map, take-append-drop}
use Rattle.std.proofs.Math.Seq.{get_or-append_seam}
use Rattle.std.proofs.lemmas.List.{map-append}
use Rattle.std.proofs.lemmas.Option.{slice_get-get_or}
use Rattle.ot_book.specs.Books.{Register, next_number, state_in, line_logged}
use Rattle.ot_book.specs.Answers.{is_checkpoint, answer_or_lost}
use Rattle.ot_book.specs.Room.{Room, room_in, room_after}
use Rattle.ot_book.proofs.BookLemmas.{logged-by}
use Rattle.ot_book.proofs.RoomLemmas.{room-logged}
use Rattle.ot_session.specs.Turns.{LogsLine}
use Rattle.ot_session.specs.Session.{Lines, texts, line_marks, marked_lines, after, session_told, reply_line}

-- ---- lines and marks

pub length-texts : (lines : Lines) → length (texts lines) ≡ length lines
length-texts lines = length-map lines (λ (l : List ℕ × Bool). l.0)

pub length-marks : (lines : Lines) → length (line_marks lines) ≡ length lines
length-marks lines = length-map lines (λ (l : List ℕ × Bool). l.1)

pub texts-more : (lines : Lines) (line : List ℕ × Bool) → texts (lines ++ line ∷ []) ≡ texts lines ++ line.0 ∷ []
texts-more lines line = map-append (λ (l : List ℕ × Bool). l.0) lines (line ∷ [])

-- lines whose marks stand beside them, and further ones
pub marked-texts : (lines : Lines) (rest : List (List ℕ)) → marked_lines (texts lines ++ rest) (line_marks lines) ≡ lines ++ marked_lines rest []
marked-texts [] [] = refl
marked-texts [] (line ∷ rest) = refl
marked-texts (line ∷ lines) rest = ap (λ ls. line ∷ ls) (marked-texts lines rest)

pub marked-append : (lines more : List (List ℕ)) (lost : List Bool) → length lost ≤ length lines → marked_lines (lines ++ more) lost ≡ marked_lines lines lost ++ marked_lines more []
marked-append [] more [] few = refl
marked-append [] more (m ∷ lost) few = absurd (omega (arith, few))
marked-append (line ∷ lines) more [] few = ap (λ ls. (line, false) ∷ ls) (marked-append lines more [] (omega arith))
marked-append (line ∷ lines) more (m ∷ lost) few = ap (λ ls. (line, m) ∷ ls) (marked-append lines more lost (omega (arith, few)))

pub length-marked : (lines : List (List ℕ)) (lost : List Bool) → length (marked_lines lines lost) ≡ length lines
length-marked [] lost = refl
length-marked (line ∷ lines) [] = ap suc (length-marked lines [])
length-marked (line ∷ lines) (m ∷ lost) = ap suc (length-marked lines lost)

-- ---- the book after lines

pub after-append : (book : Register) (lines more : Lines) → after book (lines ++ more) ≡ after (after book lines) more
after-append book [] more = refl
after-append book (l ∷ lines) more = after-append (line_logged book l.0 l.1) lines more

pub after-more : (book : Register) (lines : Lines) (line : List ℕ × Bool) → after book (lines ++ line ∷ []) ≡ line_logged (after book lines) line.0 line.1
after-more book lines line = after-append book lines (line ∷ [])

pub told-append : (book : Register) (lines more : Lines) → session_told book (lines ++ more) ≡ session_told book lines ++ session_told (after book lines) more
told-append book [] more = refl
told-append book (l ∷ lines) more =
    ap (λ rest. reply_line book l ++ rest) (told-append (line_logged book l.0 l.1) lines more)
    ∙ sym (append_assoc (reply_line book l) (session_told (line_logged book l.0 l.1) lines) (session_told (after (line_logged book l.0 l.1) lines) more))

pub told-more : (book : Register) (lines : Lines) (line : List ℕ × Bool) → session_told book (lines ++ line ∷ []) ≡ session_told book lines ++ reply_line (after book lines) line
told-more book lines line = told-append book lines (line ∷ []) ∙ ap (λ text. session_told book lines ++ text) (append-nil (reply_line (after book lines) line))

-- the replies to the first lines are no longer than those to all
pub told-take : (book : Register) (lines : Lines) (n : ℕ) → length (session_told book (take n lines)) ≤ length (session_told book lines)
told-take book lines n =
    let all = ap (session_told book) (sym (take-append-drop n lines)) ∙ told-append book (take n lines) (drop n lines) in
    omega (arith, ap length all, length-append (session_told book (take n lines)) (session_told (after book (take n lines)) (drop n lines)))

-- the room after lines is counted by the lines alone
pub room-after : (book : Register) (lines : Lines) → room_in (after book lines) ≡ room_after (room_in book) (texts lines)
room-after book [] = refl
room-after book (l ∷ lines) = room-after (line_logged book l.0 l.1) lines ∙ ap (λ r. room_after r (texts lines)) (room-logged book l.0 l.1)

-- each line has a number of its own
pub next-after : (book : Register) (lines : Lines) → next_number (after book lines) ≡ next_number book + length lines
next-after book [] = omega arith
next-after book (l ∷ lines) =
    let one : next_number (line_logged book l.0 l.1) ≡ next_number book + 1 = ap (λ (r : Room). r.next) (room-logged book l.0 l.1) in
    omega (arith, one, next-after (line_logged book l.0 l.1) lines)

-- a log has the line that it took last
pub some-logged : (book : Register) (line : List ℕ) (lost : Bool) → 0 < length (line_logged book line lost).log
some-logged book line lost =
    logged-by (λ b. 0 < length b.log) book line lost (is_checkpoint line) refl (λ _. omega arith)
    (λ _. omega (arith, length-append book.log ((line, (answer_or_lost book.limits (state_in book) line lost).0) ∷ [])))

pub some-taken : (book new : Register) (line : List ℕ) (took : Bool) → LogsLine book line took new → took ≡ true → 0 < length new.log
some-taken book new line true is so = omega (arith, some-logged book line is.1, ap (λ (b : Register). length b.log) is.2)
some-taken book new line false is so = absurd (true≢false (sym so))

-- the number of the next request is no less behind a line, taken or not
pub next-taken : (book new : Register) (line : List ℕ) (took : Bool) → LogsLine book line took new → next_number book ≤ next_number new
next-taken book new line true is =
    let one : next_number (line_logged book line is.1) ≡ next_number book + 1 = ap (λ (r : Room). r.next) (room-logged book line is.1) in
    omega (arith, one, ap next_number is.2)
next-taken book new line false is = omega (arith, ap next_number is.1)

pending-logged : (book : Register) (line : List ℕ) (lost : Bool) → (line_logged book line lost).pending ≡ None
pending-logged book line lost = logged-by (λ b. b.pending ≡ None) book line lost (is_checkpoint line) refl (λ _. refl) (λ _. refl)

pub pending-after : (book : Register) (lines : Lines) → book.pending ≡ None → (after book lines).pending ≡ None
pending-after book [] closed = closed
pending-after book (l ∷ lines) closed = pending-after (line_logged book l.0 l.1) lines (pending-logged book l.0 l.1)

-- ---- places of a list

pub slice_get-seam : {A : Type 0} (xs : List A) (y : A) (ys : List A) → slice_get (xs ++ y ∷ ys) (length xs) ≡ Some y
slice_get-seam xs y ys =
    slice_get-get_or (xs ++ y ∷ ys) (length xs) y (omega (arith, length-append xs (y ∷ ys))) ∙ ap Some (get_or-append_seam xs y ys y)
