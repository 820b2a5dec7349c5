-- A file from piece to piece.
use Rattle.std.proofs.Common.{◌≡◌, ℕ, zero, suc, ◌+◌, ◌<◌, ◌≤◌, List, [], ◌∷◌, ◌++◌, length, refl, sym, ap, ◌∙◌, arith, Bool, true, false, append_assoc}
use Rattle.std.specs.Prelude.{Option, Some, None, slice_range, if◌then◌else◌, flat_map}
use Rattle.ot_file_text.specs.Cuts.{piece_from}
use Rattle.ot_file_text.specs.declared.request.Piece.{Piece}
use Rattle.serde_json.specs.Data.{Data}
use Rattle.ot_book.specs.Answers.{value_of}
use Rattle.ot_book.specs.Books.{Register}
use Rattle.ot_file_judge.specs.Judging.{line_of, is_goodbye, lines_by, lines_from, with_end, is_long, Refusal, refusal_of_piece, no_room, too_long, verdict_of, book_passed, refusals_by, refusals_at, refusals_with, refusals_from, Goes, standing}
use Rattle.ot_file_judge.specs.Found.{is_full, is_taken}
use Rattle.ot_file_judge.specs.declared.verdict.Verdict.{Verdict}
use Rattle.ot_file_judge.specs.declared.verdict.Verdict.TheVariants.{Taken, Refused, Full}

abbrev piece_line : List ℕ → Piece → List ℕ
piece_line blank p = line_of (slice_range blank p.start p.end)

-- what is refused behind a line that isn't too long
abbrev unless_long : Bool → Piece → List Refusal → List Refusal
unless_long t p behind = if t then too_long p ∷ [] else behind

-- ---- requests

-- a piece is next
record AtPiece (all : List Refusal) (blank : List ℕ) (p : Piece) (book : Register) : Type 0 where
  rest : ℕ
  enough : length blank ≤ p.end + rest
  is : refusals_at book (piece_line blank p) p (λ b. refusals_from rest blank p.end b) ≡ all

at_piece_by : {all : List Refusal} {blank : List ℕ} {from : ℕ} {book : Register} → (most : ℕ) (p : Piece) → length blank ≤ from + most → Some p ≡ piece_from blank from → from < p.end → p.end ≤ length blank →
    refusals_from most blank from book ≡ all → AtPiece all blank p book
at_piece_by zero p enough is past within found = absurd (omega arith)
at_piece_by {all} {blank} {from} {book} (suc most) p enough is past within found = record {
  rest = most;
  enough = omega arith;
  is = ap (λ piece. refusals_with book blank piece (λ at b. refusals_from most blank at b)) is ∙ found;
}

at_piece : {all : List Refusal} {blank : List ℕ} {from : ℕ} {book : Register} → (p : Piece) → Goes all (standing blank from book) → Some p ≡ piece_from blank from → from < p.end → p.end ≤ length blank →
    AtPiece all blank p book
at_piece p g is past within = at_piece_by g.most p g.enough is past within g.is

-- no piece is left
at_end_by : (all : List Refusal) (blank : List ℕ) (from : ℕ) (book : Register) (most : ℕ) → None ≡ piece_from blank from → refusals_from most blank from book ≡ all → all ≡ []
at_end_by all blank from book zero is found = sym found
at_end_by all blank from book (suc most) is found =
    sym (ap (λ piece. refusals_with book blank piece (λ at b. refusals_from most blank at b)) is ∙ found)

pub at_end : {all : List Refusal} {blank : List ℕ} {from : ℕ} {book : Register} → Goes all (standing blank from book) → None ≡ piece_from blank from → all ≡ []
at_end {all} {blank} {from} {book} g is = at_end_by all blank from book g.most is g.is

-- the session ends
pub at_goodbye : {all : List Refusal} {blank line : List ℕ} {from : ℕ} {book : Register} → (p : Piece) → Goes all (standing blank from book) → Some p ≡ piece_from blank from → from < p.end → p.end ≤ length blank →
    line ≡ piece_line blank p → is_goodbye line ≡ true → all ≡ []
at_goodbye {all} {blank} {line} {from} {book} p g is past within line_is bye =
    let a = at_piece p g is past within in
    sym a.is
    ∙ ap (λ t. if t then [] else unless_long (is_long (piece_line blank p)) p (refusals_by (verdict_of book (piece_line blank p)) p (piece_line blank p) (book_passed book (piece_line blank p)) (refusals_from a.rest blank p.end (book_passed book (piece_line blank p)))))
    (ap is_goodbye (sym line_is) ∙ bye)

-- the line is too long
pub at_long : {all : List Refusal} {blank line : List ℕ} {from : ℕ} {book : Register} → (p : Piece) → Goes all (standing blank from book) → Some p ≡ piece_from blank from → from < p.end → p.end ≤ length blank →
    line ≡ piece_line blank p → is_goodbye line ≡ false → is_long line ≡ true → all ≡ too_long p ∷ []
at_long {all} {blank} {line} {from} {book} p g is past within line_is bye long =
    let a = at_piece p g is past within in
    let behind = λ (l : List ℕ). refusals_by (verdict_of book l) p l (book_passed book l) (refusals_from a.rest blank p.end (book_passed book l)) in
    sym a.is
    ∙ ap (λ l. if is_goodbye l then [] else unless_long (is_long l) p (behind l)) (sym line_is)
    ∙ ap (λ t. if t then [] else unless_long (is_long line) p (behind line)) bye
    ∙ ap (λ t. unless_long t p (behind line)) long

judged : (blank line : List ℕ) (book : Register) (p : Piece) (v : Verdict) (rest : ℕ) →
    line ≡ piece_line blank p → is_goodbye line ≡ false → is_long line ≡ false → v ≡ verdict_of book line →
    refusals_at book (piece_line blank p) p (λ b. refusals_from rest blank p.end b) ≡ refusals_by v p line (book_passed book line) (refusals_from rest blank p.end (book_passed book line))
judged blank line book p v rest line_is bye short v_is =
    let behind = refusals_by (verdict_of book line) p line (book_passed book line) (refusals_from rest blank p.end (book_passed book line)) in
    ap (λ l. refusals_at book l p (λ b. refusals_from rest blank p.end b)) (sym line_is)
    ∙ ap (λ t. if t then [] else unless_long (is_long line) p behind) bye
    ∙ ap (λ t. unless_long t p behind) short
    ∙ ap (λ w. refusals_by w p line (book_passed book line) (refusals_from rest blank p.end (book_passed book line))) (sym v_is)

full_ends : (v : Verdict) (p : Piece) (line : List ℕ) (behind : List Refusal) (book : Register) → is_full v ≡ true → refusals_by v p line book behind ≡ no_room p ∷ []
full_ends Taken p line behind book h = absurd (cc)
full_ends Refused p line behind book h = absurd (cc)
full_ends Full p line behind book h = refl

refused_tells : (v : Verdict) (p : Piece) (line : List ℕ) (behind : List Refusal) (book : Register) → is_full v ≡ false → is_taken v ≡ false →
    refusals_by v p line book behind ≡ refusal_of_piece p line book ∷ behind
refused_tells Taken p line behind book h k = absurd (cc)
refused_tells Refused p line behind book h k = refl
refused_tells Full p line behind book h k = absurd (cc)

taken_goes : (v : Verdict) (p : Piece) (line : List ℕ) (behind : List Refusal) (book : Register) → is_taken v ≡ true → refusals_by v p line book behind ≡ behind
taken_goes Taken p line behind book k = refl
taken_goes Refused p line behind book k = absurd (cc)
taken_goes Full p line behind book k = absurd (cc)

-- the log is full
pub at_full : {all : List Refusal} {blank line : List ℕ} {from : ℕ} {book : Register} → (p : Piece) (v : Verdict) → Goes all (standing blank from book) → Some p ≡ piece_from blank from → from < p.end → p.end ≤ length blank →
    line ≡ piece_line blank p → is_goodbye line ≡ false → is_long line ≡ false → v ≡ verdict_of book line → is_full v ≡ true → all ≡ no_room p ∷ []
at_full {all} {blank} {line} {from} {book} p v g is past within line_is bye short v_is full =
    let a = at_piece p g is past within in
    sym a.is ∙ judged blank line book p v a.rest line_is bye short v_is ∙ full_ends v p line _ (book_passed book line) full

-- behind a full log nothing is judged
pub at_last : (blank : List ℕ) (book : Register) (from : ℕ) → length blank ≤ from → Goes [] (standing blank from book)
at_last blank book from past = record { most = 0; enough = omega (arith, past); is = refl }

-- a request is refused, whose line has this value
pub at_refused : {all : List Refusal} {blank line : List ℕ} {from : ℕ} {book : Register} → (p : Piece) (v : Verdict) (new : Register) (request : Option Data) → Goes all (standing blank from book) → Some p ≡ piece_from blank from → from < p.end → p.end ≤ length blank →
    line ≡ piece_line blank p → is_goodbye line ≡ false → is_long line ≡ false → v ≡ verdict_of book line → is_full v ≡ false → is_taken v ≡ false → new ≡ book_passed book line → request ≡ value_of line →
    (behind : List Refusal) × (all ≡ record { start = p.start; end = p.end; request = request; book = Some new; is_long = false } ∷ behind) × Goes behind (standing blank p.end new)
at_refused {all} {blank} {line} {from} {book} p v new request g is past within line_is bye short v_is full taken new_is value_is =
    let a = at_piece p g is past within in
    let one = sym a.is ∙ judged blank line book p v a.rest line_is bye short v_is ∙ refused_tells v p line _ (book_passed book line) full taken in (
      refusals_from a.rest blank p.end (book_passed book line),
      one ∙ ap (λ b. refusal_of_piece p line b ∷ refusals_from a.rest blank p.end (book_passed book line)) (sym new_is)
          ∙ ap (λ (d : Option Data). record { start = p.start; end = p.end; request = d; book = Some new; is_long = false } ∷ refusals_from a.rest blank p.end (book_passed book line)) (sym value_is),
      record { most = a.rest; enough = a.enough; is = ap (λ b. refusals_from a.rest blank p.end b) new_is },
    )

-- a piece further
pub at_taken : {all : List Refusal} {blank line : List ℕ} {from : ℕ} {book : Register} → (p : Piece) (v : Verdict) (new : Register) → Goes all (standing blank from book) → Some p ≡ piece_from blank from → from < p.end → p.end ≤ length blank →
    line ≡ piece_line blank p → is_goodbye line ≡ false → is_long line ≡ false → v ≡ verdict_of book line → is_taken v ≡ true → new ≡ book_passed book line → Goes all (standing blank p.end new)
at_taken {all} {blank} {line} {from} {book} p v new g is past within line_is bye short v_is taken new_is =
    let a = at_piece p g is past within in
    let one = sym (judged blank line book p v a.rest line_is bye short v_is ∙ taken_goes v p line _ (book_passed book line) taken) ∙ a.is in
    record { most = a.rest; enough = a.enough; is = ap (λ b. refusals_from a.rest blank p.end b) new_is ∙ one }

-- ---- lines

-- What was written, and the lines from a byte on, are all; so many pieces are left at most.
pub record Writing (all blank : List ℕ) (from : ℕ) (out : List ℕ) : Type 0 where
  pub most : ℕ
  pub enough : length blank ≤ from + most
  pub is : out ++ flat_map with_end (lines_from most blank from) ≡ all

written_by : (all blank out line new : List ℕ) (from most : ℕ) (p : Piece) → length blank ≤ from + most → Some p ≡ piece_from blank from → from < p.end → p.end ≤ length blank → line ≡ piece_line blank p →
    new ≡ out ++ with_end line → out ++ flat_map with_end (lines_from most blank from) ≡ all → Writing all blank p.end new
written_by all blank out line new from zero p enough is past within line_is new_is found = absurd (omega arith)
written_by all blank out line new from (suc most) p enough is past within line_is new_is found = record {
  most = most;
  enough = omega arith;
  is =
      ap (λ o. o ++ flat_map with_end (lines_from most blank p.end)) new_is
      ∙ append_assoc out (with_end line) (flat_map with_end (lines_from most blank p.end))
      ∙ ap (λ l. out ++ (with_end l ++ flat_map with_end (lines_from most blank p.end))) line_is
      ∙ ap (λ piece. out ++ flat_map with_end (lines_by blank piece (λ at. lines_from most blank at))) is ∙ found;
}

pub written : {all blank out line new : List ℕ} {from : ℕ} → (p : Piece) → Writing all blank from out → Some p ≡ piece_from blank from → from < p.end → p.end ≤ length blank → line ≡ piece_line blank p →
    new ≡ out ++ with_end line → Writing all blank p.end new
written {all} {blank} {out} {line} {new} {from} p w is past within line_is new_is = written_by all blank out line new from w.most p w.enough is past within line_is new_is w.is
