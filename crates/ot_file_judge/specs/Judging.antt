-- The requests of a file as lines.
use Rattle.std.specs.Prelude.{ℕ, [], zero, suc, ◌-◌, List, ◌∷◌, length, slice_get, slice_range, codes, Bool, true, false, if◌then◌else◌, Option, Some, None, option_map, option_and_then, Result, Ok, Err, ◌≡◌, ◌≤◌, ◌+◌, drop, unwrap_or, ◌⊎◌, ◌||◌, ◌++◌, bytes_eq, nat_eq, nat_lt}
use Rattle.ot_file_text.specs.Cuts.{piece_from}
use Rattle.ot_file_text.specs.declared.request.Piece.{Piece}
use Rattle.ot_store.specs.Arrays.{Named, array_created, shape_in}
use Rattle.ot_store.specs.Refusals.{usual_limits}
use Rattle.ot_store.specs.declared.fault.StoreRefusal.{StoreRefusal}
use Rattle.ot_book.specs.Answers as r
use Rattle.ot_book.specs.Answers.{Step, Now, Runs, value_of, code_in, is_run}
use Rattle.ot_book.specs.Books.{Register, new_register, next_step, line_logged, last_told}
use Rattle.ot_book.specs.Room.{room_in, takes}
use Rattle.ot_file_judge.specs.declared.verdict.Verdict.{Verdict}
use Rattle.ot_file_judge.specs.declared.verdict.Verdict.TheVariants.{Taken, Refused, Full}
use Rattle.ot_file_text.specs.Items.{offset_of}
use Rattle.ot_file_diagnosis.specs.Diagnoses.{place_in}
use Rattle.ot_file_diagnosis.specs.declared.diagnosis.Place.{Place}
use Rattle.ot_why_place.specs.Spots.{Path, Spot, spots_of, statements_of, item_numbered}
use Rattle.ot_why_fault.specs.Whys.{first_why}
use Rattle.ot_model.specs.Programs.{Arrays}
use Rattle.ot_program.specs.Meanings.{is_word}
use Rattle.serde_json.specs.Data.{Data, array, no_items, item}
use Rattle.serde_json.specs.View.{view}
use Rattle.ot_file_judge.specs.declared.findings.Finding.{Finding}
use Rattle.std.specs.List.{starts_with}
use Rattle.ot_file_text.specs.Comments.{comments_blanked}
use Rattle.ot_file_text.specs.OneLine.{one_line}

-- the first item of an array is the word of a program
abbrev pub begins_program : List ℕ → Bool
begins_program text = starts_with nat_eq text (codes "\"program\"") || starts_with nat_eq text (codes "\"program2\"")

abbrev pub begins_at : List ℕ → Option ℕ → Bool
begins_at piece (Some offset) = begins_program (drop offset piece)
begins_at piece None = false

-- a piece is an array that begins with the word of a program
abbrev pub is_program : List ℕ → Bool
is_program piece = begins_at piece (offset_of piece (0 ∷ []))

-- the line of a piece: a program stands for the request that runs it
abbrev pub line_of : List ℕ → List ℕ
line_of piece = if is_program piece then (codes "[\"run\"," ++ one_line piece) ++ codes "]" else one_line piece

abbrev pub is_goodbye : List ℕ → Bool
is_goodbye line = bytes_eq line (codes "[\"bye\"]")

-- a piece that was found, and those behind it
abbrev pub lines_by : List ℕ → Option Piece → (ℕ → List (List ℕ)) → List (List ℕ)
lines_by blank None more = []
lines_by blank (Some p) more = line_of (slice_range blank p.start p.end) ∷ more p.end

-- the lines of a file without comments from a byte on, so many at most
abbrev pub lines_from : ℕ → List ℕ → ℕ → List (List ℕ)
lines_from zero blank from = []
lines_from (suc most) blank from = lines_by blank (piece_from blank from) (λ at. lines_from most blank at)

-- the lines of a file: each of its pieces has a byte at least
abbrev pub lines_of_file : List ℕ → List (List ℕ)
lines_of_file text = let blank = comments_blanked text in lines_from (length blank) blank 0

-- so many bytes a line of a session may have
abbrev pub longest_line : ℕ
longest_line = 65536

abbrev pub is_long : List ℕ → Bool
is_long line = nat_lt longest_line (length line)

-- a line with its LF
abbrev pub with_end : List ℕ → List ℕ
with_end line = line ++ 10 ∷ []

-- Which requests of a file are refused, where no program is run.

-- ---- one request

-- whether what is told is a refusal
abbrev pub verdict_on : r.Told → Verdict
verdict_on (r.Refused code) = Refused
verdict_on (r.Offends code place) = Refused
verdict_on r.Lost = Refused
verdict_on told = Taken

-- a program that would be run is taken
abbrev pub verdict_by : Step → Verdict
verdict_by (Now told arrays) = verdict_on told
verdict_by (Runs program) = Taken

-- what becomes of a line as the next request of a book
abbrev pub verdict_of : Register → List ℕ → Verdict
verdict_of book line = if takes (room_in book) line then verdict_by (next_step book line) else Full

-- the book behind a line that it takes: what would be run is answered as for want of memory, which changes no array
abbrev pub book_passed : Register → List ℕ → Register
book_passed book line = line_logged book line (is_run (next_step book line))

-- ---- what a verdict says

-- ---- one after another

-- a request that is refused: the bytes of its piece, the value of its line where that is JSON, and the book behind it; neither
-- where the log is full, or the line too long
pub record Refusal : Type 0 where
  pub start : ℕ
  pub end : ℕ
  pub request : Option Data
  pub book : Option Register
  pub is_long : Bool

abbrev pub refusal_of_piece : Piece → List ℕ → Register → Refusal
refusal_of_piece p line book = record { start = p.start; end = p.end; request = value_of line; book = Some book; is_long = false }

abbrev pub no_room : Piece → Refusal
no_room p = record { start = p.start; end = p.end; request = None; book = None; is_long = false }

abbrev pub too_long : Piece → Refusal
too_long p = record { start = p.start; end = p.end; request = None; book = None; is_long = true }

-- what it is told
abbrev pub told_in : Refusal → Option r.Told
told_in one = option_and_then last_told one.book

-- the refusals from a piece on: behind one that finds the log full there are no more
abbrev pub refusals_by : Verdict → Piece → List ℕ → Register → List Refusal → List Refusal
refusals_by Taken p line book behind = behind
refusals_by Refused p line book behind = refusal_of_piece p line book ∷ behind
refusals_by Full p line book behind = no_room p ∷ []

-- the same from a line on: behind a goodbye there is none, and behind a line that is too long
abbrev pub refusals_at : Register → List ℕ → Piece → (Register → List Refusal) → List Refusal
refusals_at book line p behind =
    if is_goodbye line then []
    else (if is_long line then too_long p ∷ [] else refusals_by (verdict_of book line) p line (book_passed book line) (behind (book_passed book line)))

abbrev pub refusals_with : Register → List ℕ → Option Piece → (ℕ → Register → List Refusal) → List Refusal
refusals_with book blank None behind = []
refusals_with book blank (Some p) behind = refusals_at book (line_of (slice_range blank p.start p.end)) p (behind p.end)

-- the requests that are refused in a file without comments from a byte on, of so many pieces at most
abbrev pub refusals_from : ℕ → List ℕ → ℕ → Register → List Refusal
refusals_from zero blank from book = []
refusals_from (suc most) blank from book = refusals_with book blank (piece_from blank from) (λ at b. refusals_from most blank at b)

-- those of a file without comments: each of its pieces has a byte at least
abbrev pub refusals_in : Register → List ℕ → List Refusal
refusals_in book blank = refusals_from (length blank) blank 0 book

-- ---- before the first

abbrev pub and_then : Result (List Named) StoreRefusal → (List Named → Result (List Named) StoreRefusal) → Result (List Named) StoreRefusal
and_then (Ok arrays) more = more arrays
and_then (Err refused) more = Err refused

-- arrays with these names and lengths, made in order behind others
abbrev pub arrays_made : List Named → List (List ℕ × ℕ) → Result (List Named) StoreRefusal
arrays_made arrays [] = Ok arrays
arrays_made arrays (one ∷ others) = and_then (array_created one.0 one.1 usual_limits arrays) (λ now. arrays_made now others)

-- the book that a file finds, where these arrays are there: that of a tenant that begins
abbrev pub finds : List Named → Register
finds arrays = new_register (codes "t1") usual_limits arrays

-- Where in a file a request is refused.

-- the path in a piece to what a path in its line leads to: a program is the second item of its line
abbrev pub path_in_piece : Bool → Path → Path
path_in_piece true path = drop 1 path
path_in_piece false path = path

-- how many bytes of a piece stand before a statement
abbrev pub spot_offset : List ℕ → Spot → Option ℕ
spot_offset piece s = offset_of piece (path_in_piece (is_program piece) s.path)

-- the same of the statement of its request that has this number in replies
abbrev pub statement_offset : Option Data → List ℕ → ℕ → Option ℕ
statement_offset request piece number = option_and_then (λ d. option_and_then (spot_offset piece) (item_numbered number (statements_of d))) request

-- where in a file without comments that statement of a piece stands, or the piece, where it has none
abbrev pub statement_place : Option Data → List ℕ → ℕ → ℕ → ℕ → Place
statement_place request blank start end number =
    place_in blank (start + unwrap_or (statement_offset request (slice_range blank start end) number) 0)

-- a byte of the piece, or the one behind it
pub record IsInPiece (blank : List ℕ) (start end : ℕ) (place : Place) : Type 0 where
  pub offset : ℕ
  pub within : offset ≤ end - start
  pub is : place ≡ place_in blank (start + offset)

-- whether a request runs a program
abbrev pub runs_program : Data → Bool
runs_program (array (item t (item text no_items))) = is_word t (codes "run")
runs_program request = false

-- how many bytes of a piece stand before the first that has a fault in the program that its request runs, over these arrays: the
-- program itself, a statement, or what is of no form
abbrev pub fault_offset : Arrays → List ℕ → Data → Option ℕ
fault_offset shape piece request =
    if runs_program request then option_and_then (λ found. option_and_then (spot_offset piece) (slice_get (spots_of request) found.0)) (first_why shape request)
    else None

-- what is no JSON is told in the piece; what is refused otherwise where its program has a fault, or at the piece
abbrev pub IsPlacedAt : Option Data → Arrays → List ℕ → ℕ → ℕ → Place → Type 0
IsPlacedAt None shape blank start end place = IsInPiece blank start end place
IsPlacedAt (Some request) shape blank start end place =
    place ≡ place_in blank (start + unwrap_or (fault_offset shape (slice_range blank start end) request) 0)

-- an offence is told at the statement that the reply counts
abbrev pub IsPlacedBy : Option r.Told → Option Data → Arrays → List ℕ → ℕ → ℕ → Place → Type 0
IsPlacedBy (Some (r.Offends code number)) request shape blank start end place = place ≡ statement_place request blank start end number
IsPlacedBy (Some (r.Refused code)) request shape blank start end place = IsPlacedAt request shape blank start end place
IsPlacedBy told request shape blank start end place = IsInPiece blank start end place

-- a full log and a line that is too long are told at the piece
abbrev pub IsPlacedIn : Option Register → Option Data → List ℕ → ℕ → ℕ → Place → Type 0
IsPlacedIn None request blank start end place = place ≡ place_in blank start
IsPlacedIn (Some book) request blank start end place = IsPlacedBy (last_told book) request (shape_in book.limits book.store) blank start end place

abbrev pub IsPlaced : List ℕ → Refusal → Place → Type 0
IsPlaced blank refusal place = IsPlacedIn refusal.book refusal.request blank refusal.start refusal.end place

-- How far a file was judged.

-- a file without comments, from which byte on it is still to be judged, and the book that the rest finds
pub record Standing : Type 0 where
  pub blank : List ℕ
  pub from : ℕ
  pub book : Register

abbrev pub standing : List ℕ → ℕ → Register → Standing
standing blank from book = record { blank = blank; from = from; book = book }

-- how many bytes are still to be judged
abbrev pub bytes_left : Standing → ℕ
bytes_left s = length s.blank - s.from

-- these are the refusals that are still to come; so many pieces are left at most
pub record Goes (all : List Refusal) (s : Standing) : Type 0 where
  pub most : ℕ
  pub enough : length s.blank ≤ s.from + most
  pub is : refusals_from most s.blank s.from s.book ≡ all

-- what is found is this refusal
pub record IsSeen (one : Refusal) (f : Finding) : Type 0 where
  pub start : f.start ≡ one.start
  pub end : f.end ≡ one.end
  pub code : f.code ≡ option_and_then code_in (told_in one)
  pub request : option_map view f.request ≡ one.request
  pub long : f.is_long ≡ one.is_long

-- this book is the one behind it, unless it found the log full, or was too long
abbrev pub IsBookBehind : Refusal → Register → Type 0
IsBookBehind one book = (one.book ≡ None) ⊎ (one.book ≡ Some book)
