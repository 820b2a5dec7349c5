-- One tenant: its book, the arrays that it began with, all lines that it asked, what it was told before the book's log, and
-- the spec of its open request.
use Rattle.std.specs.Prelude.{◌≡◌, ◌≤◌, ◌<◌, ◌^◌, ◌+◌, ◌++◌, ◌↔◌, ℕ, List, [], ◌∷◌, map, length, take, Bool, false, Option, Some, IsSome, slice_get, ◌⊎◌, true, if◌then◌else◌, None, unwrap_or, drop, option_map}
use Rattle.ot_check.specs.Jobs.{Spec, AreSame}
use Rattle.ot_store.specs.Arrays.{Named}
use Rattle.ot_book.specs.Answers.{opening, answers, Told, is_lost, Now, is_checkpoint, told_with_numbers}
use Rattle.ot_book.specs.Books.{Register, IsOpenFor, state_in, max_number, line_logged, request_opened, next_step}
use Rattle.ot_book.specs.Room.{Room, empty_room, room_in, room_after, TakesAll, takes}

pub record Account : Type 0 where
  pub book : Register
  pub base : List Named
  pub asked : List (List ℕ)
  pub kept : List Told
  pub spec : Option Spec

-- what it was told: what was kept of it, and then what the book has
abbrev pub told_so_far : Account → List Told
told_so_far a = a.kept ++ map (λ e. e.1) a.book.log

-- how many of its lines were answered
abbrev pub answered_count : Account → ℕ
answered_count a = length a.kept + length a.book.log

-- the lines that were answered, with those answered for want of memory marked
abbrev pub lines_marked : List (List ℕ) → List Told → List (List ℕ × Bool)
lines_marked [] says = []
lines_marked (line ∷ lines) [] = (line, false) ∷ lines_marked lines []
lines_marked (line ∷ lines) (said ∷ says) = (line, is_lost said) ∷ lines_marked lines says

-- what a log of this tenant had room for before its first line
abbrev pub first_room : Account → Room
first_room a = empty_room a.book.limits

-- and has after all lines that it asked
abbrev pub room_asked : Account → Room
room_asked a = room_after (first_room a) a.asked

-- The tenant was told what the first of its lines give from the arrays that it began with, and the book goes on from there.
-- Each line that it asked is taken in its turn, and the book is open for the next one alone.
pub record IsSoundAccount (a : Account) : Type 0 where
  pub whole : answers a.book.limits (opening a.base) (lines_marked (take (answered_count a) a.asked) (told_so_far a)) ≡ (told_so_far a, state_in a.book)
  pub within : answered_count a ≤ length a.asked
  pub room : room_in a.book ≡ room_after (first_room a) (take (answered_count a) a.asked)
  pub taken : TakesAll (first_room a) a.asked
  pub few : length a.asked < 2 ^ 32
  pub next : (line : List ℕ) → a.book.pending ≡ Some line → slice_get a.asked (answered_count a) ≡ Some line
  pub open_both : IsSome a.book.pending ↔ IsSome a.spec
  pub waits : (s : Spec) → a.spec ≡ Some s → IsOpenFor a.book s

-- What a tenant's events do to it.

abbrev pub new_account : Register → Account
new_account book = record { book = book; base = book.base; asked = []; kept = []; spec = None }

-- a line is asked and unopened, and no request is open
abbrev pub IsUnopened : Account → Type 0
IsUnopened a = (answered_count a < length a.asked) × (a.spec ≡ None)

-- the line that comes next
abbrev pub next_line : Account → List ℕ
next_line a = unwrap_or (slice_get a.asked (answered_count a)) []

-- There is no room for the line: as many lines as the log may have were asked since the last checkpoint asked, that line
-- counted, and this line is no checkpoint; or as many were asked in all as may have numbers.
abbrev pub LacksRoom : Account → List ℕ → Type 0
LacksRoom a line = takes (room_asked a) line ≡ false

abbrev pub HasRoomFor : Account → List ℕ → Type 0
HasRoomFor a line = takes (room_asked a) line ≡ true

-- fewer lines were asked in all than may have numbers
abbrev pub MayAsk : Account → Type 0
MayAsk a = length a.asked < max_number

-- the line is asked, or there is no room for it
abbrev pub AdmitsLine : Account → List ℕ → Bool → Account → Type 0
AdmitsLine old line false new = LacksRoom old line × (new ≡ old)
AdmitsLine old line true new = HasRoomFor old line × (new ≡ record old { asked = old.asked ++ line ∷ [] })

-- what is kept of the replies where this line is answered: at a checkpoint all before it
abbrev pub kept_at : Account → List ℕ → List Told
kept_at a line = if is_checkpoint line then told_so_far a else a.kept

-- the next line has its reply, as its request or for want of memory
abbrev pub with_reply : Account → Bool → Account
with_reply a lost = record a { book = line_logged a.book (next_line a) lost; kept = kept_at a (next_line a); spec = None }

-- the next line's request is open
abbrev pub with_open : Account → Spec → Account
with_open a spec = record a { book = request_opened a.book (next_line a); spec = Some spec }

-- the next line's request waits for the job of this spec
pub record Waits (old : Account) (job : Spec) (new : Account) : Type 0 where
  pub spec : Spec
  pub same : AreSame job spec
  pub runs : IsOpenFor (request_opened old.book (next_line old)) spec
  pub new_is : new ≡ with_open old spec

-- the next line is answered at once, for it runs no program or memory ran out, but never for a checkpoint
pub record IsAnswered (old : Account) (new : Account) : Type 0 where
  pub lost : Bool
  pub new_is : new ≡ with_reply old lost
  pub never : is_checkpoint (next_line old) ≡ true → lost ≡ false
  pub at_once : (lost ≡ true) ⊎ ((told : Told) × (arrays : List Named) × (next_step old.book (next_line old) ≡ Now told arrays))

abbrev pub OpensNext : Account → Option Spec → Account → Type 0
OpensNext old None new = IsAnswered old new
OpensNext old (Some job) new = Waits old job new

-- The replies given, with their numbers.

-- the reply at a place, counted from 0
abbrev pub reply_in : Account → ℕ → Option (ℕ × Told)
reply_in a n = option_map (λ said. (n + 1, said)) (slice_get (told_so_far a) n)

-- the replies from a place on
abbrev pub replies_from : Account → ℕ → List (ℕ × Told)
replies_from a n = told_with_numbers (n + 1) (drop n (told_so_far a))

-- all replies given, from number 1 on
abbrev pub replies_of : Account → List (ℕ × Told)
replies_of a = told_with_numbers 1 (told_so_far a)
