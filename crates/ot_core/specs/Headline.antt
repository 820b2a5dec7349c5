-- Where nothing is told for want of memory: after any list of events, refused ones among them, the replies given to each
-- tenant are the first ones of those that its own requests, one after another, each task executed where it is created, give
-- from its own opening arrays; so two worlds that agree on a tenant's requests, limits and arrays never give it replies that
-- differ at one place.
--
-- What is told at a place of the log is a reply without its number: numbers count the places. `answers` of ot_book gives what
-- requests are told, one after another.
use Rattle.std.specs.Prelude.{◌≡◌, ◌≤◌, ℕ, List, map, length, take, false, slice_get, Some}
use Rattle.ot_store.specs.Arrays.{Named}
use Rattle.ot_store.specs.declared.limits.Limits.{Limits}
use Rattle.ot_book.specs.Answers.{Told, is_lost, opening, answers}
use Rattle.ot_core.specs.Accounts.{Account, told_so_far, lines_marked}
use Rattle.ot_core.specs.Scenes.{Scene}

-- ---- one tenant

-- what all lines are told, one after another from these arrays, where want of memory is told as in `says`
abbrev pub due_to : Limits → List Named → List (List ℕ) → List Told → List Told
due_to limits base lines says = (answers limits (opening base) (lines_marked lines says)).0

-- what all lines are told where memory never runs out
abbrev pub due_whole : Limits → List Named → List (List ℕ) → List Told
due_whole limits base lines = (answers limits (opening base) (map (λ line. (line, false)) lines)).0

-- the first of these
abbrev pub AreFirst : List Told → List Told → Type 0
AreFirst says all = says ≡ take (length says) all

-- nothing was told for want of memory
abbrev pub NoneLost : List Told → Type 0
NoneLost says = (i : ℕ) (said : Told) → slice_get says i ≡ Some said → is_lost said ≡ false

-- what the tenant was told is the first of what its own requests are told
abbrev pub IsTold : Account → Type 0
IsTold a = AreFirst (told_so_far a) (due_to a.book.limits a.base a.asked (told_so_far a))

abbrev pub IsToldWhole : Account → Type 0
IsToldWhole a = AreFirst (told_so_far a) (due_whole a.book.limits a.base a.asked)

-- ---- all tenants of a world

abbrev pub TellsAsAlone : Scene → Type 0
TellsAsAlone s = (t : ℕ) (a : Account) → slice_get s.accounts t ≡ Some a → IsTold a × (NoneLost (told_so_far a) → IsToldWhole a)

-- ---- once all lines are answered

-- each line that the tenant asked has its reply, and they are all that its own requests are told
pub record IsToldAll (a : Account) : Type 0 where
  pub many : length (told_so_far a) ≡ length a.asked
  pub all : told_so_far a ≡ due_to a.book.limits a.base a.asked (told_so_far a)
  pub whole : NoneLost (told_so_far a) → told_so_far a ≡ due_whole a.book.limits a.base a.asked

abbrev pub TellsAll : Scene → Type 0
TellsAll s = (t : ℕ) (a : Account) → slice_get s.accounts t ≡ Some a → IsToldAll a

-- ---- two worlds, and what they tell one tenant

-- both asked the same, from the same arrays, within the same limits
pub record AsksSame (a b : Account) : Type 0 where
  pub asked : b.asked ≡ a.asked
  pub base : b.base ≡ a.base
  pub limits : b.book.limits ≡ a.book.limits

-- up to this place want of memory was told at the same places
abbrev pub SameLosses : List Told → List Told → ℕ → Type 0
SameLosses xs ys i = (j : ℕ) (x y : Told) → j ≤ i → slice_get xs j ≡ Some x → slice_get ys j ≡ Some y → is_lost x ≡ is_lost y

-- they don't differ at this place
abbrev pub AgreeAt : List Told → List Told → ℕ → Type 0
AgreeAt xs ys i = (x y : Told) → slice_get xs i ≡ Some x → slice_get ys i ≡ Some y → x ≡ y

-- the same of this tenant in both worlds
abbrev pub AgreeOn : Scene → Scene → ℕ → Type 0
AgreeOn s r t = (a b : Account) → slice_get s.accounts t ≡ Some a → slice_get r.accounts t ≡ Some b → AsksSame a b

abbrev pub NoneLostIn : Scene → ℕ → Type 0
NoneLostIn s t = (a : Account) → slice_get s.accounts t ≡ Some a → NoneLost (told_so_far a)

abbrev pub LostAlike : Scene → Scene → ℕ → ℕ → Type 0
LostAlike s r t i = (a b : Account) → slice_get s.accounts t ≡ Some a → slice_get r.accounts t ≡ Some b → SameLosses (told_so_far a) (told_so_far b) i

abbrev pub ToldAlike : Scene → Scene → ℕ → ℕ → Type 0
ToldAlike s r t i = (a b : Account) → slice_get s.accounts t ≡ Some a → slice_get r.accounts t ≡ Some b → AgreeAt (told_so_far a) (told_so_far b) i
