-- What a tenant's events do to its account.
use Rattle.std.proofs.Common.{◌≡◌, ◌<◌, ◌≤◌, ◌+◌, ◌^◌, inl, inr, ℕ, List, [], ◌∷◌, ◌++◌, length, map, take, refl, sym, ap, ◌∙◌, subst, arith, append_assoc, Bool, true, false, true≢false}
use Rattle.std.proofs.Math.Logic.{∥∥₁_elim}
use Rattle.std.specs.Coded.{Coded, Coded-set, codes}
use Rattle.std.specs.Prelude.{Option, Some, None, IsSome, is_some, nat_le, if◌then◌else◌, slice_get, unwrap_or}
use Rattle.std.proofs.lemmas.Bool.{le-leb}
use Rattle.std.proofs.lemmas.Bool.Decides.{leb_tells}
use Rattle.std.proofs.lemmas.Option.{none-some, same_Some, slice_get_within, slice_get-get_or, get_or_from_slice_get, unwrap_or-slice_get}
use Rattle.std.proofs.lemmas.List.{length-map, length-take, length-append, map-append, take-append-le, take_more, get_or_append_left}
use Rattle.ot_model.specs.Programs.{expanded_of}
use Rattle.ot_check.specs.Jobs.{Spec}
use Rattle.ot_book.specs.Answers.{State, opening, answers, answer_or_lost, is_checkpoint, Told, is_lost}
use Rattle.ot_book.specs.Books.{Register, IsOpenFor, max_number, register_with_line, log_cleared, line_logged, request_opened, open_line, state_in, IsFullFor, AnswersNow, OpensLine}
use Rattle.ot_book.specs.declared.book.Opened.{Opened}
use Rattle.ot_book.specs.declared.book.Opened.TheVariants.{Full, Answered, ToRun}
use Rattle.ot_book.specs.Room.{Room, takes, with_entry, empty_room, room_after, TakesAll}
use Rattle.ot_book.proofs.BookLemmas.{answers-more, is_lost-answer_or_lost, state-cleared, state-logged, logged-by, runs-other}
use Rattle.ot_book.proofs.RoomLemmas.{room-logged, takes-free, room_after-append, takes_all-more, takes_all-at}
use Rattle.ot_core.specs.Accounts.{Account, told_so_far, answered_count, lines_marked, first_room, room_asked, IsSoundAccount, IsUnopened, Waits, with_reply, with_open, next_line}
use Rattle.ot_core.specs.AccountView.{account_of, IsTenant}
use Rattle.ot_core.specs.declared.tenant.Tenant.TheInside.{Inside}

bool_code : Coded Bool
bool_code = Prim.hlevel codes

pub the_some : {A : Type 0} (o : Option A) → IsSome o → (x : A) × (o ≡ Some x)
the_some None some = absurd (true≢false (sym some))
the_some (Some x) some = (x, refl)

pub none-from : {A : Type 0} (o : Option A) → (IsSome o → ⊥) → o ≡ None
none-from None not = refl
none-from (Some x) not = absurd (not refl)

pub answered-≤ : (a : Account) → IsSoundAccount a → answered_count a ≤ length a.asked
answered-≤ a sound = sound.within

pub length-told : (a : Account) → length (told_so_far a) ≡ answered_count a
length-told a = omega (arith, length-append a.kept (map (λ (e : List ℕ × Told). e.1) a.book.log), length-map a.book.log (λ (e : List ℕ × Told). e.1))

next-asked : (a : Account) → answered_count a < length a.asked → slice_get a.asked (answered_count a) ≡ Some (next_line a)
next-asked a below = slice_get-get_or a.asked (answered_count a) [] below ∙ ap Some (sym (unwrap_or-slice_get a.asked (answered_count a) []))

line-next : (a : Account) (line : List ℕ) → slice_get a.asked (answered_count a) ≡ Some line → next_line a ≡ line
line-next a line is = ap (λ o. unwrap_or o []) is

-- the number of the next line is one more than that of those answered
pub next_after : (r : Room) (ls : List (List ℕ)) → (room_after r ls).next ≡ r.next + length ls
next_after r [] = omega arith
next_after r (l ∷ ls) = omega (arith, next_after (with_entry r l) ls)

takes-within : (r : Room) (line : List ℕ) → takes r line ≡ true → r.next < 2 ^ 32
takes-within r line is = elim (leb_tells r.next max_number) [
  | inl at ↦ omega (arith, at.1)
  | inr at ↦ absurd (true≢false (sym is ∙ ap (λ t. if t then (if nat_le r.limit r.entries then is_checkpoint line else true) else false) at.0))
]

pub sound-admitted : (a : Account) (line : List ℕ) → IsSoundAccount a → takes (room_asked a) line ≡ true → IsSoundAccount (record a { asked = a.asked ++ line ∷ [] })
sound-admitted a line sound room =
    let n = answered_count a in
    let same : take n (a.asked ++ line ∷ []) ≡ take n a.asked = take-append-le n a.asked (line ∷ []) sound.within in
    let few : (room_asked a).next < 2 ^ 32 = takes-within (room_asked a) line room in record {
      whole = ap (λ ls. answers a.book.limits (opening a.base) (lines_marked ls (told_so_far a))) same ∙ sound.whole;
      within = omega (arith, sound.within, length-append a.asked (line ∷ []));
      room = sound.room ∙ ap (room_after (first_room a)) (sym same);
      taken = takes_all-more (first_room a) a.asked line sound.taken room;
      few = omega (arith, few, next_after (first_room a) a.asked, length-append a.asked (line ∷ []));
      next = λ l is.
          let was = sound.next l is in
          let below = slice_get_within a.asked n l was in
          slice_get-get_or (a.asked ++ line ∷ []) n l (omega (arith, below, length-append a.asked (line ∷ [])))
          ∙ ap Some (get_or_append_left a.asked (line ∷ []) l n below ∙ get_or_from_slice_get a.asked n l l was);
      open_both = sound.open_both;
      waits = sound.waits;
    }

-- ---- the next line has its reply

-- what was told, and the reply behind it
abbrev pub said_next : Account → Bool → Told
said_next a lost = (answer_or_lost a.book.limits (state_in a.book) (next_line a) lost).0

pub told-replied : (a : Account) (lost : Bool) → told_so_far (with_reply a lost) ≡ told_so_far a ++ said_next a lost ∷ []
told-replied a lost = by (is_checkpoint (next_line a))
  where
    by : (test : Bool) → (if test then told_so_far a else a.kept) ++ map (λ (e : List ℕ × Told). e.1) (if test then register_with_line (log_cleared a.book) (next_line a) lost else register_with_line a.book (next_line a) lost).log ≡ told_so_far a ++ said_next a lost ∷ []
    by true = ap (λ s. told_so_far a ++ (answer_or_lost a.book.limits s (next_line a) lost).0 ∷ []) (state-cleared a.book)
    by false = ap (λ l. a.kept ++ l) (map-append (λ (e : List ℕ × Told). e.1) a.book.log ((next_line a, said_next a lost) ∷ []))
        ∙ sym (append_assoc a.kept (map (λ (e : List ℕ × Told). e.1) a.book.log) (said_next a lost ∷ []))

pub answered-replied : (a : Account) (lost : Bool) → answered_count (with_reply a lost) ≡ answered_count a + 1
answered-replied a lost =
    omega (arith, length-told (with_reply a lost), length-told a, ap length (told-replied a lost), length-append (told_so_far a) (said_next a lost ∷ []))

-- the marks of lines that were all answered, and of further ones
pub marked-append : (lines rest : List (List ℕ)) (says more : List Told) → length lines ≡ length says → lines_marked (lines ++ rest) (says ++ more) ≡ lines_marked lines says ++ lines_marked rest more
marked-append [] rest [] more many = refl
marked-append [] rest (s ∷ says) more many = absurd (omega (arith, many))
marked-append (l ∷ lines) rest [] more many = absurd (omega (arith, many))
marked-append (l ∷ lines) rest (s ∷ says) more many = ap (λ (r : List (List ℕ × Bool)). (l, is_lost s) ∷ r) (marked-append lines rest says more (omega (arith, many)))

-- the lines answered are one more
taken-more : (a : Account) → answered_count a < length a.asked → take (answered_count a + 1) a.asked ≡ take (answered_count a) a.asked ++ next_line a ∷ []
taken-more a below =
    take_more a.asked (answered_count a) [] below ∙ ap (λ l. take (answered_count a) a.asked ++ l ∷ []) (sym (unwrap_or-slice_get a.asked (answered_count a) []))

book-replied : (a : Account) (lost : Bool) → ((with_reply a lost).book.limits ≡ a.book.limits) × ((with_reply a lost).book.pending ≡ None)
book-replied a lost =
    logged-by (λ r. (r.limits ≡ a.book.limits) × (r.pending ≡ None)) a.book (next_line a) lost (is_checkpoint (next_line a)) refl (λ _. (refl, refl)) (λ _. (refl, refl))

entries-replied : (a : Account) (lost : Bool) → (room_asked (with_reply a lost)).entries ≡ (room_asked a).entries
entries-replied a lost = ap (λ l. (room_after (empty_room l) a.asked).entries) (book-replied a lost).0

-- an open request is no checkpoint
pub open-other : (b : Register) (s : Spec) → IsOpenFor b s → is_checkpoint (open_line b) ≡ false
open-other b s opens =
    ∥∥₁_elim opens.asks (Coded-set bool_code (is_checkpoint (open_line b)) false) (λ asks. runs-other b.limits b.store b.used (open_line b) (expanded_of s.checked.program) asks)

sound-replied : (a : Account) (lost : Bool) → IsSoundAccount a → answered_count a < length a.asked → IsSoundAccount (with_reply a lost)
sound-replied a lost sound below =
    let n = answered_count a in
    let line = next_line a in
    let said = said_next a lost in
    let b = with_reply a lost in
    let limits = a.book.limits in
    let count : answered_count b ≡ n + 1 = answered-replied a lost in
    let lines : take (answered_count b) a.asked ≡ take n a.asked ++ line ∷ [] = ap (λ k. take k a.asked) count ∙ taken-more a below in
    let many : length (take n a.asked) ≡ length (told_so_far a) = omega (arith, sound.within, length-take n a.asked, length-told a) in
    let now : b.book.limits ≡ limits = (book-replied a lost).0 in
    let pending = (book-replied a lost).1 in record {
      whole =
          ap (λ l. answers l (opening a.base) (lines_marked (take (answered_count b) a.asked) (told_so_far b))) now
          ∙ ap (λ ls. answers limits (opening a.base) (lines_marked ls (told_so_far b))) lines
          ∙ ap (λ says. answers limits (opening a.base) (lines_marked (take n a.asked ++ line ∷ []) says)) (told-replied a lost)
          ∙ ap (answers limits (opening a.base)) (marked-append (take n a.asked) (line ∷ []) (told_so_far a) (said ∷ []) many)
          ∙ ap (λ m. answers limits (opening a.base) (lines_marked (take n a.asked) (told_so_far a) ++ (line, m) ∷ [])) (is_lost-answer_or_lost limits (state_in a.book) line lost)
          ∙ answers-more limits (opening a.base) (lines_marked (take n a.asked) (told_so_far a)) (line, lost)
          ∙ ap (λ (r : List Told × State). (r.0 ++ (answer_or_lost limits r.1 line lost).0 ∷ [], (answer_or_lost limits r.1 line lost).1)) sound.whole
          ∙ ap (λ says. (says, (answer_or_lost limits (state_in a.book) line lost).1)) (sym (told-replied a lost))
          ∙ ap (λ s. (told_so_far b, s)) (sym (state-logged a.book line lost));
      within = omega (arith, count, below);
      room =
          room-logged a.book line lost
          ∙ ap (λ r. with_entry r line) sound.room
          ∙ sym (room_after-append (first_room a) (take n a.asked) (line ∷ []))
          ∙ ap (room_after (first_room a)) (sym lines)
          ∙ ap (λ l. room_after (empty_room l) (take (answered_count b) a.asked)) (sym now);
      taken = subst (λ l. TakesAll (empty_room l) a.asked) (sym now) sound.taken;
      few = sound.few;
      next = λ l is. absurd (none-some l (sym pending ∙ is));
      open_both = ((λ some. absurd (true≢false (sym some ∙ ap is_some pending))), (λ some. absurd (true≢false (sym some))));
      waits = λ s is. absurd (none-some s is);
    }

-- and so is the tenant
pub tenant-replied : (a : Account) (lost : Bool) (t : Inside) → IsSoundAccount a → answered_count a < length a.asked → t.since ≡ (room_asked a).entries → account_of t ≡ with_reply a lost → IsTenant t
tenant-replied a lost t sound below since is = record {
  sound = subst IsSoundAccount (sym is) (sound-replied a lost sound below);
  since = since ∙ sym (entries-replied a lost) ∙ ap (λ b. (room_asked b).entries) (sym is);
}

-- the line that was read is the next one
pub read-next : (a now : Account) (line : List ℕ) (n : ℕ) → a ≡ now → line ≡ unwrap_or (slice_get a.asked n) [] → n ≡ answered_count now → line ≡ next_line a
read-next a now line n is read next = read ∙ ap (λ k. unwrap_or (slice_get a.asked k) []) (next ∙ ap answered_count (sym is))

-- the next line's request is open
pub sound-opened : (a : Account) (s : Spec) → IsSoundAccount a → answered_count a < length a.asked → IsOpenFor (request_opened a.book (next_line a)) s → IsSoundAccount (with_open a s)
sound-opened a s sound below runs = record {
  whole = sound.whole;
  within = sound.within;
  room = sound.room;
  taken = sound.taken;
  few = sound.few;
  next = λ l is. next-asked a below ∙ is;
  open_both = ((λ _. refl), (λ _. refl));
  waits = λ t is. subst (IsOpenFor (request_opened a.book (next_line a))) (same_Some s t is) runs;
}

-- the book takes the next line
pub free-next : (a : Account) → IsSoundAccount a → IsUnopened a → ¬ (IsFullFor a.book (next_line a))
free-next a sound unopened =
    let at = next-asked a unopened.0 in
    let closed : a.book.pending ≡ None = none-from a.book.pending (λ some. absurd (true≢false (sym (sound.open_both.0 some) ∙ ap is_some unopened.1))) in
    takes-free a.book (next_line a) closed (ap (λ r. takes r (next_line a)) sound.room ∙ takes_all-at (first_room a) a.asked (answered_count a) (next_line a) sound.taken at)

-- an open request is that of the next line
pub pending-next : (a : Account) → IsSoundAccount a → IsSome a.spec → a.book.pending ≡ Some (next_line a)
pending-next a sound waiting =
    let p = the_some a.book.pending (sound.open_both.1 waiting) in
    p.1 ∙ ap Some (sym (line-next a p.0 (sound.next p.0 p.1)))

pub below-open : (a : Account) → IsSoundAccount a → IsSome a.spec → answered_count a < length a.asked
below-open a sound waiting =
    let is = pending-next a sound waiting in
    slice_get_within a.asked (answered_count a) (next_line a) (sound.next (next_line a) is)

-- the next line is no checkpoint: nothing more is kept
pub reply-kept : (a : Account) (lost : Bool) (book : Register) (spec : Option Spec) → is_checkpoint (next_line a) ≡ false → book ≡ line_logged a.book (next_line a) lost → spec ≡ None →
    with_reply a lost ≡ record a { book = book; spec = spec }
reply-kept a lost book spec other logs gone =
    rw (logs, gone, other) refl

-- the open request is answered
pub closed-is : (a : Account) (lost : Bool) (book : Register) (spec : Option Spec) → IsSoundAccount a → IsSome a.spec
    → book ≡ line_logged a.book (open_line a.book) lost → spec ≡ None
    → with_reply a lost ≡ record a { book = book; spec = spec }
closed-is a lost book spec sound waiting logs gone =
    let same : open_line a.book ≡ next_line a = ap (λ o. unwrap_or o []) (pending-next a sound waiting) in
    let s = the_some a.spec waiting in
    reply-kept a lost book spec (ap is_checkpoint (sym same) ∙ open-other a.book s.0 (sound.waits s.0 s.1)) (logs ∙ ap (λ l. line_logged a.book l lost) same) gone

-- the next line is answered at once, and is no checkpoint
pub answered-is : (a : Account) (book : Register) (line : List ℕ) (lost : Bool) → is_checkpoint line ≡ false → line ≡ next_line a → book ≡ line_logged a.book line lost → a.spec ≡ None
    → record a { book = book } ≡ with_reply a lost
answered-is a book line lost other at is closed =
    sym (reply-kept a lost book a.spec (ap is_checkpoint (sym at) ∙ other) (is ∙ ap (λ l. line_logged a.book l lost) at) closed)

-- it is a checkpoint: all that was told is kept
pub checkpoint-is : (a : Account) (book : Register) (kept : List Told) (line : List ℕ) → is_checkpoint line ≡ true → line ≡ next_line a → book ≡ line_logged a.book line false →
    kept ≡ told_so_far a → a.spec ≡ None → record a { book = book; kept = kept } ≡ with_reply a false
checkpoint-is a book kept line asks at is all closed =
    rw (all, is, at, ← closed, ap is_checkpoint (sym at) ∙ asks) refl

-- its request is open
pub opened-is : (a : Account) (book : Register) (line : List ℕ) (s : Spec) → line ≡ next_line a → book ≡ request_opened a.book line
    → record a { book = book; spec = Some s } ≡ with_open a s
opened-is a book line s at is = ap (λ b. record a { book = b; spec = Some s }) (is ∙ ap (request_opened a.book) at)

-- a line whose request waits for a job is no checkpoint
pub never-waits : (a b : Account) (s : Spec) (lost : Bool) → Waits a s b → is_checkpoint (next_line a) ≡ true → lost ≡ false
never-waits a b s lost waits asks = absurd (true≢false (sym asks ∙ open-other (request_opened a.book (next_line a)) waits.spec waits.runs))

-- ---- a line is asked

-- one line more, where the room is counted by what was asked since the last checkpoint
pub entries-admitted : (a : Account) (line : List ℕ) → (room_asked (record a { asked = a.asked ++ line ∷ [] })).entries ≡ (if is_checkpoint line then 1 else (room_asked a).entries + 1)
entries-admitted a line = ap (λ (r : Room). r.entries) (room_after-append (first_room a) a.asked (line ∷ []))

limit-after : (r : Room) (ls : List (List ℕ)) → (room_after r ls).limit ≡ r.limit
limit-after r [] = refl
limit-after r (l ∷ ls) = limit-after (with_entry r l) ls

-- where a number is left, the log decides
takes-is : (a : Account) (line : List ℕ) → length a.asked < max_number →
    takes (room_asked a) line ≡ (if nat_le a.book.limits.log (room_asked a).entries then is_checkpoint line else true)
takes-is a line left =
    let r = room_asked a in
    let within : r.next ≤ max_number = omega (arith, next_after (first_room a) a.asked, left) in
    ap (λ t. if t then (if nat_le r.limit r.entries then is_checkpoint line else true) else false) (le-leb r.next max_number within)
    ∙ ap (λ l. if nat_le l r.entries then is_checkpoint line else true) (limit-after (first_room a) a.asked)

-- a test by the numbers that are kept is the definition's
pub test-takes : (a : Account) (line : List ℕ) (log since : ℕ) (checkpoint test : Bool) → length a.asked < max_number →
    test ≡ (if nat_le log since then checkpoint else true) → log ≡ a.book.limits.log → since ≡ (room_asked a).entries → checkpoint ≡ is_checkpoint line →
    test ≡ takes (room_asked a) line
test-takes a line log since checkpoint test left is logs sinces asks =
    rw (is, logs, sinces, asks) (sym (takes-is a line left))

-- a line more may be counted
entries-≤ : (r : Room) (ls : List (List ℕ)) → (room_after r ls).entries ≤ r.entries + length ls
entries-≤ r [] = omega arith
entries-≤ r (l ∷ ls) = omega (arith, entries-≤ (with_entry r l) ls, one (is_checkpoint l))
  where
    one : (t : Bool) → (if t then 1 else r.entries + 1) ≤ r.entries + 1
    one true = omega arith
    one false = omega arith

pub entries-asked : (a : Account) → (room_asked a).entries ≤ length a.asked
entries-asked a = omega (arith, entries-≤ (first_room a) a.asked)

-- no number is left, or the log is at its limit and the line is no checkpoint
pub full-past : (a : Account) (line : List ℕ) → max_number ≤ length a.asked → takes (room_asked a) line ≡ false
full-past a line past = elim (leb_tells (room_asked a).next max_number) [
  | inl at ↦ absurd (omega (arith, at.1, past, next_after (first_room a) a.asked))
  | inr at ↦ ap (λ t. if t then (if nat_le (room_asked a).limit (room_asked a).entries then is_checkpoint line else true) else false) at.0
]

-- a checkpoint for which there is room is answered
pub checkpoint-answered : (b new : Register) (line : List ℕ) (o : Opened) → is_checkpoint line ≡ true → ¬ (IsFullFor b line) → OpensLine b line new o → (o ≡ Answered → ⊥) → ⊥
checkpoint-answered b new line Full asks free opens not = free opens.0
checkpoint-answered b new line Answered asks free opens not = not refl
checkpoint-answered b new line (ToRun spec) asks free opens not =
    true≢false (sym asks ∙ ap (λ r. is_checkpoint (open_line r)) (sym opens.1) ∙ open-other new spec opens.2)

pub checkpoint-logged : (b new : Register) (line : List ℕ) → is_checkpoint line ≡ true → AnswersNow b line new → new ≡ line_logged b line false
checkpoint-logged b new line asks now = now.new_is ∙ ap (line_logged b line) (now.never asks)
