-- The greeting.
use Rattle.std.specs.Prelude.{◌≡◌, [], ◌⊎◌, ◌-◌, ◌^◌, ◌&&◌, ℕ, Bool, true, false, List, ◌∷◌, ◌++◌, length, map, take, Result, Ok, Err, ◌||◌, ◌+◌, Option, None, ◌≢◌, ⊤}
use Rattle.std.specs.List.{All, AllZip, concat, list_any, filter, position_from}
use Rattle.std.specs.Io.KnownBytes.{Consumes}
use Rattle.ot_session.specs.Serving.{Draft, Writes, BreaksOffIn}
use Rattle.ot_client_ask.specs.Streams.{IsWhole, goodbye, is_last, is_refusal, says_bye, sent_for, GivesLineOrRest, GivesLine, HasFailed, Incoming, IsLost, IsStreamOver, Link, link, busy_text, hello_line, is_welcome, unknown_text, IsUnanswered}
use Rattle.ot_client_ask.specs.declared.asked.Tally.{Tally}
use Rattle.ot_client_ask.specs.declared.asked.Asked.{Asked}
use Rattle.ot_client_ask.specs.declared.asked.Asked.TheVariants.{AllTaken, SomeRefused, CutShort}
use Rattle.ot_client_ask.specs.declared.asked.AskFault.{AskFault}
use Rattle.ot_client_ask.specs.declared.asked.AskFault.TheVariants.{Closed, Memory, ReadFailed, TooManyLines, WriteFailed, Busy, StrangeGreeting, UnknownTenant}
use Rattle.ot_program.specs.Meanings.{is_name}

-- the server's answer to a greeting is this line
pub record IsGreeted (name : List ℕ) (old new : Link) (reply : List ℕ) : Type 0 where
  pub named : is_name name ≡ true
  pub sends : Writes old.sent new.sent (hello_line name)
  pub hears : GivesLine old.heard new.heard reply

-- a line that answers no greeting
pub record IsStrange (reply : List ℕ) : Type 0 where
  pub no_welcome : is_welcome reply ≡ false
  pub not_busy : reply ≢ busy_text
  pub not_unknown : reply ≢ unknown_text

-- a greeting, by what it came to
abbrev pub GreetsServer : List ℕ → Link → Link → Result ⊤ AskFault → Type 0
GreetsServer name old new (Ok done) = (reply : List ℕ) × IsGreeted name old new reply × (is_welcome reply ≡ true)
GreetsServer name old new (Err Busy) = IsGreeted name old new busy_text
GreetsServer name old new (Err UnknownTenant) = ((is_name name ≡ false) × (new ≡ old)) ⊎ IsGreeted name old new unknown_text
GreetsServer name old new (Err StrangeGreeting) = (reply : List ℕ) × IsGreeted name old new reply × IsStrange reply
GreetsServer name old new (Err Closed) = IsUnanswered (hello_line name) old new
GreetsServer name old new (Err Memory) = ⊤
GreetsServer name old new (Err fault) = ⊥

-- How many lines of a client were answered.

-- a reply says that its line isn't taken
abbrev pub is_untaken : List ℕ → Bool
is_untaken reply = is_refusal reply || is_last reply

abbrev pub asked_tally : ℕ → ℕ → Option ℕ → Tally
asked_tally lines refused first_refused = record { lines = lines; refused = refused; first_refused = first_refused }

-- the tally of these replies
abbrev pub tally_of : List (List ℕ) → Tally
tally_of replies = asked_tally (length replies) (length (filter is_untaken replies)) (position_from is_untaken 1 replies)

-- that of none
abbrev pub none_counted : Tally
none_counted = asked_tally 0 0 None

-- What a client reads, sends, hears and prints.

-- the lines to come, the stream to and from the server, and what was printed
pub record Ways : Type 0 where
  pub typed : Incoming
  pub link : Link
  pub printed : Draft

abbrev pub ways : Incoming → Incoming → Draft → Draft → Ways
ways typed heard sent printed = record { typed = typed; link = link heard sent; printed = printed }

-- ---- what is said behind replies

-- nothing is said
abbrev pub is_silent : List ℕ → List ℕ → Type 0
is_silent reply remarks = remarks ≡ []

-- a reply as it is printed, with what may be said behind it
abbrev pub IsPrintedReply : (List ℕ → List ℕ → Type 0) → List ℕ → List ℕ → Type 0
IsPrintedReply Says reply text = (remarks : List ℕ) × Says reply remarks × (text ≡ reply ++ remarks)

-- ---- one line

-- A goodbye is read and sent, or the lines are over and one is sent, and then the server's stream is over.
pub record SaysBye (old new : Ways) : Type 0 where
  pub line : List ℕ
  pub reads : GivesLineOrRest old.typed new.typed line
  pub sends : Writes old.link.sent new.link.sent (sent_for line)
  pub bye : says_bye (sent_for line) ≡ true
  pub waits : IsStreamOver old.link.heard new.link.heard
  pub prints : new.printed ≡ old.printed

-- The server ends the session with this reply, which is printed, and then its stream is over. Of the line that it doesn't
-- take maybe only a front was sent.
pub record IsCutShort (old new : Ways) : Type 0 where
  pub line : List ℕ
  pub reply : List ℕ
  pub mid : Incoming
  pub reads : GivesLineOrRest old.typed new.typed line
  pub sends : Writes old.link.sent new.link.sent (sent_for line) ⊎ BreaksOffIn old.link.sent new.link.sent (sent_for line)
  pub hears : GivesLine old.link.heard mid reply
  pub waits : IsStreamOver mid new.link.heard
  pub prints : Writes old.printed new.printed reply
  pub last : is_last reply ≡ true

module _ (Says : List ℕ → List ℕ → Type 0) where
  -- Where something goes wrong: which failure it was, and that nothing more is printed, but of a reply that can't be printed
  -- a front.
  abbrev pub BreaksBy : AskFault → Ways → Ways → Type 0
  BreaksBy ReadFailed old new = HasFailed old.typed new.typed × (new.link.sent ≡ old.link.sent) × (new.printed ≡ old.printed)
  BreaksBy Closed old new =
      (((line : List ℕ) × BreaksOffIn old.link.sent new.link.sent (sent_for line)) ⊎ IsLost old.link.heard new.link.heard) × (new.printed ≡ old.printed)
  BreaksBy WriteFailed old new =
      (reply : List ℕ)
      × (text : List ℕ)
      × GivesLine old.link.heard new.link.heard reply
      × ((text ≡ reply) ⊎ IsPrintedReply Says reply text)
      × BreaksOffIn old.printed new.printed text
  BreaksBy Memory old new = new.printed ≡ old.printed
  BreaksBy fault old new = ⊥

-- ---- all lines

-- behind a refusal a goodbye is sent, and then the server's stream is over; or it can't be sent
abbrev pub LeavesServer : Link → Link → Result Asked AskFault → Type 0
LeavesServer old new (Ok SomeRefused) = Writes old.sent new.sent goodbye × IsStreamOver old.heard new.heard
LeavesServer old new (Err Closed) = BreaksOffIn old.sent new.sent goodbye × (new.heard ≡ old.heard)
LeavesServer old new result = ⊥

-- the replies that were printed are counted, also the one that ends the session
abbrev pub Counts : List (List ℕ) → Result Asked AskFault → Tally → Type 0
Counts replies (Ok CutShort) tally = (last : List ℕ) × (is_last last ≡ true) × (tally ≡ tally_of (replies ++ last ∷ []))
Counts replies result tally = tally ≡ tally_of replies

module _ (Says : List ℕ → List ℕ → Type 0) where
  -- Lines are read and sent in order, and for each one whole reply is heard and printed, with what may be said behind it. Nothing
  -- fails.
  pub record Talk (old new : Ways) (is_refused : Bool) : Type 0 where
    pub lines : List (List ℕ)
    pub replies : List (List ℕ)
    pub each : length replies ≡ length lines
    pub reads : Consumes old.typed.ahead new.typed.ahead (concat lines)
    pub sends : Writes old.link.sent new.link.sent (concat (map sent_for lines))
    pub hears : Consumes old.link.heard.ahead new.link.heard.ahead (concat replies)
    pub texts : List (List ℕ)
    pub shows : AllZip (IsPrintedReply Says) replies texts
    pub prints : Writes old.printed new.printed (concat texts)
    pub whole : All IsWhole replies
    pub goes_on : All (λ reply. is_last reply ≡ false) replies
    pub told : is_refused ≡ list_any is_refusal replies
    pub typed_worked : new.typed.failures ≡ old.typed.failures
    pub heard_worked : new.link.heard.failures ≡ old.link.heard.failures
    pub heard_untold : new.link.heard.ends ≡ old.link.heard.ends

  -- what comes of the lines behind so many that were answered
  abbrev pub GoesOn : ℕ → Ways → Ways → Bool → Result Asked AskFault → Type 0
  GoesOn count old new is_refused (Ok AllTaken) = (is_refused ≡ false) × SaysBye old new
  GoesOn count old new is_refused (Ok SomeRefused) = (is_refused ≡ true) × SaysBye old new
  GoesOn count old new is_refused (Ok CutShort) = IsCutShort old new
  GoesOn count old new is_refused (Err TooManyLines) = (count ≡ 2 ^ 64 - 1) × (new ≡ old)
  GoesOn count old new is_refused (Err fault) = BreaksBy Says fault old new

  -- What comes behind so many lines that were answered. Where the session stops at the last of them, no line is read any more.
  abbrev pub EndsAfter : Bool → ℕ → Ways → Ways → Bool → Result Asked AskFault → Type 0
  EndsAfter true count old new is_refused result = LeavesServer old.link new.link result × (new.typed ≡ old.typed) × (new.printed ≡ old.printed)
  EndsAfter false count old new is_refused result = GoesOn count old new is_refused result

  -- Lines that are answered, and then an end. A session that is to stop at a refusal stops behind the first reply that is one.
  pub record Talks (stop : Bool) (old new : Ways) (result : Result Asked AskFault) (tally : Tally) : Type 0 where
    pub last : Ways
    pub is_refused : Bool
    pub talk : Talk old last is_refused
    pub first : stop ≡ true → All (λ reply. is_refusal reply ≡ false) (take (length talk.replies - 1) talk.replies)
    pub ends : EndsAfter (stop && is_refused) (length talk.lines) last new is_refused result
    pub counts : Counts talk.replies result tally

  -- a session of a client: the greeting, and the lines behind it, or a greeting that isn't answered with a welcome
  abbrev pub Asks : List ℕ → Bool → Ways → Ways → Result Asked AskFault → Tally → Type 0
  Asks name stop old new result tally =
      ((greeted : Link) × GreetsServer name old.link greeted (Ok tt) × Talks stop (record old { link = greeted }) new result tally)
      ⊎ ((fault : AskFault)
      × (result ≡ Err fault)
      × GreetsServer name old.link new.link (Err fault)
      × (new.typed ≡ old.typed)
      × (new.printed ≡ old.printed)
      × (tally ≡ none_counted))

-- A line that is read to be sent, and a reply that is heard.

-- a whole reply, or none
abbrev pub HearsReply : Incoming → Incoming → List ℕ → Result ⊤ AskFault → Type 0
HearsReply old new reply (Ok done) = GivesLine old new reply
HearsReply old new reply (Err Closed) = IsLost old new
HearsReply old new reply (Err Memory) = ⊤
HearsReply old new reply (Err fault) = ⊥
