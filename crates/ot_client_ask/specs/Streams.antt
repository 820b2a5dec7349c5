-- The lines between a client and a server.
use Rattle.std.specs.Prelude.{◌≡◌, ◌⊎◌, ℕ, false, List, Option, IfSome, Result, Ok, Err, ◌==◌, ◌&&◌, ◌||◌, ◌-◌, nat_le, Bool, true, if◌then◌else◌, [], ◌∷◌, ◌++◌, length, take, slice_get, unwrap_or, codes, bytes_eq}
use Rattle.std.specs.Io.KnownBytes.{Consumes, IsAtEnd}
use Rattle.ot_session.specs.Serving.{Draft, Writes, BreaksOffIn, next_count}
use Rattle.ot_client_ask.specs.declared.stream.LineEnd.{LineEnd}
use Rattle.ot_client_ask.specs.declared.stream.LineEnd.TheVariants.{Whole, Cut}
use Rattle.ot_client_ask.specs.declared.stream.ReadFault.{ReadFault}
use Rattle.ot_client_ask.specs.declared.stream.ReadFault.TheVariants.{Failed, Memory}
use Rattle.std.specs.Io.{StopsAt}
use Rattle.ot_lines.specs.Goodbyes.{is_bye}

-- the last byte is an LF
abbrev pub is_ended : List ℕ → Bool
is_ended bytes = unwrap_or (slice_get bytes (length bytes - 1)) 0 == 10

-- one LF, at the end
abbrev pub IsWhole : List ℕ → Type 0
IsWhole bytes = (is_ended bytes ≡ true) × StopsAt bytes 10

-- ---- what is sent

-- `["hello","NAME"]` and an LF
abbrev pub hello_line : List ℕ → List ℕ
hello_line name = codes "[\"hello\",\"" ++ name ++ codes "\"]\n"

-- the goodbye
abbrev pub goodbye : List ℕ
goodbye = codes "[\"bye\"]\n"

-- for what was read of the input: the line, which gets an LF where it has none, and a goodbye at the end
abbrev pub sent_for : List ℕ → List ℕ
sent_for [] = goodbye
sent_for (b ∷ bs) = if is_ended (b ∷ bs) then b ∷ bs else (b ∷ bs) ++ 10 ∷ []

-- a line with its LF is the goodbye
abbrev pub says_bye : List ℕ → Bool
says_bye line = is_bye (take (length line - 1) line)

-- ---- what is heard

abbrev pub begins_with : List ℕ → List ℕ → Bool
begins_with front bytes = nat_le (length front) (length bytes) && bytes_eq (take (length front) bytes) front

-- the greeting of a server
abbrev pub is_welcome : List ℕ → Bool
is_welcome reply = begins_with (codes "[\"hello\",") reply

-- a line is refused
abbrev pub is_refusal : List ℕ → Bool
is_refusal reply = begins_with (codes "[\"err\",") reply

-- the session ends with this reply: the log is full, or the line too long
abbrev pub is_last : List ℕ → Bool
is_last reply = bytes_eq reply (codes "[\"full\"]\n") || bytes_eq reply (codes "[\"long\"]\n")

-- the tenant has another session
abbrev pub busy_text : List ℕ
busy_text = codes "[\"err\",0,409]\n"

-- there is no such tenant
abbrev pub unknown_text : List ℕ
unknown_text = codes "[\"err\",0,404]\n"

-- What lines come from, as contracts see it.

abbrev pub Known : Type 0
Known = Option (List ℕ)

-- the bytes still to come, where they are known, and how often it told its end and failed
pub record Incoming : Type 0 where
  pub ahead : Known
  pub ends : ℕ
  pub failures : ℕ

abbrev pub incoming : Known → ℕ → ℕ → Incoming
incoming ahead ends failures = record { ahead = ahead; ends = ends; failures = failures }

-- ---- what comes in

-- the end was told once, and where the bytes are known none is left
pub record HasEnded (old new : Incoming) : Type 0 where
  pub told : new.ends ≡ next_count old.ends
  pub worked : new.failures ≡ old.failures
  pub none_left : IfSome old.ahead (λ bytes. IsAtEnd new.ahead)

-- a read failed
pub record HasFailed (old new : Incoming) : Type 0 where
  pub untold : new.ends ≡ old.ends
  pub failed : new.failures ≡ next_count old.failures

-- it is over, in one of these two ways
abbrev pub IsStreamOver : Incoming → Incoming → Type 0
IsStreamOver old new = HasEnded old new ⊎ HasFailed old new

-- a whole line comes
pub record GivesLine (old new : Incoming) (line : List ℕ) : Type 0 where
  pub bytes : Consumes old.ahead new.ahead line
  pub whole : IsWhole line
  pub untold : new.ends ≡ old.ends
  pub worked : new.failures ≡ old.failures

-- bytes without an LF come, maybe none, and then the end
pub record GivesRest (old new : Incoming) (rest : List ℕ) : Type 0 where
  pub bytes : Consumes old.ahead new.ahead rest
  pub open_line : is_ended rest ≡ false
  pub ended : HasEnded old new

-- one reading of a line, by what it came to
abbrev pub ReadsLine : Incoming → Incoming → List ℕ → Result LineEnd ReadFault → Type 0
ReadsLine old new line (Ok Whole) = GivesLine old new line
ReadsLine old new line (Ok Cut) = GivesRest old new line
ReadsLine old new line (Err Failed) = Consumes old.ahead new.ahead line × HasFailed old new
ReadsLine old new line (Err Memory) = Consumes old.ahead new.ahead line

-- a line or the rest comes
abbrev pub GivesLineOrRest : Incoming → Incoming → List ℕ → Type 0
GivesLineOrRest old new line = GivesLine old new line ⊎ GivesRest old new line

-- the stream ends or fails before a whole line has come
abbrev pub IsLost : Incoming → Incoming → Type 0
IsLost old new = ((rest : List ℕ) × GivesRest old new rest) ⊎ HasFailed old new

-- ---- to and from a server

-- what is still to be heard, and what was sent
pub record Link : Type 0 where
  pub heard : Incoming
  pub sent : Draft

abbrev pub link : Incoming → Draft → Link
link heard sent = record { heard = heard; sent = sent }

-- the line can't be sent whole, and nothing is heard, or the stream is over before a whole reply
abbrev pub IsUnanswered : List ℕ → Link → Link → Type 0
IsUnanswered line old new =
    (BreaksOffIn old.sent new.sent line × (new.heard ≡ old.heard)) ⊎ (Writes old.sent new.sent line × IsLost old.heard new.heard)
