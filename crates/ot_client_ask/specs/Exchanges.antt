-- A line of a client and its reply.
use Rattle.std.specs.Prelude.{◌≡◌, ℕ, Bool, true, false, if◌then◌else◌, List, Result, Ok, Err, ◌+◌, Option, Some, None, ⊤}
use Rattle.ot_session.specs.Serving.{Writes}
use Rattle.ot_client_ask.specs.Streams.{sent_for, GivesLineOrRest, GivesLine, HasFailed, Incoming, is_last, is_refusal}
use Rattle.ot_client_ask.specs.declared.asked.Tally.{Tally}
use Rattle.ot_client_ask.specs.declared.asked.Asked.{Asked}
use Rattle.ot_client_ask.specs.declared.asked.Asked.TheVariants.{AllTaken, SomeRefused}
use Rattle.ot_client_ask.specs.declared.asked.AskFault.{AskFault}
use Rattle.ot_client_ask.specs.declared.asked.AskFault.TheVariants.{Memory, ReadFailed}
use Rattle.ot_client_ask.specs.declared.exchange.Step.{Step}
use Rattle.ot_client_ask.specs.declared.exchange.Step.TheVariants as step
use Rattle.ot_client_ask.specs.Asking.{asked_tally, Ways, IsPrintedReply, SaysBye, IsCutShort, BreaksBy}

-- the first refusal, where none stands before this one
abbrev pub first_or : Option ℕ → ℕ → Option ℕ
first_or None number = Some number
first_or (Some first) number = Some first

-- with one reply more, which refuses its line or doesn't
abbrev pub with_reply : Tally → Bool → Tally
with_reply t is_refused =
    if is_refused then asked_tally (t.lines + 1) (t.refused + 1) (first_or t.first_refused (t.lines + 1)) else asked_tally (t.lines + 1) t.refused t.first_refused

-- what a client comes to whose lines were all answered
abbrev pub asked_of : Bool → Asked
asked_of false = AllTaken
asked_of true = SomeRefused

-- and what it comes to with one reply more
abbrev pub asked_after : Asked → Bool → Asked
asked_after asked is_refused = if is_refused then SomeRefused else asked

-- what was read, and what is to be sent for it
abbrev pub ReadsToSend : Incoming → Incoming → List ℕ → Result ⊤ AskFault → Type 0
ReadsToSend old new line (Ok done) = (given : List ℕ) × GivesLineOrRest old new given × (line ≡ sent_for given)
ReadsToSend old new line (Err ReadFailed) = HasFailed old new
ReadsToSend old new line (Err Memory) = ⊤
ReadsToSend old new line (Err fault) = ⊥

module _ (Says : List ℕ → List ℕ → Type 0) where
  -- a line is read and sent, and its reply heard and printed, with what may be said behind it
  pub record IsAnswered (old new : Ways) (is_refused : Bool) : Type 0 where
    pub line : List ℕ
    pub reply : List ℕ
    pub reads : GivesLineOrRest old.typed new.typed line
    pub sends : Writes old.link.sent new.link.sent (sent_for line)
    pub hears : GivesLine old.link.heard new.link.heard reply
    pub text : List ℕ
    pub shows : IsPrintedReply Says reply text
    pub prints : Writes old.printed new.printed text
    pub goes_on : is_last reply ≡ false
    pub told : is_refused ≡ is_refusal reply

  -- one line, by what it came to
  abbrev pub TakesOneLine : Ways → Ways → Result Step AskFault → Type 0
  TakesOneLine old new (Ok (step.Answered is_refused)) = IsAnswered old new is_refused
  TakesOneLine old new (Ok step.Bye) = SaysBye old new
  TakesOneLine old new (Ok step.CutShort) = IsCutShort old new
  TakesOneLine old new (Err fault) = BreaksBy Says fault old new
