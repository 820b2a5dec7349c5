-- How a tenant is saved.
use Rattle.std.specs.Prelude.{◌≡◌, ◌⊎◌, ◌+◌, ℕ, List, [], ◌∷◌, ◌++◌, Result, Ok, Err, ◌≢◌, All, length, map, ⊤, Bool, true, false, MatchResult}
use Rattle.ot_store.specs.Arrays.{Named}
use Rattle.ot_client_ask.specs.Asking.{GreetsServer}
use Rattle.ot_session.specs.Serving.{Draft, Writes, BreaksOffIn}
use Rattle.ot_client_ask.specs.Streams.{Link, IsWhole}
use Rattle.ot_client_ask.specs.declared.asked.AskFault.{AskFault}
use Rattle.ot_client_keep.specs.Files.{Makes, file_text, AreLines, IsNoFile, Reply, Taken, Used, Listed}
use Rattle.ot_client_keep.specs.Questions.{Question, Checkpoint, Units, StopsAsking, AsksInTurn, Arrays, Free, Line, TurnFails, Turn, SendsBye, arrays_turns}
use Rattle.ot_client_keep.specs.declared.fault.KeepFault.{KeepFault}
use Rattle.ot_client_keep.specs.declared.fault.KeepFault.TheVariants.{Ask, WriteFailed, Differs, HasArrays, NotWhole, Refused, StrangeReply}
use Rattle.ot_client_keep.specs.declared.saving.Saved.{Saved}
use Rattle.std.specs.List.{concat}
use Rattle.ot_client_keep.specs.declared.restoring.Restored.{Restored}

-- what is asked and told: a checkpoint, the used units, the arrays, and a checkpoint again
abbrev pub saving_turns : List Named → ℕ → ℕ → ℕ → List (Question × Reply)
saving_turns arrays used first last =
    (Checkpoint, Taken first) ∷ (Units, Used used) ∷ (arrays_turns arrays ++ (Checkpoint, Taken last) ∷ [])

-- the server has told a tenant's arrays, and the number of the next request and the used units
pub record HasTold (old new : Link) (arrays : List Named) (next used : ℕ) : Type 0 where
  pub first : ℕ
  pub last : ℕ
  pub talk : AsksInTurn old new (saving_turns arrays used first last)
  pub number : next ≡ last + 1

-- Behind a greeting the server has told all that is saved; this is its text.
pub record IsText (name : List ℕ) (old new : Link) (next used : ℕ) (text : List ℕ) : Type 0 where
  pub greeted : Link
  pub arrays : List Named
  pub session : List ℕ
  pub greets : GreetsServer name old greeted (Ok tt)
  pub told : HasTold greeted new arrays next used
  pub makes : Makes arrays session
  pub is : text ≡ file_text session next used

-- There is no session, or it stops before a request is answered.
abbrev pub IsUnheld : List ℕ → Link → Link → KeepFault → Type 0
IsUnheld name old new fault =
    ((why : AskFault) × (fault ≡ Ask why) × GreetsServer name old new (Err why))
    ⊎ ((greeted : Link) × GreetsServer name old greeted (Ok tt) × StopsAsking greeted new fault)

-- a save, by what it came to
abbrev pub Saves : List ℕ → Link → Link → Draft → Draft → Result Saved KeepFault → Type 0
Saves name old new earlier later (Ok saved) =
    (told : Link) × (text : List ℕ) × IsText name old told saved.next saved.used text × Writes earlier later text × SendsBye told new
Saves name old new earlier later (Err WriteFailed) =
    (next : ℕ) × (used : ℕ) × (text : List ℕ) × IsText name old new next used text × BreaksOffIn earlier later text
Saves name old new earlier later (Err fault) = IsUnheld name old new fault × (later ≡ earlier)

-- How a tenant is restored.

-- ---- before the file's lines

-- the tenant has no array, and its log begins anew
abbrev pub HasNone : Link → Link → Type 0
HasNone old new = (number : ℕ) × AsksInTurn old new ((Arrays, Listed []) ∷ (Checkpoint, Taken number) ∷ [])

-- it has some
abbrev pub HasSome : Link → Link → Type 0
HasSome old new = (found : List (List ℕ × ℕ)) × Turn Arrays old new (Listed found) × (found ≢ [])

-- why it isn't seen to have none
abbrev pub NoneFails : Link → Link → KeepFault → Type 0
NoneFails old new HasArrays = HasSome old new
NoneFails old new fault = StopsAsking old new fault

-- these arrays are freed, one after another
pub record AreFreed (found : List (List ℕ × ℕ)) (old new : Link) : Type 0 where
  pub turns : List (Question × Reply)
  pub asked : map (λ t. t.0) turns ≡ map (λ a. Free a.0) found
  pub talk : AsksInTurn old new turns

-- its log begins anew, and the arrays that are told then are freed
pub record HasLost (old new : Link) : Type 0 where
  pub number : ℕ
  pub found : List (List ℕ × ℕ)
  pub listed : Link
  pub talk : AsksInTurn old listed ((Checkpoint, Taken number) ∷ (Arrays, Listed found) ∷ [])
  pub freed : AreFreed found listed new

-- the tenant is ready for the file's lines, with the arrays that it had replaced, or without any
abbrev pub IsClear : Bool → Link → Link → Type 0
IsClear true old new = HasLost old new
IsClear false old new = HasNone old new

abbrev pub SeesNone : Link → Link → Result ⊤ KeepFault → Type 0
SeesNone old new result = MatchResult result (λ done. HasNone old new) (NoneFails old new)

abbrev pub FreesAll : Link → Link → Result ⊤ KeepFault → Type 0
FreesAll old new result = MatchResult result (λ done. HasLost old new) (StopsAsking old new)

-- why the tenant isn't ready
abbrev pub ClearFails : Bool → Link → Link → KeepFault → Type 0
ClearFails true old new fault = StopsAsking old new fault
ClearFails false old new fault = NoneFails old new fault

abbrev pub Clears : Bool → Link → Link → Result ⊤ KeepFault → Type 0
Clears replace old new result = MatchResult result (λ done. IsClear replace old new) (ClearFails replace old new)

-- ---- the file's lines

-- these lines are sent one after another, and each is taken
pub record AreTaken (lines : List (List ℕ)) (old new : Link) : Type 0 where
  pub turns : List (Question × Reply)
  pub asked : map (λ t. t.0) turns ≡ map Line lines
  pub talk : AsksInTurn old new turns

-- all lines of a session are taken
pub record IsTaken (session : List ℕ) (old new : Link) : Type 0 where
  pub lines : List (List ℕ)
  pub whole : All IsWhole lines
  pub all : concat lines ≡ session
  pub taken : AreTaken lines old new

-- the lines before a line are taken, and it isn't; its number is counted from 1
pub record IsRefused (session : List ℕ) (old new : Link) (number : ℕ) : Type 0 where
  pub lines : List (List ℕ)
  pub line : List ℕ
  pub rest : List ℕ
  pub whole : All IsWhole (lines ++ line ∷ [])
  pub is : concat lines ++ (line ++ rest) ≡ session
  pub mid : Link
  pub taken : AreTaken lines old mid
  pub fails : TurnFails (Line line) mid new StrangeReply
  pub count : number ≡ length lines + 1

abbrev pub TakesSession : List ℕ → Link → Link → Result ⊤ KeepFault → Type 0
TakesSession session old new (Ok done) = IsTaken session old new
TakesSession session old new (Err (Refused number)) = IsRefused session old new number
TakesSession session old new (Err fault) = StopsAsking old new fault

-- ---- behind them

-- these arrays are told, and this is a session that makes them
pub record AreMade (old new : Link) (session : List ℕ) : Type 0 where
  pub arrays : List Named
  pub talk : AsksInTurn old new (arrays_turns arrays)
  pub makes : Makes arrays session

abbrev pub Compares : List ℕ → Link → Link → Result ⊤ KeepFault → Type 0
Compares session old new (Ok done) = AreMade old new session
Compares session old new (Err Differs) = (told : List ℕ) × AreMade old new told × (told ≢ session)
Compares session old new (Err fault) = StopsAsking old new fault

-- ---- all of it

-- Behind a greeting the tenant is clear, the session's lines are taken, and the arrays that are told then are those that it
-- makes.
pub record IsRestored (name : List ℕ) (replace : Bool) (old new : Link) (session : List ℕ) : Type 0 where
  pub greeted : Link
  pub clear : Link
  pub sent : Link
  pub told : Link
  pub greets : GreetsServer name old greeted (Ok tt)
  pub clears : IsClear replace greeted clear
  pub takes : IsTaken session clear sent
  pub makes : AreMade sent told session
  pub bye : SendsBye told new

-- A restore, by what it came to. Nothing is sent where the file is no file's text. That the tenant has arrays is told where they
-- aren't to be replaced alone.
abbrev pub Restores : List ℕ → List ℕ → Bool → Link → Link → Result Restored KeepFault → Type 0
Restores name file replace old new (Ok restored) =
    (session : List ℕ) × AreLines session × (file ≡ file_text session restored.next restored.used) × IsRestored name replace old new session
Restores name file replace old new (Err NotWhole) = (new ≡ old) × IsNoFile file
Restores name file replace old new (Err HasArrays) =
    (replace ≡ false) × ((greeted : Link) × GreetsServer name old greeted (Ok tt) × HasSome greeted new)
Restores name file replace old new (Err (Refused number)) =
    (session : List ℕ)
    × (greeted : Link)
    × (clear : Link)
    × GreetsServer name old greeted (Ok tt)
    × IsClear replace greeted clear
    × IsRefused session clear new number
    × ((next : ℕ) × (used : ℕ) × (file ≡ file_text session next used))
Restores name file replace old new (Err Differs) =
    (session : List ℕ)
    × (told : List ℕ)
    × (greeted : Link)
    × (clear : Link)
    × (sent : Link)
    × GreetsServer name old greeted (Ok tt)
    × IsClear replace greeted clear
    × IsTaken session clear sent
    × AreMade sent new told
    × (told ≢ session)
    × ((next : ℕ) × (used : ℕ) × (file ≡ file_text session next used))
Restores name file replace old new (Err fault) = IsUnheld name old new fault
