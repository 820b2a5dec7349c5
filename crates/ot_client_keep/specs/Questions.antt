-- What is asked of a server, and what it answers.
use Rattle.std.specs.Prelude.{◌≡◌, ◌==◌, ℕ, Bool, true, false, if◌then◌else◌, List, [], ◌∷◌, ◌++◌, length, codes, decimal, Option, Some, None, option_and_then, ⊤, ◌⊎◌, map}
use Rattle.ot_session.specs.Serving.{Writes, BreaksOffIn}
use Rattle.ot_client_ask.specs.Streams.{GivesLine, IsUnanswered, Link, IsStreamOver}
use Rattle.ot_client_ask.specs.declared.asked.AskFault.TheVariants as ask
use Rattle.ot_client_keep.specs.Files.{Reply, Taken, Used, Listed, Cells, reply_in, bye_line}
use Rattle.ot_client_keep.specs.declared.fault.KeepFault.{KeepFault}
use Rattle.ot_client_keep.specs.declared.fault.KeepFault.TheVariants.{Ask, StrangeReply}
use Rattle.ot_store.specs.Arrays.{Named, arrays_listed}

pub data Question : Type 0 where
  Checkpoint : Question
  Units : Question
  Arrays : Question
  CellsOf : List ℕ → ℕ → Question
  Free : List ℕ → Question
  Line : List ℕ → Question

-- `["get","NAME",0,LEN]` and an LF
abbrev pub cells_line : List ℕ → ℕ → List ℕ
cells_line name len = codes "[\"get\",\"" ++ name ++ codes "\",0," ++ decimal len ++ codes "]\n"

-- `["free","NAME"]` and an LF
abbrev pub free_line : List ℕ → List ℕ
free_line name = codes "[\"free\",\"" ++ name ++ codes "\"]\n"

-- the line that is sent
abbrev pub question_line : Question → List ℕ
question_line Checkpoint = codes "[\"checkpoint\"]\n"
question_line Units = codes "[\"used\"]\n"
question_line Arrays = codes "[\"list\"]\n"
question_line (CellsOf name len) = cells_line name len
question_line (Free name) = free_line name
question_line (Line line) = line

-- the reply is of the kind that the request asks for
abbrev pub fits_question : Question → Reply → Bool
fits_question Checkpoint (Taken n) = true
fits_question Units (Used units) = true
fits_question Arrays (Listed arrays) = true
fits_question (CellsOf name len) (Cells cells) = length cells == len
fits_question (Free name) (Taken n) = true
fits_question (Line line) (Taken n) = true
fits_question question reply = false

-- what a line tells in answer to a request
abbrev pub answer_to : Question → List ℕ → Option Reply
answer_to question line = option_and_then (λ r. if fits_question question r then Some r else None) (reply_in line)

-- a line is sent, and this one heard
pub record IsReplied (line : List ℕ) (old new : Link) (reply : List ℕ) : Type 0 where
  pub sends : Writes old.sent new.sent line
  pub hears : GivesLine old.heard new.heard reply

-- a request is sent, and what it asks for is heard
pub record Turn (question : Question) (old new : Link) (reply : Reply) : Type 0 where
  pub line : List ℕ
  pub replied : IsReplied (question_line question) old new line
  pub told : answer_to question line ≡ Some reply

-- why it isn't
abbrev pub TurnFails : Question → Link → Link → KeepFault → Type 0
TurnFails question old new (Ask ask.Closed) = IsUnanswered (question_line question) old new
TurnFails question old new (Ask ask.Memory) = ⊤
TurnFails question old new StrangeReply = (line : List ℕ) × IsReplied (question_line question) old new line × (answer_to question line ≡ None)
TurnFails question old new fault = ⊥

-- ---- one after another

-- requests with what they are told
abbrev pub AsksInTurn : Link → Link → List (Question × Reply) → Type 0
AsksInTurn old new [] = new ≡ old
AsksInTurn old new (t ∷ ts) = (mid : Link) × Turn t.0 old mid t.1 × AsksInTurn mid new ts

-- some are told what they ask for, and then one isn't
pub record StopsAsking (old new : Link) (fault : KeepFault) : Type 0 where
  pub turns : List (Question × Reply)
  pub last : Link
  pub talk : AsksInTurn old last turns
  pub question : Question
  pub fails : TurnFails question last new fault

-- How a tenant's arrays are asked for, and how a session ends.

abbrev pub array_sized : Named → List ℕ × ℕ
array_sized array = (array.0, length array.1)

-- all cells of an array are asked for, and these are told
abbrev pub cells_turn : Named → Question × Reply
cells_turn array = (CellsOf array.0 (length array.1), Cells array.1)

-- the names are asked for, and then the cells of each array, and these are told
abbrev pub arrays_turns : List Named → List (Question × Reply)
arrays_turns arrays = (Arrays, Listed (arrays_listed arrays)) ∷ map cells_turn arrays

-- A goodbye, or a front of it where the server has gone, is sent, and then the server's stream is over.
pub record SendsBye (old new : Link) : Type 0 where
  pub sends : Writes old.sent new.sent bye_line ⊎ BreaksOffIn old.sent new.sent bye_line
  pub waits : IsStreamOver old.heard new.heard
