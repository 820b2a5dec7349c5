-- A whole run of sim: what it hears, and what it writes.
use Rattle.std.specs.Prelude.{◌≡◌, [], ◌<◌, ◌≤◌, ℕ, List, ◌∷◌, ◌++◌, length, All, Option, Result, Err, ⊤}
use Rattle.std.specs.Io.KnownBytes.{Appends, Consumes}
use Rattle.ot_lines.specs.Lines.{HasNoEnd, lines_ended}
use Rattle.ot_sim.specs.declared.play.Play.{Play}
use Rattle.ot_sim.specs.declared.fault.SimFault.{SimFault}
use Rattle.ot_sim.specs.declared.fault.SimFault.TheVariants.{WriteFailed, Memory, LongLine}
use Rattle.ot_sim.specs.Playing.{PlaysLine, empty_play}

-- bytes of a line, without its LF
abbrev pub max_sim_line : ℕ
max_sim_line = 65600

-- a line, or the beginning of one
abbrev pub IsSimLine : List ℕ → Type 0
IsSimLine line = HasNoEnd line × (length line ≤ max_sim_line)

-- one line after another
abbrev pub PlaysAll : Play → List (List ℕ) → List ℕ → Play → Type 0
PlaysAll old [] text new = (text ≡ []) × (new ≡ old)
PlaysAll old (line ∷ lines) text new =
    (mid : Play) × (first : List ℕ) × (more : List ℕ) × PlaysLine old line first mid × PlaysAll mid lines more new × (text ≡ first ++ more)

-- These bytes were heard: the lines in them, of which each is answered whole, and what stands behind the last LF.
pub record Talks (bytes rest : List ℕ) (start held : Option (List ℕ)) (play : Play) : Type 0 where
  pub lines : List (List ℕ)
  pub heard : bytes ≡ lines_ended lines ++ rest
  pub are : All IsSimLine lines
  pub text : List ℕ
  pub plays : PlaysAll empty_play lines text play
  pub writes : Appends start held text

-- all lines are answered, and the rest is none
pub record TalksAll (bytes : List ℕ) (start held : Option (List ℕ)) : Type 0 where
  pub rest : List ℕ
  pub is_rest : IsSimLine rest
  pub play : Play
  pub talks : Talks bytes rest start held play

-- all lines are answered up to one that is too long
pub record StopsAtLong (bytes : List ℕ) (start held : Option (List ℕ)) : Type 0 where
  pub front : List ℕ
  pub behind : List ℕ
  pub no_end : HasNoEnd front
  pub long : max_sim_line < length front
  pub play : Play
  pub talks : Talks bytes (front ++ behind) start held play

-- by the result; what was written where memory or a write failed isn't said
abbrev pub TalksBy : List ℕ → Option (List ℕ) → Option (List ℕ) → Result ⊤ SimFault → Type 0
TalksBy bytes start held (Err LongLine) = StopsAtLong bytes start held
TalksBy bytes start held (Err WriteFailed) = Unit {0}
TalksBy bytes start held (Err Memory) = Unit {0}
TalksBy bytes start held result = TalksAll bytes start held

-- over the bytes that were read
pub record TalksOver (ahead left start held : Option (List ℕ)) (result : Result ⊤ SimFault) : Type 0 where
  pub bytes : List ℕ
  pub reads : Consumes ahead left bytes
  pub talks : TalksBy bytes start held result
