-- What stands in a line while it is heard.
use Rattle.std.specs.Prelude.{◌≡◌, [], ◌≤◌, ◌++◌, ◌∷◌, ℕ, suc, List, length, take, drop, Bool, true, false, Option, Some, None, Result, Ok, Err}
use Rattle.std.specs.Io.KnownBytes.{IsAtEnd}
use Rattle.ot_lines.specs.declared.lines.Heard.{Heard}
use Rattle.ot_lines.specs.declared.lines.Heard.TheVariants.{Line, End, Long}
use Rattle.ot_lines.specs.declared.lines.LineFault.{LineFault}
use Rattle.ot_lines.specs.declared.lines.LineFault.TheVariants.{ReadFailed, TooManyReads}
use Rattle.ot_lines.specs.Lines.{Flow, HasNoEnd, Hearing, IsAmid, IsIdle, Passes, failures_by}

-- so many bytes more stand in the line
abbrev pub bytes_taken : ℕ → Hearing → Hearing
bytes_taken n h = record h { line = h.line ++ take n h.ahead; since = h.since ++ take n h.ahead; ahead = drop n h.ahead }

-- the next byte is heard, and doesn't stand in the line
abbrev pub byte_passed : Hearing → Hearing
byte_passed h = record h { since = h.since ++ take 1 h.ahead; ahead = drop 1 h.ahead }

-- the line's end, if any
abbrev pub end_of : Option Heard → List ℕ
end_of (Some Line) = 10 ∷ []
end_of result = []

abbrev pub IsCut : Hearing → Option Heard → Type 0
IsCut h (Some Line) = (length h.line ≤ h.longest) × IsAmid h
IsCut h (Some Long) = (length h.line ≡ suc h.longest) × IsAmid h
IsCut h (Some End) = ⊥
IsCut h None = IsIdle h

-- the line grew by bytes from the front of what was read
pub record Cuts (old new : Hearing) (result : Option Heard) : Type 0 where
  pub piece : List ℕ
  pub line : new.line ≡ old.line ++ piece
  pub passes : (f : Flow) → Passes old f new f (piece ++ end_of result) 0 0
  pub left : new.left ≡ old.left
  pub clean : HasNoEnd piece
  pub is : IsCut new result

abbrev pub ends_at : Result Bool LineFault → ℕ
ends_at (Ok false) = 1
ends_at result = 0

-- what is so behind a read
abbrev pub IsFilled : Hearing → Hearing → Flow → Result Bool LineFault → Type 0
IsFilled old new f (Ok true) = suc new.left ≡ old.left
IsFilled old new f (Ok false) = (new.ahead ≡ []) × IsAtEnd f.ahead
IsFilled old new f (Err ReadFailed) = new.ahead ≡ []
IsFilled old new f (Err TooManyReads) = (new.ahead ≡ []) × (new.left ≡ 0)

-- the line stands, and more was read
pub record Fills (old : Hearing) (before : Flow) (new : Hearing) (after : Flow) (result : Result Bool LineFault) : Type 0 where
  pub line : new.line ≡ old.line
  pub passes : Passes old before new after [] (failures_by result) (ends_at result)
  pub is : IsFilled old new after result
