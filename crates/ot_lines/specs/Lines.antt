-- How a source counts, and what it tells of itself.
use Rattle.std.specs.Prelude.{◌≡◌, [], ◌≢◌, ◌<◌, ◌≤◌, ◌+◌, ◌++◌, ◌∷◌, ℕ, suc, List, length, slice_index, Option, Result, Ok, Err, zero, ◌%◌, ◌^◌, All, ⊤}
use Rattle.std.specs.Io.KnownBytes.{Consumes, IsAtEnd, prepend_known}
use Rattle.ot_lines.specs.declared.lines.Bounds.{Bounds}
use Rattle.ot_lines.specs.declared.lines.Heard.{Heard}
use Rattle.ot_lines.specs.declared.lines.Heard.TheVariants.{Line, End, Long}
use Rattle.ot_lines.specs.declared.lines.LineFault.{LineFault}
use Rattle.ot_lines.specs.declared.lines.LineFault.TheVariants.{ReadFailed, TooManyReads}
use Rattle.ot_lines.specs.declared.listener.Ended.{Ended}
use Rattle.ot_lines.specs.declared.listener.Ended.TheVariants as over

-- a count after one more, in the 64 bits that a source counts with
abbrev pub next_count : ℕ → ℕ
next_count n = (n + 1) % 2 ^ 64

-- a count after k more
abbrev pub count_after : ℕ → ℕ → ℕ
count_after zero n = n
count_after (suc k) n = (n + suc k) % 2 ^ 64

-- The bytes that a source has ahead, where they are known; how many its last read gave; how often it was read, failed,
-- and told the end.
pub record Flow : Type 0 where
  pub ahead : Option (List ℕ)
  pub latest : ℕ
  pub reads : ℕ
  pub failures : ℕ
  pub ends : ℕ

abbrev pub flow : Option (List ℕ) → ℕ → ℕ → ℕ → ℕ → Flow
flow ahead latest reads failures ends = record { ahead = ahead; latest = latest; reads = reads; failures = failures; ends = ends }

-- Lines of a stream, however its bytes are read.

-- no LF stands in the bytes
abbrev pub HasNoEnd : List ℕ → Type 0
HasNoEnd bytes = (k : ℕ) → k < length bytes → slice_index bytes k ≢ 10

-- The line that was heard last; what was heard since the last read; what was read and isn't heard yet; how often may be
-- read still; how many bytes a line may have, without its LF; how many a read takes at most.
pub record Hearing : Type 0 where
  pub line : List ℕ
  pub since : List ℕ
  pub ahead : List ℕ
  pub left : ℕ
  pub longest : ℕ
  pub most : ℕ

-- nothing is heard yet
abbrev pub hearing_opened : Bounds → Hearing
hearing_opened bounds = record { line = []; since = []; ahead = []; left = bounds.reads; longest = bounds.line; most = bounds.read }

-- what is still to be heard
abbrev pub stream : Hearing → Flow → Option (List ℕ)
stream h f = prepend_known h.ahead f.ahead

-- These bytes of the stream were heard: where nothing was read, from the front of what had been read. What was heard since
-- the last read stands last among them, and that read gave no less than it and what isn't heard yet. So many failures and
-- ends were told, and each other read gave a byte at least.
pub record Passes (old : Hearing) (before : Flow) (new : Hearing) (after : Flow) (bytes : List ℕ) (failures ends : ℕ) : Type 0 where
  pub heard : Consumes (stream old before) (stream new after) bytes
  pub earlier : List ℕ
  pub since : old.since ++ bytes ≡ earlier ++ new.since
  pub latest : length old.since + length old.ahead ≤ before.latest → length new.since + length new.ahead ≤ after.latest
  pub longest : new.longest ≡ old.longest
  pub most : new.most ≡ old.most
  pub reads : ℕ
  pub unread : reads ≡ 0 → old.ahead ≡ bytes ++ new.ahead
  pub left : reads + new.left ≡ old.left
  pub gave : reads + length old.ahead ≤ length bytes + length new.ahead + (failures + ends)
  pub counted : after.reads ≡ count_after reads before.reads
  pub failed : after.failures ≡ count_after failures before.failures
  pub ended : after.ends ≡ count_after ends before.ends

-- the bytes that were heard, where this line stands behind them
abbrev pub heard_by : Result Heard LineFault → List ℕ → List ℕ
heard_by (Ok Line) line = line ++ 10 ∷ []
heard_by result line = line

-- how many failures are told
abbrev pub failures_by : {A : Type 0} → Result A LineFault → ℕ
failures_by (Err ReadFailed) = 1
failures_by result = 0

-- how many ends are told
abbrev pub ends_by : Result Heard LineFault → ℕ
ends_by (Ok End) = 1
ends_by result = 0

-- All that was read is heard, and no line in it is too long.
pub record IsIdle (h : Hearing) : Type 0 where
  pub short : length h.line ≤ h.longest
  pub none : h.ahead ≡ []

-- some of what the last read gave was heard, and no read gives more than it may
pub record IsAmid (h : Hearing) : Type 0 where
  pub some : 0 < length h.since
  pub within : length h.since + length h.ahead ≤ h.most

-- what stands in the line, by the result
abbrev pub IsHeard : Hearing → Flow → Result Heard LineFault → Type 0
IsHeard h f (Ok Line) = (length h.line ≤ h.longest) × IsAmid h
IsHeard h f (Ok Long) = (length h.line ≡ suc h.longest) × IsAmid h
IsHeard h f (Ok End) = IsIdle h × IsAtEnd f.ahead
IsHeard h f (Err ReadFailed) = IsIdle h
IsHeard h f (Err TooManyReads) = IsIdle h × (h.left ≡ 0)

-- A line and its LF; or a rest at the end of input, or one byte too many, or what was heard before a fault.
pub record Hears (old : Hearing) (before : Flow) (new : Hearing) (after : Flow) (result : Result Heard LineFault) : Type 0 where
  pub passes : Passes old before new after (heard_by result new.line) (failures_by result) (ends_by result)
  pub clean : HasNoEnd new.line
  pub is : IsHeard new after result

-- Who listens to a stream takes its lines one after another.

-- lines, each ended by one LF
abbrev pub lines_ended : List (List ℕ) → List ℕ
lines_ended [] = []
lines_ended (line ∷ lines) = line ++ 10 ∷ lines_ended lines

-- one line, and no longer than one may be
pub record IsLine (longest : ℕ) (line : List ℕ) : Type 0 where
  pub clean : HasNoEnd line
  pub short : length line ≤ longest

-- how many ends are told
abbrev pub ends_in : {X : Type 0} → Result (Ended X) LineFault → ℕ
ends_in (Ok over.End) = 1
ends_in result = 0

module _ {S A X : Type 0} (took : S → A → List ℕ → S → A → Result ⊤ X → Type 0) where
  -- one line after another was taken, and the next one may be
  abbrev pub Went : S → A → List (List ℕ) → S → A → Type 0
  Went old answers [] new told = (new ≡ old) × (told ≡ answers)
  Went old answers (line ∷ lines) new told = (mid : S) × (more : A) × took old answers line mid more (Ok tt) × Went mid more lines new told

  -- The lines of the stream were taken one after another, and then this rest of it was heard.
  pub record Through (from : Hearing) (before : Flow) (old : S) (answers : A) (to : Hearing) (after : Flow) (new : S) (told : A) (rest : List ℕ) (failures ends : ℕ) : Type 0 where
    pub lines : List (List ℕ)
    pub are : All (IsLine from.longest) lines
    pub passes : Passes from before to after (lines_ended lines ++ rest) failures ends
    pub went : Went old answers lines new told

  -- the last line stopped who listens
  pub record Stops (from : Hearing) (before : Flow) (old : S) (answers : A) (to : Hearing) (after : Flow) (new : S) (told : A) (why : X) : Type 0 where
    pub mid : S
    pub more : A
    pub through : Through from before old answers to after mid more (to.line ++ 10 ∷ []) 0 0
    pub is : IsLine from.longest to.line
    pub amid : IsAmid to
    pub last : took mid more to.line new told (Err why)

  -- the rest without its LF, by the result
  abbrev pub IsRest : Hearing → Flow → Result (Ended X) LineFault → Type 0
  IsRest h f (Ok over.End) = IsIdle h × IsAtEnd f.ahead
  IsRest h f (Ok over.Long) = (length h.line ≡ suc h.longest) × IsAmid h
  IsRest h f (Ok (over.Stopped why)) = ⊥
  IsRest h f (Err ReadFailed) = IsIdle h
  IsRest h f (Err TooManyReads) = IsIdle h × (h.left ≡ 0)

  -- no line stopped who listens
  pub record Ends (from : Hearing) (before : Flow) (old : S) (answers : A) (to : Hearing) (after : Flow) (new : S) (told : A) (result : Result (Ended X) LineFault) : Type 0 where
    pub through : Through from before old answers to after new told to.line (failures_by result) (ends_in result)
    pub clean : HasNoEnd to.line
    pub is : IsRest to after result

  -- who listens is stopped by a line, or hears the end of input, a line that is too long, or no more
  abbrev pub Listens : Hearing → Flow → S → A → Hearing → Flow → S → A → Result (Ended X) LineFault → Type 0
  Listens from before old answers to after new told (Ok (over.Stopped why)) = Stops from before old answers to after new told why
  Listens from before old answers to after new told result = Ends from before old answers to after new told result
