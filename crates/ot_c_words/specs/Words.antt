-- The words of a text: from left to right, each the longest that begins where the one before it ends.
use Rattle.std.specs.Prelude.{◌≡◌, ℕ, zero, suc, ◌+◌, ◌-◌, ◌<◌, Bool, true, false, List, [], ◌∷◌, ◌++◌, take, get_or, map, Option, Some, None, Result, Ok, Err, String, string_bytes, if◌then◌else◌}
use Rattle.std.specs.String.{string_eq}
use Rattle.std.specs.List.{IsDistinct}
use Rattle.ot_c_words.specs.Tables.{Text}
use Rattle.ot_c_words.specs.Names.{known_of}
use Rattle.ot_c_words.specs.Pieces.{Found, front}
use Rattle.ot_c_words.specs.declared.fault.Fault.{Fault}
use Rattle.ot_c_words.specs.declared.known.Known.{Known}
use Rattle.ot_c_words.specs.declared.mark.Mark.{Mark}
use Rattle.ot_c_words.specs.declared.piece.Line.{Line}
use Rattle.ot_c_words.specs.declared.piece.Line.TheVariants as line
use Rattle.ot_c_words.specs.declared.piece.Piece.{Piece}
use Rattle.ot_c_words.specs.declared.piece.Piece.TheVariants as p
use Rattle.ot_c_words.specs.declared.word.IntegerType.{IntegerType}
use Rattle.ot_c_words.specs.declared.word.Name.{Name}
use Rattle.ot_c_words.specs.declared.word.Name.TheVariants as n
use Rattle.ot_c_words.specs.declared.word.Word.{Word}
use Rattle.ot_c_words.specs.declared.word.Word.TheVariants as w

-- ---- words, with their names as texts

pub data Spoken : Type 0 where
  Number : ℕ → IntegerType → Spoken
  Meant : Known → Spoken
  Named : Text → Spoken
  Quoted : Spoken
  Letter : ℕ → Spoken
  Marked : Mark → Spoken
  Include : Spoken
  Define : Spoken
  Pragma : Spoken
  End : Spoken

abbrev pub name_meant : Text → Option Known → Spoken
name_meant text (Some k) = Meant k
name_meant text None = Named text

-- the word that a name is
unfoldable pub word_of_name : Text → Spoken
word_of_name text = name_meant text (known_of text)

-- ---- from pieces to words

abbrev pub in_directive : Line → Bool
in_directive line.Directive = true
in_directive line.Fresh = false
in_directive line.Inside = false

-- what stands on the line behind a piece
unfoldable pub on_line_behind : Line → Piece → Line
on_line_behind on p.Nothing = on
on_line_behind on p.Feed = line.Fresh
on_line_behind on p.Include = line.Directive
on_line_behind on p.Define = line.Directive
on_line_behind on p.Pragma = line.Directive
on_line_behind on _ = if in_directive on then line.Directive else line.Inside

abbrev pub end_of : Line → List Spoken
end_of on = if in_directive on then End ∷ [] else []

-- the words of a piece of this text: none, or one; the end of a line ends a directive
unfoldable pub words_spoken : Line → Text → Piece → List Spoken
words_spoken on text p.Nothing = []
words_spoken on text p.Feed = end_of on
words_spoken on text (p.Number n t) = Number n t ∷ []
words_spoken on text p.Name = word_of_name text ∷ []
words_spoken on text p.Text = Quoted ∷ []
words_spoken on text (p.Letter b) = Letter b ∷ []
words_spoken on text (p.Mark m) = Marked m ∷ []
words_spoken on text p.Include = Include ∷ []
words_spoken on text p.Define = Define ∷ []
words_spoken on text p.Pragma = Pragma ∷ []

-- ---- the whole

-- words, and at which byte each begins
abbrev pub Read : Type 0
Read = Result (List ℕ × List Spoken) Fault

-- words at a place, before others
abbrev pub before : ℕ → List Spoken → Read → Read
before at ws (Err e) = Err e
before at ws (Ok read) = Ok (map (λ w. at) ws ++ read.0, ws ++ read.1)

-- from a piece at a place on, with what is read behind it
abbrev pub from : Line → ℕ → Text → Found → (Piece → ℕ → Read) → Read
from on at bytes (Err wrong) next = Err (record { wrong = wrong; start = at })
from on at bytes (Ok found) next = before at (words_spoken on (take found.1 bytes) found.0) (next found.0 found.1)

-- the words from a place on, of whose piece so many bytes are still to be passed
unfoldable pub words_at : Line → ℕ → ℕ → Text → Read
words_at on at more [] = before at (end_of on) (Ok ([], []))
words_at on at (suc more) (b ∷ bs) = words_at on (at + 1) more bs
words_at on at zero (b ∷ bs) = from on at (b ∷ bs) (front on (b ∷ bs)) (λ piece len. words_at (on_line_behind on piece) (at + 1) (len - 1) bs)

-- the words of a text, and at which byte each begins, or the first fault
abbrev pub words_in : Text → Read
words_in text = words_at line.Fresh 0 0 text

-- ---- words whose names have numbers

abbrev pub name_spoken : List Text → Name → Spoken
name_spoken names (n.Known k) = Meant k
name_spoken names (n.Other i) = Named (get_or names i [])

abbrev pub word_spoken : List Text → Word → Spoken
word_spoken names (w.Number n t) = Number n t
word_spoken names (w.Name n) = name_spoken names n
word_spoken names w.Text = Quoted
word_spoken names (w.Letter b) = Letter b
word_spoken names (w.Mark m) = Marked m
word_spoken names w.Include = Include
word_spoken names w.Define = Define
word_spoken names w.Pragma = Pragma
word_spoken names w.End = End

abbrev pub texts : {Z : Type 0} → List (String Z) → List Text
texts names = map string_bytes names

-- words as they are spoken, whose names have numbers among these
abbrev pub all_spoken : {Z : Type 0} → List (String Z) → List Word → List Spoken
all_spoken names ws = map (word_spoken (texts names)) ws

-- each name's number is below this
abbrev pub IsBelow : ℕ → Word → Type 0
IsBelow count (w.Number n t) = Unit {0}
IsBelow count (w.Name (n.Known k)) = Unit {0}
IsBelow count (w.Name (n.Other i)) = i < count
IsBelow count w.Text = Unit {0}
IsBelow count (w.Letter b) = Unit {0}
IsBelow count (w.Mark m) = Unit {0}
IsBelow count w.Include = Unit {0}
IsBelow count w.Define = Unit {0}
IsBelow count w.Pragma = Unit {0}
IsBelow count w.End = Unit {0}

abbrev pub AreBelow : ℕ → List Word → Type 0
AreBelow count [] = Unit {0}
AreBelow count (w ∷ ws) = IsBelow count w × AreBelow count ws

abbrev pub MeanNothing : List Text → Type 0
MeanNothing [] = Unit {0}
MeanNothing (t ∷ ts) = (known_of t ≡ None) × MeanNothing ts

-- names that have numbers: no two are the same, and none means something
pub record AreNames {Z : Type 0} (names : List (String Z)) : Type 0 where
  pub differ : IsDistinct string_eq names
  pub free : MeanNothing (texts names)

-- the names are those before, with others behind them
abbrev pub Continues : {X : Type 0} → List X → List X → Type 0
Continues {X} old new = (more : List X) × (new ≡ old ++ more)
