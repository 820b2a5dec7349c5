-- What is said of a refusal.
use Rattle.std.specs.Prelude.{◌≡◌, ◌<◌, ℕ, List, ◌∷◌, flat_map, length, Some}
use Rattle.serde_json.specs.Data.{Data}
use Rattle.ot_store.specs.Arrays.{shape_in}
use Rattle.ot_program.specs.declared.fault.Refusal.{Refusal}
use Rattle.ot_book.specs.Answers.{value_of}
use Rattle.ot_book.specs.Books.{Register}
use Rattle.ot_book.specs.declared.code.Code.{Code}
use Rattle.ot_book.specs.declared.code.Code.TheVariants.{Program}
use Rattle.ot_why_reason.specs.Places.{BeginsAt, placed_fault}
use Rattle.ot_why_reason.specs.declared.place.Telling.TheVariants.{Line}

-- lines, each behind an LF
abbrev pub behind_ends : List (List ℕ) → List ℕ
behind_ends lines = flat_map (λ line. 10 ∷ line) lines

-- Reasons why a line was refused by this code over a book's arrays, one at least. Of a program the first begins with the place of
-- its first fault.
pub record AreReasons (book : Register) (line : List ℕ) (code : Code) (reasons : List (List ℕ)) : Type 0 where
  pub some : 0 < length reasons
  pub place : (d : Data) (refusal : Refusal) → value_of line ≡ Some d → code ≡ Program refusal →
      BeginsAt Line refusal (placed_fault (shape_in book.limits book.store) d) reasons

-- the same as a text, each behind an LF
abbrev pub SaysWhy : Register → List ℕ → Code → List ℕ → Type 0
SaysWhy book line code text = (reasons : List (List ℕ)) × AreReasons book line code reasons × (text ≡ behind_ends reasons)
