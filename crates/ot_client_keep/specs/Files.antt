-- The text of a tenant's file.
use Rattle.std.specs.Prelude.{◌≡◌, [], ◌≢◌, ◌≤◌, ◌<◌, ◌^◌, ◌+◌, ℕ, List, ◌∷◌, ◌++◌, All, length, map, replicate, codes, decimal, if◌then◌else◌, Option, None, option_and_then, option_map}
use Rattle.std.specs.List.{concat}
use Rattle.std.specs.Io.{IsEmptyOrEndsWith}
use Rattle.serde_json.specs.Data.{array, string, Data, Items, no_items, item}
use Rattle.serde_json.specs.View.{items_of}
use Rattle.serde_json.specs.Written.{compact_text}
use Rattle.sha2.specs.Sha256.{sha256}
use Rattle.hex.specs.Hex.{encode_lower}
use Rattle.ot_store.specs.Arrays.{Named, overwritten}
use Rattle.ot_book.specs.Answers.{nat, nats, value_of}
use Rattle.serde_json.specs.Find.{as_array}
use Rattle.ot_program.specs.Meanings.{is_word}
use Rattle.ot_book.specs.Requests.{all_numbers, all_sized, number_in, size_in}

-- ---- the session

-- `["new",NAME,LEN]` and an LF
abbrev pub new_line : List ℕ → ℕ → List ℕ
new_line name len = compact_text (array (items_of (string (codes "new") ∷ string name ∷ nat len ∷ []))) ++ 10 ∷ []

-- numbers, and the cell from which on they are written
pub record Piece : Type 0 where
  pub start : ℕ
  pub numbers : List ℕ

-- `["put",NAME,START,[V,..]]` and an LF
abbrev pub put_line : List ℕ → Piece → List ℕ
put_line name piece =
    compact_text (array (items_of (string (codes "put") ∷ string name ∷ nat piece.start ∷ nats piece.numbers ∷ []))) ++ 10 ∷ []

-- the cells behind the pieces, one after another
abbrev pub cells_written : List ℕ → List Piece → List ℕ
cells_written cells [] = cells
cells_written cells (p ∷ ps) = cells_written (overwritten cells p.start p.numbers) ps

-- the piece has numbers, and lies within so many cells
pub record Fits (len : ℕ) (piece : Piece) : Type 0 where
  pub some : piece.numbers ≢ []
  pub within : piece.start + length piece.numbers ≤ len

-- The text makes an array: it is new, each cell 0, and pieces are put into it.
pub record MakesOne (named : Named) (text : List ℕ) : Type 0 where
  pub pieces : List Piece
  pub fit : All (Fits (length named.1)) pieces
  pub cells : cells_written (replicate (length named.1) 0) pieces ≡ named.1
  pub is : text ≡ new_line named.0 (length named.1) ++ concat (map (put_line named.0) pieces)

-- the text makes the arrays, in their order
abbrev pub Makes : List Named → List ℕ → Type 0
Makes [] text = text ≡ []
Makes (a ∷ more) text = (front : List ℕ) × (rest : List ℕ) × MakesOne a front × Makes more rest × (text ≡ front ++ rest)

abbrev pub bye_line : List ℕ
bye_line = codes "[\"bye\"]\n"

-- ---- the line behind it

-- what the sum is taken of: the session, its goodbye, and both numbers
abbrev pub text_summed : List ℕ → ℕ → ℕ → List ℕ
text_summed session next used = session ++ (bye_line ++ (decimal next ++ (codes " " ++ decimal used)))

-- `{"next": NEXT, "used": USED, "sha256": "SUM"}` and an LF
abbrev pub note_text : List ℕ → ℕ → ℕ → List ℕ
note_text sum next used =
    codes "{\"next\": " ++ (decimal next ++ (codes ", \"used\": " ++ (decimal used ++ (codes ", \"sha256\": \"" ++ (sum ++ codes "\"}\n")))))

abbrev pub note_line : List ℕ → ℕ → ℕ → List ℕ
note_line session next used = note_text (encode_lower (sha256 (text_summed session next used))) next used

-- the session, its goodbye, and the line with the number of the next request, the used units, and the sum
abbrev pub file_text : List ℕ → ℕ → ℕ → List ℕ
file_text session next used = session ++ (bye_line ++ note_line session next used)

-- no line, or lines of which the last has its LF
abbrev pub AreLines : List ℕ → Type 0
AreLines text = IsEmptyOrEndsWith text 10

-- the text is no file's
abbrev pub IsNoFile : List ℕ → Type 0
IsNoFile text = (session : List ℕ) (next used : ℕ) → next < 2 ^ 64 → used < 2 ^ 64 → AreLines session → text ≢ file_text session next used

-- What a server's replies tell.

-- what a reply tells, for a request that was performed
pub data Reply : Type 0 where
  Taken : ℕ → Reply
  Used : ℕ → Reply
  Listed : List (List ℕ × ℕ) → Reply
  Cells : List ℕ → Reply

-- behind the word and the number: units, names with lengths, or numbers
abbrev pub listed_of : Data → Data → Option Reply
listed_of tag told =
    if is_word tag (codes "used") then option_map Used (number_in told)
    else (if is_word tag (codes "arrays") then option_map Listed (option_and_then (all_sized 1) (as_array told))
    else (if is_word tag (codes "cells") then option_map Cells (option_and_then all_numbers (as_array told)) else None))

-- `["ok",n]`, `["used",n,units]`, `["arrays",n,[[name,len],..]]`, `["cells",n,[v,..]]`
abbrev pub list_in : Items → Option Reply
list_in (item tag (item n no_items)) = if is_word tag (codes "ok") then option_map Taken (size_in 1 n) else None
list_in (item tag (item n (item told no_items))) = option_and_then (λ k. listed_of tag told) (size_in 1 n)
list_in ds = None

abbrev pub reply_in_file : Data → Option Reply
reply_in_file d = option_and_then list_in (as_array d)

-- what a line tells, its LF among its white space
abbrev pub reply_in : List ℕ → Option Reply
reply_in line = option_and_then reply_in_file (value_of line)
