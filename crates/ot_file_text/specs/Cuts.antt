-- A file without comments cut into pieces: from a bracket to the one that closes it, to the end where nothing does, or what
-- stands outside of brackets.
use Rattle.std.specs.Prelude.{ℕ, suc, ◌+◌, ◌==◌, List, [], ◌∷◌, length, drop, if◌then◌else◌, Option, Some, None, option_map}
use Rattle.ot_file_text.specs.Places.{is_blank, is_opening, opens, place_after, nesting_after, outside}
use Rattle.ot_file_text.specs.declared.place.Place.{Place}
use Rattle.ot_file_text.specs.declared.place.Place.TheVariants.{Outside}
use Rattle.ot_file_text.specs.declared.nesting.Nesting.{Nesting}
use Rattle.ot_file_text.specs.declared.request.Piece.{Piece}
use Rattle.ot_file_text.specs.declared.request.Kind.TheVariants.{Closed, Open, Stray}

-- how many bytes of white space stand in front
abbrev pub blanks_in : List ℕ → ℕ
blanks_in [] = 0
blanks_in (b ∷ behind) = if is_blank b then suc (blanks_in behind) else 0

-- how many bytes there are up to and with the one behind which no bracket is open
abbrev pub closed_in : Nesting → List ℕ → Option ℕ
closed_in n [] = None
closed_in n (b ∷ behind) = if (nesting_after n b).depth == 0 then Some 1 else option_map suc (closed_in (nesting_after n b) behind)

-- how many bytes there are before the first bracket that opens outside of strings
abbrev pub stray_in : Place → List ℕ → ℕ
stray_in place [] = 0
stray_in place (b ∷ behind) = if opens place b then 0 else suc (stray_in (place_after place b) behind)

-- the piece that begins with a bracket behind so many bytes, by how far it closes, where so many bytes are left
abbrev pub bracketed_piece : Option ℕ → ℕ → ℕ → Piece
bracketed_piece (Some len) start left = record { kind = Closed; start = start; end = start + len }
bracketed_piece None start left = record { kind = Open; start = start; end = start + left }

-- the piece that begins with these bytes, behind so many others
abbrev pub piece_at : List ℕ → ℕ → Option Piece
piece_at [] start = None
piece_at (b ∷ behind) start =
    if is_opening b then Some (bracketed_piece (closed_in outside (b ∷ behind)) start (length (b ∷ behind)))
    else Some (record { kind = Stray; start = start; end = start + stray_in Outside (b ∷ behind) })

-- the first piece of a file from a byte on, white space before it left away
abbrev pub piece_from : List ℕ → ℕ → Option Piece
piece_from text from = let start = from + blanks_in (drop from text) in piece_at (drop start text) start
