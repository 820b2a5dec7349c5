-- Comments of a file, and the file without them.
use Rattle.std.specs.Prelude.{ℕ, ◌==◌, ◌&&◌, List, [], ◌∷◌, Bool, false, if◌then◌else◌}
use Rattle.ot_file_text.specs.Places.{place_after}
use Rattle.ot_file_text.specs.declared.place.Place.{Place}
use Rattle.ot_file_text.specs.declared.place.Place.TheVariants.{Outside, Quoted, Escaped}
use Rattle.ot_file_text.specs.declared.comment.Part.{Part}
use Rattle.ot_file_text.specs.declared.comment.Part.TheVariants.{Json, Comment}

-- two slashes outside of strings begin a comment
abbrev pub begins_comment : Place → ℕ → List ℕ → Bool
begins_comment Outside b (c ∷ behind) = b == 47 && c == 47
begins_comment Outside b [] = false
begins_comment Quoted b behind = false
begins_comment Escaped b behind = false

-- the part in which a byte stands, by the part before it and the bytes behind it: a line's end ends a comment, and isn't in it
abbrev pub part_after : Part → ℕ → List ℕ → Part
part_after Comment b behind = if b == 10 then Json Outside else Comment
part_after (Json place) b behind = if begins_comment place b behind then Comment else Json (place_after place b)

-- a byte of a comment is shown as a space
abbrev pub shown_in : Part → ℕ → ℕ
shown_in (Json place) b = b
shown_in Comment b = 32

-- the rest of a file behind this part
abbrev pub blanked_in : Part → List ℕ → List ℕ
blanked_in part [] = []
blanked_in part (b ∷ behind) = shown_in (part_after part b behind) b ∷ blanked_in (part_after part b behind) behind

-- a file whose comments are blank
abbrev pub comments_blanked : List ℕ → List ℕ
comments_blanked text = blanked_in (Json Outside) text
