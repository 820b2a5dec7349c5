-- The value of a line.
use Rattle.std.proofs.Common.{◌≡◌, ℕ, List, refl, ap, ◌∙◌, true, false, Bool}
use Rattle.std.specs.Prelude.{Option, Some, None, IsUtf8, if◌then◌else◌}
use Rattle.std.specs.Str.{is_utf8}
use Rattle.std.proofs.lemmas.Str.{IsUtf8-from_is_utf8, is_utf8-from_IsUtf8}
use Rattle.serde_json.specs.Data.{Data}
use Rattle.serde_json.specs.Read.{read}
use Rattle.ot_book.specs.Answers.{value_of}

pub value_of-text : (line : List ℕ) (d : Data) → IsUtf8 line → read line ≡ Some d → value_of line ≡ Some d
value_of-text line d text is = ap (λ b. if b then read line else None) (is_utf8-from_IsUtf8 line text) ∙ is

unless : (b : Bool) (r : Option Data) → (b ≡ true → r ≡ None) → (if b then r else None) ≡ None
unless true r h = h refl
unless false r h = refl

pub value_of-none : (line : List ℕ) → (IsUtf8 line → read line ≡ None) → value_of line ≡ None
value_of-none line h = unless (is_utf8 line) (read line) (λ t. h (IsUtf8-from_is_utf8 line t))
