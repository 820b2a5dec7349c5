-- Marks (C17, section 6.4.6).
use Rattle.std.specs.Prelude.{ℕ, List, [], ◌∷◌, Option, codes}
use Rattle.ot_c_words.specs.Tables.{Text, table_entry}
use Rattle.ot_c_words.specs.declared.mark.Mark.{Mark}
use Rattle.ot_c_words.specs.declared.mark.Mark.TheVariants as m

-- longer ones before those that begin them
abbrev pub marks : List (Text × Mark)
marks =
    (codes "<<=", m.ShiftLeftAssign) ∷ (codes ">>=", m.ShiftRightAssign) ∷ (codes "+=", m.AddAssign) ∷ (codes "-=", m.SubtractAssign) ∷ (codes "*=", m.MultiplyAssign) ∷ (codes "/=", m.DivideAssign) ∷
    (codes "%=", m.RestAssign) ∷ (codes "&=", m.AndAssign) ∷ (codes "|=", m.OrAssign) ∷ (codes "^=", m.XorAssign) ∷ (codes "++", m.Increment) ∷ (codes "--", m.Decrement) ∷
    (codes "<<", m.ShiftLeft) ∷ (codes ">>", m.ShiftRight) ∷ (codes "==", m.Equal) ∷ (codes "!=", m.Unequal) ∷ (codes "<=", m.AtMost) ∷ (codes ">=", m.AtLeast) ∷
    (codes "&&", m.Both) ∷ (codes "||", m.Either) ∷ (codes "->", m.Arrow) ∷ (codes "(", m.Open) ∷ (codes ")", m.Close) ∷ (codes "[", m.OpenIndex) ∷
    (codes "]", m.CloseIndex) ∷ (codes "{", m.OpenBlock) ∷ (codes "}", m.CloseBlock) ∷ (codes ";", m.Semicolon) ∷ (codes ",", m.Comma) ∷ (codes ":", m.Colon) ∷
    (codes "?", m.Question) ∷ (codes "+", m.Plus) ∷ (codes "-", m.Minus) ∷ (codes "*", m.Times) ∷ (codes "/", m.Over) ∷ (codes "%", m.Rest) ∷
    (codes "&", m.And) ∷ (codes "|", m.Or) ∷ (codes "^", m.Xor) ∷ (codes "!", m.Not) ∷ (codes "~", m.Invert) ∷ (codes "<", m.Less) ∷
    (codes ">", m.More) ∷ (codes "=", m.Assign) ∷
    []

-- the longest mark that begins the bytes, and how many it has
unfoldable pub mark_at : Text → Option (Mark × ℕ)
mark_at bytes = table_entry marks bytes
