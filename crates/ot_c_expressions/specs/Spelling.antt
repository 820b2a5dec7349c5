-- Values in words with as few brackets as C's grammar wants (C17, sections 6.5.1 to 6.5.15).
use Rattle.std.specs.Prelude.{◌≡◌, ℕ, ◌+◌, ◌≤◌, max, nat_lt, Bool, true, false, List, [], ◌∷◌, ◌++◌, length, None, is_some, if◌then◌else◌}
use Rattle.ot_c_words.specs.declared.known.Known.TheVariants as k
use Rattle.ot_c_words.specs.declared.mark.Mark.{Mark}
use Rattle.ot_c_words.specs.declared.mark.Mark.TheVariants as m
use Rattle.ot_c_words.specs.declared.word.Name.{Name}
use Rattle.ot_c_words.specs.declared.word.Name.TheVariants as n
use Rattle.ot_c_words.specs.declared.word.Word.{Word}
use Rattle.ot_c_words.specs.declared.word.Word.TheVariants as w
use Rattle.ot_c_expressions.specs.declared.sign.Sign.{Sign}
use Rattle.ot_c_expressions.specs.declared.sign.Sign.TheVariants as s
use Rattle.ot_c_expressions.specs.declared.sign.Unary.{Unary}
use Rattle.ot_c_expressions.specs.declared.sign.Unary.TheVariants as u
use Rattle.ot_c_expressions.specs.declared.tree.Call.{Call}
use Rattle.ot_c_expressions.specs.declared.tree.Call.TheVariants as c
use Rattle.ot_c_expressions.specs.Signs.{any_sign}
use Rattle.ot_c_expressions.specs.Tree.{E, Literal, Variable, CellAt, Unsigned, Signed, Called, Apply, Choose}
use Rattle.ot_c_expressions.specs.Reading.{call_of, is_unsigned}

-- ---- the grammar's sorts of values, of which each takes in those that follow it

abbrev pub conditional : ℕ
conditional = 1

abbrev pub logical_or : ℕ
logical_or = 2

abbrev pub logical_and : ℕ
logical_and = 3

abbrev pub inclusive_or : ℕ
inclusive_or = 4

abbrev pub exclusive_or : ℕ
exclusive_or = 5

abbrev pub bitwise_and : ℕ
bitwise_and = 6

abbrev pub equality : ℕ
equality = 7

abbrev pub relational : ℕ
relational = 8

abbrev pub shift : ℕ
shift = 9

abbrev pub additive : ℕ
additive = 10

abbrev pub multiplicative : ℕ
multiplicative = 11

abbrev pub cast : ℕ
cast = 12

abbrev pub primary : ℕ
primary = 13

-- Of which sort two values with a sign between are, as the left one may be too, and of which the right one may be.
-- So says the grammar: `additive: multiplicative | additive + multiplicative | additive - multiplicative`.
abbrev pub sorts : Sign → ℕ × ℕ
sorts s.Either = (logical_or, logical_and)
sorts s.Both = (logical_and, inclusive_or)
sorts s.Or = (inclusive_or, exclusive_or)
sorts s.Xor = (exclusive_or, bitwise_and)
sorts s.And = (bitwise_and, equality)
sorts s.Equal = (equality, relational)
sorts s.Unequal = (equality, relational)
sorts s.Less = (relational, shift)
sorts s.More = (relational, shift)
sorts s.AtMost = (relational, shift)
sorts s.AtLeast = (relational, shift)
sorts s.ShiftLeft = (shift, additive)
sorts s.ShiftRight = (shift, additive)
sorts s.Plus = (additive, multiplicative)
sorts s.Minus = (additive, multiplicative)
sorts s.Times = (multiplicative, cast)
sorts s.Over = (multiplicative, cast)
sorts s.Rest = (multiplicative, cast)

abbrev pub sort_of : E → ℕ
sort_of (Literal l n t) = primary
sort_of (Variable l x) = primary
sort_of (CellAt l a i) = primary
sort_of (Unsigned e) = cast
sort_of (Signed l sign e) = cast
sort_of (Called l call a b) = primary
sort_of (Apply l sign a b) = (sorts sign).0
sort_of (Choose l t a b) = conditional

-- ---- words

abbrev pub sign_mark : Sign → Mark
sign_mark s.Either = m.Either
sign_mark s.Both = m.Both
sign_mark s.Or = m.Or
sign_mark s.Xor = m.Xor
sign_mark s.And = m.And
sign_mark s.Equal = m.Equal
sign_mark s.Unequal = m.Unequal
sign_mark s.Less = m.Less
sign_mark s.More = m.More
sign_mark s.AtMost = m.AtMost
sign_mark s.AtLeast = m.AtLeast
sign_mark s.ShiftLeft = m.ShiftLeft
sign_mark s.ShiftRight = m.ShiftRight
sign_mark s.Plus = m.Plus
sign_mark s.Minus = m.Minus
sign_mark s.Times = m.Times
sign_mark s.Over = m.Over
sign_mark s.Rest = m.Rest

abbrev pub unary_mark : Unary → Mark
unary_mark u.Plus = m.Plus
unary_mark u.Minus = m.Minus
unary_mark u.Invert = m.Invert
unary_mark u.Not = m.Not

abbrev pub call_name : Call → Name
call_name c.Min = n.Known k.Min
call_name c.Max = n.Known k.Max

abbrev pub in_brackets : List Word → List Word
in_brackets ws = w.Mark m.Open ∷ (ws ++ (w.Mark m.Close ∷ []))

-- the words of a value where the grammar wants one of a sort: in brackets if it is none
abbrev pub words_wanted : ℕ → E → List Word → List Word
words_wanted sort e ws = if nat_lt (sort_of e) sort then in_brackets ws else ws

-- the words of a value
abbrev pub words_of_value : E → List Word
words_of_value (Literal l n t) = w.Number n t ∷ []
words_of_value (Variable l x) = w.Name x ∷ []
words_of_value (CellAt l a i) = w.Name a ∷ w.Mark m.OpenIndex ∷ (words_of_value i ++ (w.Mark m.CloseIndex ∷ []))
words_of_value (Unsigned e) = w.Mark m.Open ∷ w.Name (n.Known k.Word64) ∷ w.Mark m.Close ∷ words_wanted cast e (words_of_value e)
words_of_value (Signed l sign e) = w.Mark (unary_mark sign) ∷ words_wanted cast e (words_of_value e)
words_of_value (Called l call a b) = w.Name (call_name call) ∷ w.Mark m.Open ∷ (words_of_value a ++ (w.Mark m.Comma ∷ (words_of_value b ++ (w.Mark m.Close ∷ []))))
words_of_value (Apply l sign a b) = words_wanted (sorts sign).0 a (words_of_value a) ++ (w.Mark (sign_mark sign) ∷ words_wanted (sorts sign).1 b (words_of_value b))
words_of_value (Choose l t a b) = words_wanted logical_or t (words_of_value t) ++ (w.Mark m.Question ∷ (words_of_value a ++ (w.Mark m.Colon ∷ words_of_value b)))

-- ---- the value that is read of them

-- what stands behind a side where the grammar wants one of a sort, and this stands behind both
abbrev pub behind_side : ℕ → E → List Word → List Word
behind_side sort e ws = if nat_lt (sort_of e) sort then w.Mark m.Close ∷ ws else ws

-- a value with the number of words that are left at each part of it, where these words stand behind it
abbrev pub value_with_places : E → List Word → E
value_with_places (Literal l n t) ws = Literal (length (w.Number n t ∷ ws)) n t
value_with_places (Variable l x) ws = Variable (length ws + 1) x
value_with_places (CellAt l a i) ws = CellAt (length (w.Mark m.OpenIndex ∷ (words_of_value i ++ (w.Mark m.CloseIndex ∷ ws))) + 1) a (value_with_places i (w.Mark m.CloseIndex ∷ ws))
value_with_places (Unsigned e) ws = Unsigned (value_with_places e (behind_side cast e ws))
value_with_places (Signed l sign e) ws = Signed (length (words_wanted cast e (words_of_value e) ++ ws) + 1) sign (value_with_places e (behind_side cast e ws))
value_with_places (Called l call a b) ws =
    Called (length (w.Mark m.Open ∷ (words_of_value a ++ (w.Mark m.Comma ∷ (words_of_value b ++ (w.Mark m.Close ∷ ws))))) + 1) call
    (value_with_places a (w.Mark m.Comma ∷ (words_of_value b ++ (w.Mark m.Close ∷ ws)))) (value_with_places b (w.Mark m.Close ∷ ws))
value_with_places (Apply l sign a b) ws =
    Apply (length (w.Mark (sign_mark sign) ∷ (words_wanted (sorts sign).1 b (words_of_value b) ++ ws))) sign
    (value_with_places a (behind_side (sorts sign).0 a (w.Mark (sign_mark sign) ∷ (words_wanted (sorts sign).1 b (words_of_value b) ++ ws)))) (value_with_places b (behind_side (sorts sign).1 b ws))
value_with_places (Choose l t a b) ws =
    Choose (length (w.Mark m.Question ∷ (words_of_value a ++ (w.Mark m.Colon ∷ (words_of_value b ++ ws)))))
    (value_with_places t (behind_side logical_or t (w.Mark m.Question ∷ (words_of_value a ++ (w.Mark m.Colon ∷ (words_of_value b ++ ws))))))
    (value_with_places a (w.Mark m.Colon ∷ (words_of_value b ++ ws))) (value_with_places b ws)

-- ---- how deep it nests

-- how many signs stand in a row up to a value's own, outside of brackets
abbrev pub row : E → ℕ
row (Literal l n t) = 0
row (Variable l x) = 0
row (CellAt l a i) = 0
row (Unsigned e) = 0
row (Signed l sign e) = 0
row (Called l call a b) = 0
row (Apply l sign a b) = (if nat_lt (sort_of a) (sorts sign).0 then 0 else row a) + 1
row (Choose l t a b) = 0

-- one deeper in brackets
abbrev pub depth_in_brackets : ℕ → E → ℕ → ℕ
depth_in_brackets sort e d = if nat_lt (sort_of e) sort then d + 1 else d

-- how deep a value nests
abbrev pub depth : E → ℕ
depth (Literal l n t) = 1
depth (Variable l x) = 1
depth (CellAt l a i) = depth i + 1
depth (Unsigned e) = depth_in_brackets cast e (depth e) + 1
depth (Signed l sign e) = depth_in_brackets cast e (depth e) + 1
depth (Called l call a b) = max (depth a) (depth b) + 1
depth (Apply l sign a b) = max (depth_in_brackets (sorts sign).0 a (depth a)) (depth_in_brackets (sorts sign).1 b (depth b) + 1)
depth (Choose l t a b) = max (depth_in_brackets logical_or t (depth t)) (max (depth a) (depth b) + 1)

-- a name that is neither a function nor a type
abbrev pub IsName : Name → Type 0
IsName x = (call_of x ≡ None) × (is_unsigned x ≡ false)

-- of such names, with no more than 24 signs in a row
abbrev pub IsPlain : E → Type 0
IsPlain (Literal l n t) = Unit {0}
IsPlain (Variable l x) = IsName x
IsPlain (CellAt l a i) = IsName a × IsPlain i
IsPlain (Unsigned e) = IsPlain e
IsPlain (Signed l sign e) = IsPlain e
IsPlain (Called l call a b) = IsPlain a × IsPlain b
IsPlain (Apply l sign a b) = (row (Apply l sign a b) ≤ 24) × IsPlain a × IsPlain b
IsPlain (Choose l t a b) = IsPlain t × IsPlain a × IsPlain b

-- whether words go on with a value before them: by a sign, a choice or a place
unfoldable pub goes_on : List Word → Bool
goes_on (w.Mark m.Question ∷ ws) = true
goes_on (w.Mark m.OpenIndex ∷ ws) = true
goes_on ws = is_some (any_sign ws)
