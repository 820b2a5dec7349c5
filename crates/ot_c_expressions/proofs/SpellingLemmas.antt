-- What is spelled of a value reads as the value.
use Rattle.std.proofs.Common.{◌≡◌, ℕ, zero, suc, ◌+◌, ◌-◌, ◌≤◌, ◌<◌, List, [], ◌∷◌, ◌++◌, length, Bool, true, false, Option, Some, None, Result, Ok, Err, refl, sym, ap, ◌∙◌, append_assoc, arith}
use Rattle.std.specs.Prelude.{max, nat_lt, nat_le, is_some, if◌then◌else◌}
use Rattle.std.proofs.Math.Nat.{le-max_left, le-max_right}
use Rattle.std.proofs.lemmas.Bool.Decides.{nat_tests}
use Rattle.ot_c_words.specs.Reading.{◌>>=◌, behind_mark}
use Rattle.ot_c_words.specs.declared.known.Known.TheVariants as k
use Rattle.ot_c_words.specs.declared.mark.Mark.{Mark}
use Rattle.ot_c_words.specs.declared.mark.Mark.TheVariants as m
use Rattle.ot_c_words.specs.declared.word.IntegerType.{IntegerType}
use Rattle.ot_c_words.specs.declared.word.Name.{Name}
use Rattle.ot_c_words.specs.declared.word.Name.TheVariants as n
use Rattle.ot_c_words.specs.declared.word.Word.{Word}
use Rattle.ot_c_words.specs.declared.word.Word.TheVariants as w
use Rattle.ot_c_expressions.specs.declared.fault.Fault.{Fault}
use Rattle.ot_c_expressions.specs.declared.sign.Begin.TheVariants as b
use Rattle.ot_c_expressions.specs.declared.sign.Sign.{Sign}
use Rattle.ot_c_expressions.specs.declared.sign.Sign.TheVariants as s
use Rattle.ot_c_expressions.specs.declared.sign.Unary.{Unary}
use Rattle.ot_c_expressions.specs.declared.sign.Unary.TheVariants as u
use Rattle.ot_c_expressions.specs.declared.tree.Call.{Call}
use Rattle.ot_c_expressions.specs.declared.tree.Call.TheVariants as c
use Rattle.ot_c_expressions.specs.Signs.{binds, sign_of, begin_of, sign_read, any_sign, if_tight, front_sign}
use Rattle.ot_c_expressions.specs.Tree.{E, Literal, Variable, CellAt, Unsigned, Signed, Called, Apply, Choose}
use Rattle.ot_c_expressions.specs.Reading.{Read, call_of, is_unsigned, cast_end, indexed_at, named_at, called_at, bracket_at, prefixed_at, operand_at, go_on, too_long, more_at, question_at, choice_read, choice_at, value_at}
use Rattle.ot_c_expressions.specs.Spelling.{sorts, sort_of, sign_mark, unary_mark, call_name, in_brackets, words_wanted, words_of_value, behind_side, value_with_places, row, depth_in_brackets, depth, IsName, IsPlain, goes_on}

-- ---- numbers

below : (n k : ℕ) → n < k → nat_lt n k ≡ true
below n k l = grind (arith, nat_tests)

not_below : (n k : ℕ) → k ≤ n → nat_lt n k ≡ false
not_below n k l = grind (arith, nat_tests)

above_one : (n : ℕ) → 2 ≤ n → nat_le n 1 ≡ false
above_one n l = grind (arith, nat_tests)

up_to_one : (n : ℕ) → n ≤ 1 → nat_le n 1 ≡ true
up_to_one n l = grind (arith, nat_tests)

least : (n k : ℕ) → nat_lt n k ≡ false → k ≤ n
least n k is = grind (arith, nat_tests)

-- ---- signs

record IsSign (sign : Sign) : Type 0 where
  pub is : sign_of (sign_mark sign) ≡ Some sign
  pub low : 2 ≤ binds sign
  pub high : binds sign ≤ 11
  pub own : (sorts sign).0 ≡ binds sign
  pub right : (sorts sign).1 ≡ binds sign + 1

is_sign : (sign : Sign) → IsSign sign
unfolding sign_of
is_sign s.Either = record { is = refl; low = omega arith; high = omega arith; own = refl; right = refl }
is_sign _ = record { is = refl; low = omega arith; high = omega arith; own = refl; right = refl }

-- whether a place stands at the front
unfoldable pub indexes : List Word → Bool
indexes (w.Mark m.OpenIndex ∷ ws) = true
indexes ws = false

no_index : (sign : Sign) (ws : List Word) → indexes (w.Mark (sign_mark sign) ∷ ws) ≡ false
unfolding indexes
no_index s.Either ws = refl
no_index _ ws = refl

-- nothing at the front goes on with a value that binds at least so tightly
pub record Stops (least : ℕ) (ws : List Word) : Type 0 where
  pub sign : (n : ℕ) → least ≤ n → front_sign n ws ≡ None
  pub choice : (n : ℕ) → least ≤ n → question_at n ws ≡ None
  pub index : indexes ws ≡ false

looser : (n k : ℕ) (ws : List Word) → n ≤ k → Stops n ws → Stops k ws
looser n k ws le stops = record { sign = λ l h. stops.sign l (omega (arith, le, h)); choice = λ l h. stops.choice l (omega (arith, le, h)); index = stops.index }

no_sign : (mark : Mark) (ws : List Word) (n : ℕ) → sign_of mark ≡ None → front_sign n (w.Mark mark ∷ ws) ≡ None
unfolding any_sign
no_sign mark ws n is = ap (λ x. if_tight n (sign_read ws x)) is

stop_close : (ws : List Word) → Stops 1 (w.Mark m.Close ∷ ws)
unfolding sign_of question_at indexes
stop_close ws = record { sign = λ n h. no_sign m.Close ws n refl; choice = λ n h. refl; index = refl }

stop_close_index : (ws : List Word) → Stops 1 (w.Mark m.CloseIndex ∷ ws)
unfolding sign_of question_at indexes
stop_close_index ws = record { sign = λ n h. no_sign m.CloseIndex ws n refl; choice = λ n h. refl; index = refl }

stop_comma : (ws : List Word) → Stops 1 (w.Mark m.Comma ∷ ws)
unfolding sign_of question_at indexes
stop_comma ws = record { sign = λ n h. no_sign m.Comma ws n refl; choice = λ n h. refl; index = refl }

stop_colon : (ws : List Word) → Stops 1 (w.Mark m.Colon ∷ ws)
unfolding sign_of question_at indexes
stop_colon ws = record { sign = λ n h. no_sign m.Colon ws n refl; choice = λ n h. refl; index = refl }

no_choice : (n : ℕ) (ws : List Word) → 2 ≤ n → question_at n ws ≡ None
unfolding question_at
no_choice n (w.Mark m.Question ∷ ws) l = ap (λ t. if t then Some ws else None) (above_one n l)
no_choice n _ l = refl

stop_question : (ws : List Word) → Stops 2 (w.Mark m.Question ∷ ws)
unfolding sign_of indexes
stop_question ws = record { sign = λ n h. no_sign m.Question ws n refl; choice = λ n h. no_choice n (w.Mark m.Question ∷ ws) h; index = refl }

sign_front : (sign : Sign) (ws : List Word) (n : ℕ) → front_sign n (w.Mark (sign_mark sign) ∷ ws) ≡ if_tight n (Some (sign, ws))
unfolding any_sign
sign_front sign ws n = ap (λ x. if_tight n (sign_read ws x)) (is_sign sign).is

sign_found : (sign : Sign) (ws : List Word) (n : ℕ) → n ≤ binds sign → front_sign n (w.Mark (sign_mark sign) ∷ ws) ≡ Some (sign, ws)
sign_found sign ws n h = sign_front sign ws n ∙ ap (λ t. if t then None else Some (sign, ws)) (not_below (binds sign) n h)

sign_past : (sign : Sign) (ws : List Word) (n : ℕ) → binds sign < n → front_sign n (w.Mark (sign_mark sign) ∷ ws) ≡ None
sign_past sign ws n h = sign_front sign ws n ∙ ap (λ t. if t then None else Some (sign, ws)) (below (binds sign) n h)

stop_sign : (sign : Sign) (ws : List Word) → Stops (binds sign + 1) (w.Mark (sign_mark sign) ∷ ws)
stop_sign sign ws =
    let low = (is_sign sign).low in
    record {
      sign = λ n h. sign_past sign ws n (omega (arith, h));
      choice = λ n h. no_choice n (w.Mark (sign_mark sign) ∷ ws) (omega (arith, h, low));
      index = no_index sign ws;
    }

none_tight : (n : ℕ) (x : Option (Sign × List Word)) → 12 ≤ n → if_tight n x ≡ None
none_tight n None l = refl
none_tight n (Some p) l =
    let high = (is_sign p.0).high in
    ap (λ t. if t then None else Some p) (below (binds p.0) n (omega (arith, high, l)))

-- no sign between two values binds so tightly as one before a value
stop_tight : (ws : List Word) → indexes ws ≡ false → Stops 12 ws
stop_tight ws index = record { sign = λ n h. none_tight n (any_sign ws) h; choice = λ n h. no_choice n ws (omega (arith, h)); index = index }

no_some : (x : Option (Sign × List Word)) → is_some x ≡ false → x ≡ None
no_some None is = refl
no_some (Some p) is = absurd cc

pub ends : (ws : List Word) → goes_on ws ≡ false → Stops 1 ws
unfolding goes_on question_at indexes
ends (w.Mark m.Question ∷ ws) is = absurd cc
ends (w.Mark m.OpenIndex ∷ ws) is = absurd cc
ends _ is = record { sign = λ n h. ap (if_tight n) (no_some _ is); choice = λ n h. refl; index = refl }

-- ---- rows of signs

-- an operand, and what goes on behind it
abbrev pub row_at : (d t n : ℕ) → List Word → Read
row_at d t n ws = operand_at (value_at d) ws >>= λ x. more_at (value_at d) t n x.0 x.1

grouped : {A B C : Type 0} (x : Result A Fault) (f : A → Result B Fault) (g : B → Result C Fault) → (x >>= λ a. f a >>= g) ≡ ((x >>= f) >>= g)
grouped (Ok a) f g = refl
grouped (Err e) f g = refl

value_is : (d n : ℕ) (ws : List Word) → value_at (suc d) n ws ≡ (row_at d 24 n ws >>= λ y. choice_at (value_at d) n y.0 y.1)
unfolding value_at
value_is d n ws = grouped (operand_at (value_at d) ws) (λ x. more_at (value_at d) 24 n x.0 x.1) (λ y. choice_at (value_at d) n y.0 y.1)

stops_here : (inner : ℕ → List Word → Read) (t n : ℕ) (e : E) (ws : List Word) → front_sign n ws ≡ None → more_at inner t n e ws ≡ Ok (e, ws)
unfolding more_at
stops_here inner zero n e ws is = ap (too_long e ws) is
stops_here inner (suc t) n e ws is = ap (go_on inner (more_at inner t n) e ws) is

no_more : (inner : ℕ → List Word → Read) (n : ℕ) (e : E) (ws : List Word) → question_at n ws ≡ None → choice_at inner n e ws ≡ Ok (e, ws)
unfolding choice_at
no_more inner n e ws is = ap (choice_read inner e ws) is

-- a row behind which nothing goes on
whole : (d n : ℕ) (e : E) (ws rest : List Word) → row_at d 24 n ws ≡ Ok (e, rest) → Stops n rest → value_at (suc d) n ws ≡ Ok (e, rest)
whole d n e ws rest is stops =
    value_is d n ws ∙ ap (λ x. x >>= λ y. choice_at (value_at d) n y.0 y.1) is ∙ no_more (value_at d) n e rest (stops.choice n (omega arith))

-- a row that an operand begins
begun : (d t n : ℕ) (e : E) (ws rest : List Word) → operand_at (value_at d) ws ≡ Ok (e, rest) → row_at d t n ws ≡ more_at (value_at d) t n e rest
begun d t n e ws rest is = ap (λ x. x >>= λ y. more_at (value_at d) t n y.0 y.1) is

-- a sign, and the value behind it
sign_step : (inner : ℕ → List Word → Read) (sign : Sign) (t n : ℕ) (a b : E) (ws rest : List Word) → n ≤ binds sign → inner (binds sign + 1) ws ≡ Ok (b, rest)
    → more_at inner (suc t) n a (w.Mark (sign_mark sign) ∷ ws) ≡ more_at inner t n (Apply (length (w.Mark (sign_mark sign) ∷ ws)) sign a b) rest
unfolding more_at
sign_step inner sign t n a b ws rest fits read =
    ap (go_on inner (more_at inner t n) a (w.Mark (sign_mark sign) ∷ ws)) (sign_found sign ws n fits) ∙ ap (λ x. x >>= λ y. more_at inner t n (Apply (length (w.Mark (sign_mark sign) ∷ ws)) sign a y.0) y.1) read

-- ---- operands

bracket_back : (d : ℕ) (e : E) (ws rest : List Word) → cast_end (ws ++ (w.Mark m.Close ∷ rest)) ≡ None → value_at d 1 (ws ++ (w.Mark m.Close ∷ rest)) ≡ Ok (e, w.Mark m.Close ∷ rest)
    → operand_at (value_at d) (in_brackets ws ++ rest) ≡ Ok (e, rest)
unfolding operand_at begin_of bracket_at behind_mark
bracket_back d e ws rest none read = rw (append_assoc ws (w.Mark m.Close ∷ []) rest, none, read) refl

cast_back : (d : ℕ) (e : E) (ws rest : List Word) → value_at d 12 ws ≡ Ok (e, rest) → operand_at (value_at d) (w.Mark m.Open ∷ w.Name (n.Known k.Word64) ∷ w.Mark m.Close ∷ ws) ≡ Ok (Unsigned e, rest)
unfolding operand_at begin_of bracket_at cast_end is_unsigned
cast_back d e ws rest read = rw read refl

begin_is : (sign : Unary) → begin_of (unary_mark sign) ≡ Some (b.Sign sign)
unfolding begin_of
begin_is u.Plus = refl
begin_is u.Minus = refl
begin_is u.Invert = refl
begin_is u.Not = refl

signed_back : (d : ℕ) (sign : Unary) (e : E) (ws rest : List Word) → value_at d 12 ws ≡ Ok (e, rest) → operand_at (value_at d) (w.Mark (unary_mark sign) ∷ ws) ≡ Ok (Signed (length ws + 1) sign e, rest)
unfolding operand_at prefixed_at
signed_back d sign e ws rest read = rw (begin_is sign, read) refl

number_back : (d n : ℕ) (t : IntegerType) (rest : List Word) → operand_at (value_at d) (w.Number n t ∷ rest) ≡ Ok (Literal (length (w.Number n t ∷ rest)) n t, rest)
unfolding operand_at
number_back d n t rest = refl

named_alone : (inner : ℕ → List Word → Read) (x : Name) (ws : List Word) → indexes ws ≡ false → named_at inner x ws ≡ Ok (Variable (length ws + 1) x, ws)
unfolding named_at indexes
named_alone inner x (w.Mark m.OpenIndex ∷ ws) is = absurd cc
named_alone inner x _ is = refl

variable_back : (d : ℕ) (x : Name) (rest : List Word) → call_of x ≡ None → indexes rest ≡ false → operand_at (value_at d) (w.Name x ∷ rest) ≡ Ok (Variable (length rest + 1) x, rest)
unfolding operand_at
variable_back d x rest is alone = rw is (named_alone (value_at d) x rest alone)

cell_back : (d : ℕ) (a : Name) (i : E) (ws rest : List Word) → call_of a ≡ None → value_at d 1 (ws ++ (w.Mark m.CloseIndex ∷ rest)) ≡ Ok (i, w.Mark m.CloseIndex ∷ rest)
    → operand_at (value_at d) (w.Name a ∷ w.Mark m.OpenIndex ∷ ((ws ++ (w.Mark m.CloseIndex ∷ [])) ++ rest)) ≡ Ok (CellAt (length (w.Mark m.OpenIndex ∷ (ws ++ (w.Mark m.CloseIndex ∷ rest))) + 1) a i, rest)
unfolding operand_at named_at indexed_at behind_mark
cell_back d a i ws rest is read = rw (is, append_assoc ws (w.Mark m.CloseIndex ∷ []) rest, read) refl

call_is : (call : Call) → call_of (call_name call) ≡ Some call
unfolding call_of
call_is c.Min = refl
call_is c.Max = refl

call_back : (d : ℕ) (call : Call) (a : List Word → E) (b : E) (xs ys rest : List Word) → ((r : List Word) → value_at d 1 (xs ++ (w.Mark m.Comma ∷ r)) ≡ Ok (a (w.Mark m.Comma ∷ r), w.Mark m.Comma ∷ r)) → value_at d 1 (ys ++ (w.Mark m.Close ∷ rest)) ≡ Ok (b, w.Mark m.Close ∷ rest)
    → operand_at (value_at d) (w.Name (call_name call) ∷ w.Mark m.Open ∷ ((xs ++ (w.Mark m.Comma ∷ (ys ++ (w.Mark m.Close ∷ [])))) ++ rest)) ≡ Ok (Called (length (w.Mark m.Open ∷ (xs ++ (w.Mark m.Comma ∷ (ys ++ (w.Mark m.Close ∷ rest))))) + 1) call (a (w.Mark m.Comma ∷ (ys ++ (w.Mark m.Close ∷ rest)))) b, rest)
unfolding operand_at called_at behind_mark
call_back d call a b xs ys rest one two =
    rw (call_is call, append_assoc xs (w.Mark m.Comma ∷ (ys ++ (w.Mark m.Close ∷ []))) rest, one ((ys ++ (w.Mark m.Close ∷ [])) ++ rest), append_assoc ys (w.Mark m.Close ∷ []) rest, two) refl

-- ---- no type stands in brackets

no_cast : (x : Name) (ws : List Word) → is_unsigned x ≡ false → cast_end (w.Name x ∷ ws) ≡ None
unfolding cast_end
no_cast x (w.Mark m.Close ∷ ws) is = ap (λ t. if t then Some ws else None) is
no_cast x _ is = refl

side_no_cast : (t : Bool) (e : E) (ws : List Word) → ((r : List Word) → cast_end (words_of_value e ++ r) ≡ None) → cast_end ((if t then in_brackets (words_of_value e) else words_of_value e) ++ ws) ≡ None
unfolding cast_end
side_no_cast true e ws none = refl
side_no_cast false e ws none = none ws

-- ---- values

-- A value is read as itself: at the front of a row, and alone.
pub record Back (e : E) : Type 0 where
  pub tall : 1 ≤ depth e
  pub sort : 1 ≤ sort_of e
  pub short : row e ≤ 24
  pub uncast : (ws : List Word) → cast_end (words_of_value e ++ ws) ≡ None
  pub front : 2 ≤ sort_of e → (d t n : ℕ) (rest : List Word) → depth e ≤ suc d → n ≤ sort_of e → Stops (sort_of e + 1) rest → row_at d (row e + t) n (words_of_value e ++ rest) ≡ more_at (value_at d) t n (value_with_places e rest) rest
  pub value : (d n : ℕ) (rest : List Word) → depth e ≤ d → n ≤ sort_of e → Stops n rest → value_at d n (words_of_value e ++ rest) ≡ Ok (value_with_places e rest, rest)

-- a side in brackets is an operand
bracket_side : (e : E) (d : ℕ) (rest : List Word) → Back e → depth e + 1 ≤ suc d → operand_at (value_at d) (in_brackets (words_of_value e) ++ rest) ≡ Ok (value_with_places e (w.Mark m.Close ∷ rest), rest)
bracket_side e d rest back deep = bracket_back d (value_with_places e (w.Mark m.Close ∷ rest)) (words_of_value e) rest (back.uncast (w.Mark m.Close ∷ rest)) (back.value d 1 (w.Mark m.Close ∷ rest) (omega (arith, deep)) back.sort (stop_close rest))

-- a side at the front of a row
row_side : (t : Bool) (e : E) (k d l n : ℕ) (rest : List Word) → nat_lt (sort_of e) k ≡ t → Back e → (if t then depth e + 1 else depth e) ≤ suc d → n ≤ k → 2 ≤ k → Stops (k + 1) rest
    → row_at d ((if t then 0 else row e) + l) n ((if t then in_brackets (words_of_value e) else words_of_value e) ++ rest) ≡ more_at (value_at d) l n (value_with_places e (if t then w.Mark m.Close ∷ rest else rest)) rest
row_side true e k d l n rest is back deep fits two stops =
    let none : 0 + l ≡ l = omega arith in
    ap (λ i. row_at d i n (in_brackets (words_of_value e) ++ rest)) none ∙ begun d l n (value_with_places e (w.Mark m.Close ∷ rest)) (in_brackets (words_of_value e) ++ rest) rest (bracket_side e d rest back deep)
row_side false e k d l n rest is back deep fits two stops =
    let sort = least (sort_of e) k is in
    back.front (omega (arith, sort, two)) d l n rest deep (omega (arith, sort, fits)) (looser (k + 1) (sort_of e + 1) rest (omega (arith, sort)) stops)

-- a side alone
value_side : (t : Bool) (e : E) (k d : ℕ) (rest : List Word) → nat_lt (sort_of e) k ≡ t → Back e → (if t then depth e + 1 else depth e) ≤ d → Stops k rest
    → value_at d k ((if t then in_brackets (words_of_value e) else words_of_value e) ++ rest) ≡ Ok (value_with_places e (if t then w.Mark m.Close ∷ rest else rest), rest)
value_side true e k zero rest is back deep stops = absurd (omega (arith, deep))
value_side true e k (suc d) rest is back deep stops =
    whole d k (value_with_places e (w.Mark m.Close ∷ rest)) (in_brackets (words_of_value e) ++ rest) rest (begun d 24 k (value_with_places e (w.Mark m.Close ∷ rest)) (in_brackets (words_of_value e) ++ rest) rest (bracket_side e d rest back deep) ∙ stops_here (value_at d) 24 k (value_with_places e (w.Mark m.Close ∷ rest)) rest (stops.sign k (omega arith))) stops
value_side false e k d rest is back deep stops = back.value d k rest deep (least (sort_of e) k is) stops

-- what is read at the front of a row is read alone
by_row : (e : E) → 1 ≤ depth e → row e ≤ 24 → ((d t n : ℕ) (rest : List Word) → depth e ≤ suc d → n ≤ sort_of e → Stops (sort_of e + 1) rest → row_at d (row e + t) n (words_of_value e ++ rest) ≡ more_at (value_at d) t n (value_with_places e rest) rest)
    → (d n : ℕ) (rest : List Word) → depth e ≤ d → n ≤ sort_of e → Stops n rest → value_at d n (words_of_value e ++ rest) ≡ Ok (value_with_places e rest, rest)
by_row e tall short read zero n rest deep fits stops = absurd (omega (arith, tall, deep))
by_row e tall short read (suc d) n rest deep fits stops =
    let is : 24 ≡ row e + (24 - row e) = omega (arith, short) in
    let front = ap (λ l. row_at d l n (words_of_value e ++ rest)) is ∙ read d (24 - row e) n rest deep fits (looser n (sort_of e + 1) rest (omega (arith, fits)) stops) in
    whole d n (value_with_places e rest) (words_of_value e ++ rest) rest (front ∙ stops_here (value_at d) (24 - row e) n (value_with_places e rest) rest (stops.sign n (omega arith))) stops

-- what is an operand
by_operand : (e : E) → row e ≡ 0 → ((d : ℕ) (rest : List Word) → depth e ≤ suc d → indexes rest ≡ false → operand_at (value_at d) (words_of_value e ++ rest) ≡ Ok (value_with_places e rest, rest))
    → (d t n : ℕ) (rest : List Word) → depth e ≤ suc d → n ≤ sort_of e → Stops (sort_of e + 1) rest → row_at d (row e + t) n (words_of_value e ++ rest) ≡ more_at (value_at d) t n (value_with_places e rest) rest
by_operand e none read d t n rest deep fits stops =
    let is : row e + t ≡ t = omega (arith, none) in
    ap (λ l. row_at d l n (words_of_value e ++ rest)) is ∙ begun d t n (value_with_places e rest) (words_of_value e ++ rest) rest (read d rest deep stops.index)

back_operand : (e : E) → 1 ≤ depth e → 1 ≤ sort_of e → row e ≡ 0 → ((ws : List Word) → cast_end (words_of_value e ++ ws) ≡ None)
    → ((d : ℕ) (rest : List Word) → depth e ≤ suc d → indexes rest ≡ false → operand_at (value_at d) (words_of_value e ++ rest) ≡ Ok (value_with_places e rest, rest)) → Back e
back_operand e tall sort none uncast read =
    let front = by_operand e none read in
    record { tall = tall; sort = sort; short = omega (arith, none); uncast = uncast; front = λ low. front; value = by_row e tall (omega (arith, none)) front }

-- ---- two values with a sign between

regroup : (xs : List Word) (word : Word) (ys rest : List Word) → (xs ++ (word ∷ ys)) ++ rest ≡ xs ++ (word ∷ (ys ++ rest))
regroup xs word ys rest = append_assoc xs (word ∷ ys) rest

module _ (l : ℕ) (sign : Sign) (a b : E) (one : Back a) (two : Back b) where
  right_read : (d : ℕ) (rest : List Word) → depth (Apply l sign a b) ≤ suc d → Stops ((sorts sign).0 + 1) rest → value_at d (binds sign + 1) (words_wanted (sorts sign).1 b (words_of_value b) ++ rest) ≡ Ok (value_with_places b (behind_side (sorts sign).1 b rest), rest)
  right_read d rest deep stops =
      let is = is_sign sign in
      let own = is.own in
      let next = is.right in
      let most = le-max_right (depth_in_brackets (sorts sign).0 a (depth a)) (depth_in_brackets (sorts sign).1 b (depth b) + 1) in
      ap (λ l. value_at d l (words_wanted (sorts sign).1 b (words_of_value b) ++ rest)) (sym next)
      ∙ value_side (nat_lt (sort_of b) (sorts sign).1) b (sorts sign).1 d rest refl two (omega (arith, most, deep)) (looser ((sorts sign).0 + 1) (sorts sign).1 rest (omega (arith, own, next)) stops)

  apply_row : (d t n : ℕ) (rest : List Word) → depth (Apply l sign a b) ≤ suc d → n ≤ sort_of (Apply l sign a b) → Stops (sort_of (Apply l sign a b) + 1) rest
      → row_at d (row (Apply l sign a b) + t) n (words_of_value (Apply l sign a b) ++ rest) ≡ more_at (value_at d) t n (value_with_places (Apply l sign a b) rest) rest
  apply_row d t n rest deep fits stops =
      let is = is_sign sign in
      let own = is.own in
      let low = is.low in
      let most = le-max_left (depth_in_brackets (sorts sign).0 a (depth a)) (depth_in_brackets (sorts sign).1 b (depth b) + 1) in
      let behind = words_wanted (sorts sign).1 b (words_of_value b) ++ rest in
      let count : row (Apply l sign a b) + t ≡ (if nat_lt (sort_of a) (sorts sign).0 then 0 else row a) + suc t = omega arith in
      ap (λ c. row_at d c n (words_of_value (Apply l sign a b) ++ rest)) count
      ∙ ap (row_at d ((if nat_lt (sort_of a) (sorts sign).0 then 0 else row a) + suc t) n) (regroup (words_wanted (sorts sign).0 a (words_of_value a)) (w.Mark (sign_mark sign)) (words_wanted (sorts sign).1 b (words_of_value b)) rest)
      ∙ row_side (nat_lt (sort_of a) (sorts sign).0) a (sorts sign).0 d (suc t) n (w.Mark (sign_mark sign) ∷ behind) refl one (omega (arith, most, deep)) fits (omega (arith, low, own))
      (looser (binds sign + 1) ((sorts sign).0 + 1) (w.Mark (sign_mark sign) ∷ behind) (omega (arith, own)) (stop_sign sign behind))
      ∙ sign_step (value_at d) sign t n (value_with_places a (behind_side (sorts sign).0 a (w.Mark (sign_mark sign) ∷ behind))) (value_with_places b (behind_side (sorts sign).1 b rest)) behind rest (omega (arith, own, fits)) (right_read d rest deep stops)

  apply_no_cast : (ws : List Word) → cast_end (words_of_value (Apply l sign a b) ++ ws) ≡ None
  apply_no_cast ws =
      ap cast_end (regroup (words_wanted (sorts sign).0 a (words_of_value a)) (w.Mark (sign_mark sign)) (words_wanted (sorts sign).1 b (words_of_value b)) ws)
      ∙ side_no_cast (nat_lt (sort_of a) (sorts sign).0) a (w.Mark (sign_mark sign) ∷ (words_wanted (sorts sign).1 b (words_of_value b) ++ ws)) one.uncast

  back_apply : row (Apply l sign a b) ≤ 24 → Back (Apply l sign a b)
  back_apply short =
      let low = (is_sign sign).low in
      let own = (is_sign sign).own in
      let most = le-max_right (depth_in_brackets (sorts sign).0 a (depth a)) (depth_in_brackets (sorts sign).1 b (depth b) + 1) in
      let tall : 1 ≤ depth (Apply l sign a b) = omega (arith, most) in
      record {
        tall = tall;
        sort = omega (arith, low, own);
        short = short;
        uncast = apply_no_cast;
        front = λ low. apply_row;
        value = by_row (Apply l sign a b) tall short apply_row;
      }

-- ---- choices

choice_step : (inner : ℕ → List Word → Read) (n : ℕ) (e a b : E) (ws vs rest : List Word) → n ≤ 1 → inner 1 ws ≡ Ok (a, w.Mark m.Colon ∷ vs) → inner 1 vs ≡ Ok (b, rest)
    → choice_at inner n e (w.Mark m.Question ∷ ws) ≡ Ok (Choose (length (w.Mark m.Question ∷ ws)) e a b, rest)
unfolding choice_at question_at behind_mark
choice_step inner n e a b ws vs rest l one two = rw (up_to_one n l, one, two) refl

module _ (l : ℕ) (e a b : E) (test : Back e) (one : Back a) (other : Back b) where
  choose_words : (rest : List Word) → words_of_value (Choose l e a b) ++ rest ≡ words_wanted 2 e (words_of_value e) ++ (w.Mark m.Question ∷ (words_of_value a ++ (w.Mark m.Colon ∷ (words_of_value b ++ rest))))
  choose_words rest =
      regroup (words_wanted 2 e (words_of_value e)) (w.Mark m.Question) (words_of_value a ++ (w.Mark m.Colon ∷ words_of_value b)) rest
      ∙ ap (λ ws. words_wanted 2 e (words_of_value e) ++ (w.Mark m.Question ∷ ws)) (regroup (words_of_value a) (w.Mark m.Colon) (words_of_value b) rest)

  test_row : (d n : ℕ) (ws : List Word) → depth_in_brackets 2 e (depth e) ≤ suc d → n ≤ 1 → row_at d 24 n (words_wanted 2 e (words_of_value e) ++ (w.Mark m.Question ∷ ws)) ≡ Ok (value_with_places e (behind_side 2 e (w.Mark m.Question ∷ ws)), w.Mark m.Question ∷ ws)
  unfolding sign_of
  test_row d n ws deep low =
      let short = test.short in
      let signs = (if nat_lt (sort_of e) 2 then 0 else row e) in
      let few : signs ≤ 24 = signs_short (nat_lt (sort_of e) 2) in
      let is : 24 ≡ signs + (24 - signs) = omega (arith, few) in
      ap (λ t. row_at d t n (words_wanted 2 e (words_of_value e) ++ (w.Mark m.Question ∷ ws))) is
      ∙ row_side (nat_lt (sort_of e) 2) e 2 d (24 - signs) n (w.Mark m.Question ∷ ws) refl test deep (omega (arith, low)) (omega arith) (looser 2 3 (w.Mark m.Question ∷ ws) (omega arith) (stop_question ws))
      ∙ stops_here (value_at d) (24 - signs) n (value_with_places e (behind_side 2 e (w.Mark m.Question ∷ ws))) (w.Mark m.Question ∷ ws) (no_sign m.Question ws n refl)
    where
      signs_short : (t : Bool) → (if t then 0 else row e) ≤ 24
      signs_short true = omega arith
      signs_short false = omega (arith, test.short)

  choose_value : (d n : ℕ) (rest : List Word) → depth (Choose l e a b) ≤ d → n ≤ 1 → Stops n rest → value_at d n (words_of_value (Choose l e a b) ++ rest) ≡ Ok (value_with_places (Choose l e a b) rest, rest)
  choose_value zero n rest deep least stops =
      let most = le-max_right (depth_in_brackets 2 e (depth e)) (max (depth a) (depth b) + 1) in
      absurd (omega (arith, most, deep))
  choose_value (suc d) n rest deep least stops =
      let first = le-max_left (depth_in_brackets 2 e (depth e)) (max (depth a) (depth b) + 1) in
      let most = le-max_right (depth_in_brackets 2 e (depth e)) (max (depth a) (depth b) + 1) in
      let left = le-max_left (depth a) (depth b) in
      let right = le-max_right (depth a) (depth b) in
      let ws = words_of_value a ++ (w.Mark m.Colon ∷ (words_of_value b ++ rest)) in
      ap (value_at (suc d) n) (choose_words rest)
      ∙ value_is d n (words_wanted 2 e (words_of_value e) ++ (w.Mark m.Question ∷ ws))
      ∙ ap (λ x. x >>= λ y. choice_at (value_at d) n y.0 y.1) (test_row d n ws (omega (arith, first, deep)) least)
      ∙ choice_step (value_at d) n (value_with_places e (behind_side 2 e (w.Mark m.Question ∷ ws))) (value_with_places a (w.Mark m.Colon ∷ (words_of_value b ++ rest))) (value_with_places b rest) ws (words_of_value b ++ rest) rest least
      (one.value d 1 (w.Mark m.Colon ∷ (words_of_value b ++ rest)) (omega (arith, most, left, deep)) one.sort (stop_colon (words_of_value b ++ rest)))
      (other.value d 1 rest (omega (arith, most, right, deep)) other.sort (looser n 1 rest least stops))

  choose_no_cast : (ws : List Word) → cast_end (words_of_value (Choose l e a b) ++ ws) ≡ None
  choose_no_cast ws =
      ap cast_end (choose_words ws)
      ∙ side_no_cast (nat_lt (sort_of e) 2) e (w.Mark m.Question ∷ (words_of_value a ++ (w.Mark m.Colon ∷ (words_of_value b ++ ws)))) test.uncast

  back_choose : Back (Choose l e a b)
  back_choose =
      let most = le-max_right (depth_in_brackets 2 e (depth e)) (max (depth a) (depth b) + 1) in
      record {
        tall = omega (arith, most);
        sort = omega arith;
        short = omega arith;
        uncast = choose_no_cast;
        front = λ low. absurd (omega (arith, low));
        value = choose_value;
      }

-- ---- all values

back_literal : (l n : ℕ) (t : IntegerType) → Back (Literal l n t)
unfolding cast_end
back_literal l n t = back_operand (Literal l n t) (omega arith) (omega arith) refl (λ ws. refl) (λ d rest deep alone. number_back d n t rest)

back_variable : (l : ℕ) (x : Name) → IsName x → Back (Variable l x)
back_variable l x is = back_operand (Variable l x) (omega arith) (omega arith) refl (λ ws. no_cast x ws is.1) (λ d rest deep alone. variable_back d x rest is.0 alone)

back_cell : (l : ℕ) (a : Name) (i : E) → IsName a → Back i → Back (CellAt l a i)
back_cell l a i is inner =
    back_operand (CellAt l a i) (omega arith) (omega arith) refl (λ ws. no_cast a _ is.1)
    (λ d rest deep alone. cell_back d a (value_with_places i (w.Mark m.CloseIndex ∷ rest)) (words_of_value i) rest is.0 (inner.value d 1 (w.Mark m.CloseIndex ∷ rest) (omega (arith, deep)) inner.sort (stop_close_index rest)))

back_cast : (e : E) → Back e → Back (Unsigned e)
unfolding cast_end
back_cast e inner =
    back_operand (Unsigned e) (omega arith) (omega arith) refl (λ ws. refl)
    (λ d rest deep alone. cast_back d (value_with_places e (behind_side 12 e rest)) (words_wanted 12 e (words_of_value e) ++ rest) rest (value_side (nat_lt (sort_of e) 12) e 12 d rest refl inner (omega (arith, deep)) (stop_tight rest alone)))

back_signed : (l : ℕ) (sign : Unary) (e : E) → Back e → Back (Signed l sign e)
unfolding cast_end
back_signed l sign e inner =
    back_operand (Signed l sign e) (omega arith) (omega arith) refl (λ ws. refl)
    (λ d rest deep alone. signed_back d sign (value_with_places e (behind_side 12 e rest)) (words_wanted 12 e (words_of_value e) ++ rest) rest (value_side (nat_lt (sort_of e) 12) e 12 d rest refl inner (omega (arith, deep)) (stop_tight rest alone)))

back_call : (l : ℕ) (call : Call) (a b : E) → Back a → Back b → Back (Called l call a b)
unfolding cast_end
back_call l call a b one two =
    let left = le-max_left (depth a) (depth b) in
    let right = le-max_right (depth a) (depth b) in
    back_operand (Called l call a b) (omega arith) (omega arith) refl (λ ws. refl)
    (λ d rest deep alone. call_back d call (value_with_places a) (value_with_places b (w.Mark m.Close ∷ rest)) (words_of_value a) (words_of_value b) rest
    (λ r. one.value d 1 (w.Mark m.Comma ∷ r) (omega (arith, left, deep)) one.sort (stop_comma r))
    (two.value d 1 (w.Mark m.Close ∷ rest) (omega (arith, right, deep)) two.sort (stop_close rest)))

pub back : (e : E) → IsPlain e → Back e
back (Literal l n t) plain = back_literal l n t
back (Variable l x) plain = back_variable l x plain
back (CellAt l a i) plain = back_cell l a i plain.0 (back i plain.1)
back (Unsigned e) plain = back_cast e (back e plain)
back (Signed l sign e) plain = back_signed l sign e (back e plain)
back (Called l call a b) plain = back_call l call a b (back a plain.0) (back b plain.1)
back (Apply l sign a b) plain = back_apply l sign a b (back a plain.1) (back b plain.2) plain.0
back (Choose l e a b) plain = back_choose l e a b (back e plain.0) (back a plain.1) (back b plain.2)
