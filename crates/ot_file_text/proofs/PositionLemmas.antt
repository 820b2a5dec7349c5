-- The position behind one byte more, and behind more bytes.
use Rattle.std.proofs.Common.{◌≡◌, ℕ, ◌+◌, ◌-◌, ◌≤◌, ◌<◌, suc, Bool, true, false, cond, not, List, [], ◌∷◌, ◌++◌, length, take, drop, get_or, reverse, refl, ap, sym, ◌∙◌, arith, append_assoc}
use Rattle.std.specs.Prelude.{count_by, take_while}
use Rattle.std.proofs.Math.Seq.{take-add}
use Rattle.std.proofs.lemmas.List.{reverse-append, take_more}
use Rattle.std.proofs.lemmas.List.Sums.{sum_by_push, sum_by-cons}
use Rattle.ot_file_text.specs.Positions.{is_end, begins_character, last_line, position_behind, position_after, position_of}
use Rattle.ot_file_text.specs.declared.position.Position.{Position}

abbrev positioned : ℕ → ℕ → Position
positioned line column = record { line = line; column = column }

taken : (ends : Bool) (b : ℕ) (line : List ℕ) (k : ℕ) → take (cond (not ends) (1 + k) 0) (b ∷ line) ≡ cond ends [] (b ∷ take k line)
taken true b line k = refl
taken false b line k = let e : 1 + k ≡ suc k = omega arith in ap (λ n. take n (b ∷ line)) e

last_line_push : (text : List ℕ) (b : ℕ) → last_line (text ++ b ∷ []) ≡ cond (is_end b) [] (b ∷ last_line text)
last_line_push text b = ap (take_while (λ c. not (is_end c))) (reverse-append text (b ∷ [])) ∙ taken (is_end b) b (reverse text) _

counted : (ends : Bool) (b : ℕ) (line : List ℕ) → count_by begins_character (cond ends [] (b ∷ line)) ≡ cond ends 0 (cond (begins_character b) 1 0 + count_by begins_character line)
counted true b line = refl
counted false b line = sum_by-cons (λ c. cond (begins_character c) 1 0) b line

by_byte : (ends begins : Bool) (lines characters : ℕ) →
    positioned (lines + cond ends 1 0 + 1) (cond ends 0 (cond begins 1 0 + characters) + 1)
    ≡ cond ends (positioned (lines + 1 + 1) 1) (cond begins (positioned (lines + 1) (characters + 1 + 1)) (positioned (lines + 1) (characters + 1)))
by_byte true begins lines characters = refl
by_byte false true lines characters = let l : lines + 0 + 1 ≡ lines + 1 = omega arith in let c : 1 + characters + 1 ≡ characters + 1 + 1 = omega arith in cc
by_byte false false lines characters = let l : lines + 0 + 1 ≡ lines + 1 = omega arith in let c : 0 + characters + 1 ≡ characters + 1 = omega arith in cc

pub behind_more : (text : List ℕ) (b : ℕ) → position_behind (text ++ b ∷ []) ≡ position_after (position_behind text) b
behind_more text b =
    ap (λ lines. positioned (lines + 1) (count_by begins_character (last_line (text ++ b ∷ [])) + 1)) (sum_by_push (λ c. cond (is_end c) 1 0) text b)
    ∙ ap (λ characters. positioned (count_by is_end text + cond (is_end b) 1 0 + 1) (characters + 1)) (ap (count_by begins_character) (last_line_push text b) ∙ counted (is_end b) b (last_line text))
    ∙ by_byte (is_end b) (begins_character b) (count_by is_end text) (count_by begins_character (last_line text))

-- one byte further in bytes behind others
pub behind_byte : (before bytes : List ℕ) (i : ℕ) → i < length bytes →
    position_behind (before ++ take (i + 1) bytes) ≡ position_after (position_behind (before ++ take i bytes)) (get_or bytes i 0)
behind_byte before bytes i h =
    ap (λ more. position_behind (before ++ more)) (take_more bytes i 0 h)
    ∙ ap position_behind (sym (append_assoc before (take i bytes) (get_or bytes i 0 ∷ [])))
    ∙ behind_more (before ++ take i bytes) (get_or bytes i 0)

line_by : (ends begins : Bool) (line column : ℕ) → (cond ends (positioned (line + 1) 1) (cond begins (positioned line (column + 1)) (positioned line column))).line ≤ line + 1
line_by true begins line column = omega arith
line_by false true line column = omega arith
line_by false false line column = omega arith

column_by : (ends begins : Bool) (line column : ℕ) → (cond ends (positioned (line + 1) 1) (cond begins (positioned line (column + 1)) (positioned line column))).column ≤ column + 1
column_by true begins line column = omega arith
column_by false true line column = omega arith
column_by false false line column = omega arith

pub line_after : (p : Position) (b : ℕ) → (position_after p b).line ≤ p.line + 1
line_after p b = line_by (is_end b) (begins_character b) p.line p.column

pub column_after : (p : Position) (b : ℕ) → (position_after p b).column ≤ p.column + 1
column_after p b = column_by (is_end b) (begins_character b) p.line p.column

-- from one byte of a text to a later one
pub behind_between : (text : List ℕ) (from to : ℕ) → from ≤ to → position_behind (take from text ++ take (to - from) (drop from text)) ≡ position_of text to
behind_between text from to h =
    let e : from + (to - from) ≡ to = omega arith in
    ap position_behind (sym (take-add from (to - from) text) ∙ ap (λ n. take n text) e)
