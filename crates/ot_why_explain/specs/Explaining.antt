-- A text without its remarks, and which remarks stand behind which reply.
use Rattle.std.specs.Prelude.{◌≡◌, [], ℕ, List, ◌∷◌, ◌++◌, length, codes, Bool, true, false, ◌||◌, Option, Some, None, Result, Ok, ◌-◌, All, flat_map, if◌then◌else◌, ◌==◌, is_some, option_and_then}
use Rattle.std.specs.Io.KnownBytes.{Appends, Consumes}
use Rattle.ot_store.specs.Refusals.{usual_limits}
use Rattle.ot_book.specs.Books.{Register, new_register, line_logged, reply_at}
use Rattle.ot_session.specs.Session.{HasNoEnd, closing, heard_in, Serves, Lines, texts, after, reply_line}
use Rattle.ot_session.specs.declared.fault.End.{End}
use Rattle.ot_session.specs.declared.fault.End.TheVariants.{Full, LongLine}
use Rattle.ot_session.specs.declared.fault.FrontFault.{FrontFault}
use Rattle.ot_why_explain.specs.declared.explaining.Explained.{Explained}
use Rattle.ot_why_explain.specs.declared.explaining.Explained.TheVariants.{AllTaken, SomeRefused}
use Rattle.std.specs.Fmt.{decimal}
use Rattle.ot_book.specs.Answers.{code_in}

-- a byte more in front of the first line
abbrev pub with_first : ℕ → List (List ℕ) → List (List ℕ)
with_first byte [] = (byte ∷ []) ∷ []
with_first byte (line ∷ lines) = (byte ∷ line) ∷ lines

-- the lines of a text, each with its LF; behind the last LF there may be one without
abbrev pub lines_of : List ℕ → List (List ℕ)
lines_of [] = []
lines_of (byte ∷ text) = if byte == 10 then (byte ∷ []) ∷ lines_of text else with_first byte (lines_of text)

-- the line, or nothing where it begins with `#`
abbrev pub unless_remark : List ℕ → List ℕ
unless_remark [] = []
unless_remark (byte ∷ line) = if byte == 35 then [] else byte ∷ line

-- the text without its lines that begin with `#`
abbrev pub without_remarks : List ℕ → List ℕ
without_remarks text = flat_map unless_remark (lines_of text)

-- a line behind `# `, and an LF
abbrev pub remark_line : List ℕ → List ℕ
remark_line line = 35 ∷ 32 ∷ (line ++ 10 ∷ [])

-- ---- remarks on replies

-- the code that the last reply of a log tells, where it is a refusal
abbrev pub last_code : Register → Option ℕ
last_code book = option_and_then (λ r. code_in r.1) (reply_at book (length book.log - 1))

-- a line that begins with the code
abbrev pub with_code : ℕ → List ℕ → List ℕ
with_code code line = decimal code ++ (codes ": " ++ line)

-- remarks, of which the first begins with the code
pub record OpensWith (code : ℕ) (text : List ℕ) : Type 0 where
  pub first : List ℕ
  pub later : List (List ℕ)
  pub are : All HasNoEnd (with_code code first ∷ later)
  pub is : text ≡ flat_map remark_line (with_code code first ∷ later)

-- the remarks on a reply: none where it tells no code, and else the first of them begins with that code
abbrev pub AreOn : Option ℕ → List ℕ → Type 0
AreOn None text = text ≡ []
AreOn (Some code) text = OpensWith code text

-- the replies to the lines, one after another, and behind each the remarks on it
abbrev pub Remarked : Register → Lines → List ℕ → Type 0
Remarked book [] text = text ≡ []
Remarked book (line ∷ lines) text =
    (remarks : List ℕ) × (later : List ℕ) × (text ≡ reply_line book line ++ (remarks ++ later))
    × AreOn (last_code (line_logged book line.0 line.1)) remarks × Remarked (line_logged book line.0 line.1) lines later

-- whether one of the replies to the lines is a refusal
abbrev pub refuses : Register → Lines → Bool
refuses book [] = false
refuses book (line ∷ lines) = is_some (last_code (line_logged book line.0 line.1)) || refuses (line_logged book line.0 line.1) lines

-- the remarks on the replies to the lines, one after another, without the replies
abbrev pub RemarksOn : Register → Lines → List ℕ → Type 0
RemarksOn book [] text = text ≡ []
RemarksOn book (line ∷ lines) text =
    (remarks : List ℕ) × (later : List ℕ) × (text ≡ remarks ++ later)
    × AreOn (last_code (line_logged book line.0 line.1)) remarks × RemarksOn (line_logged book line.0 line.1) lines later

-- An explained session: without its remarks it is a session like any other.

-- the book of the tenant `t1` before its first request
abbrev pub beginner : Register
beginner = new_register (codes "t1") usual_limits []

-- What was written, without its lines that begin with `#`, is what a session writes that reads the same bytes, begins
-- with the same book and comes to the same result, each reply for each line.
pub record Explains (first new : Register) (ahead left : Option (List ℕ)) (latest : ℕ) (start held : Option (List ℕ)) (result : Result End FrontFault) : Type 0 where
  pub text : List ℕ
  pub writes : Appends start held text
  pub serves : Serves first new ahead left latest (Some []) (Some (without_remarks text)) result

-- whether the session ends at a line that it doesn't take
abbrev pub is_untaken : End → Bool
is_untaken Full = true
is_untaken LongLine = true
is_untaken end = false

-- what is said where something is refused, and where nothing is
abbrev pub says : Bool → Explained
says true = SomeRefused
says false = AllTaken

-- What was written is the reply to each line that was logged, with the remarks on it behind it, and then how the session
-- closes. It is said whether one of the replies is a refusal, or the last line wasn't taken.
pub record Remarks (first new : Register) (ahead left start held : Option (List ℕ)) (end : End) (said : Explained) : Type 0 where
  pub bytes : List ℕ
  pub reads : Consumes ahead left bytes
  pub lines : Lines
  pub others : List (List ℕ)
  pub hears : (heard_in first bytes).lines ≡ texts lines ++ others
  pub logs : new ≡ after first lines
  pub replies : List ℕ
  pub remarked : Remarked first lines replies
  pub writes : Appends start held (replies ++ closing (Some end))
  pub tells : said ≡ says (refuses first lines || is_untaken end)

-- A session of which the remarks alone are written.

-- What was written are the remarks on the replies to the lines that were logged, and nothing else. They were logged by a
-- session whose own replies nobody kept, and it came to this end; what is said is what is said of it with its replies.
pub record RemarksAlone (first new : Register) (ahead left : Option (List ℕ)) (latest : ℕ) (start held : Option (List ℕ)) (end : End) (said : Explained) : Type 0 where
  pub serves : Serves first new ahead left latest None None (Ok end)
  pub bytes : List ℕ
  pub reads : Consumes ahead left bytes
  pub lines : Lines
  pub others : List (List ℕ)
  pub hears : (heard_in first bytes).lines ≡ texts lines ++ others
  pub logs : new ≡ after first lines
  pub text : List ℕ
  pub remarks : RemarksOn first lines text
  pub writes : Appends start held text
  pub tells : said ≡ says (refuses first lines || is_untaken end)
