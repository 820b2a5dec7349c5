-- Words that have to stand at the front; values and clauses.
use Rattle.std.specs.Prelude.{Bool, true, false, List, [], ◌∷◌, ◌++◌, length, Option, Some, None, Result, Ok, Err}
use Rattle.ot_c_words.specs.Reading.{◌>>=◌, steps, behind_mark}
use Rattle.ot_c_words.specs.declared.mark.Mark.TheVariants as m
use Rattle.ot_c_words.specs.declared.word.Word.{Word}
use Rattle.ot_c_words.specs.declared.word.Word.TheVariants as w
use Rattle.ot_c_expressions.specs.declared.fault.Fault as part
use Rattle.ot_c_expressions.specs.Tree.{E, Claim}
use Rattle.ot_c_expressions.specs.Reading.{value_at}
use Rattle.ot_c_expressions.specs.Clauses.{clauses_at}
use Rattle.ot_c_statements.specs.declared.fault.Fault.{Fault}
use Rattle.ot_c_statements.specs.declared.fault.Fault.TheVariants.{Part, NoMark, NoText, NoDirective, TooLong}

-- ---- words that have to stand at the front

abbrev pub Behind : Type 0
Behind = Result (List Word) Fault

-- the end of a directive
unfoldable pub end_at : List Word → Behind
end_at (w.End ∷ ws) = Ok ws
end_at ws = Err (NoDirective (length ws))

unfoldable pub text_at : List Word → Behind
text_at (w.Text ∷ ws) = Ok ws
text_at ws = Err (NoText (length ws))

-- whether a comma stands here, and what is behind it
unfoldable pub another : List Word → Bool × List Word
another (w.Mark m.Comma ∷ ws) = (true, ws)
another ws = (false, ws)

-- ---- values and clauses

abbrev pub in_part : {Y : Type 0} → Result Y part.Fault → Result Y Fault
in_part (Ok y) = Ok y
in_part (Err f) = Err (Part f)

abbrev pub value : List Word → Result (E × List Word) Fault
value ws = in_part (value_at 72 1 ws)

-- `[3]`, or nothing
unfoldable pub index_at : List Word → Result (Option E × List Word) Fault
index_at (w.Mark m.OpenIndex ∷ ws) = value ws >>= λ x. behind_mark NoMark m.CloseIndex x.1 >>= λ rest. Ok (Some x.0, rest)
index_at ws = Ok (None, ws)

abbrev pub clauses : List Word → Result (List Claim × List Word) Fault
clauses ws = in_part (clauses_at ws)

-- a value behind others, and whether another follows
unfoldable pub values_step : List E → List Word → Result (List E × Bool × List Word) Fault
values_step front ws = value ws >>= λ x. Ok (front ++ x.0 ∷ [], (another x.1).0, (another x.1).1)

-- values with commas between them
abbrev pub values : List Word → Result (List E × List Word) Fault
values ws = steps TooLong values_step (length ws) [] ws
