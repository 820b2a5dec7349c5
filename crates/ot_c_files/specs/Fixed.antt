-- Words that have to stand at the front of what is read of a known function.
use Rattle.std.specs.Prelude.{ℕ, ◌==◌, List, ◌∷◌, length, Result, Ok, Err, if◌then◌else◌}
use Rattle.ot_c_words.specs.declared.known.Known.TheVariants as k
use Rattle.ot_c_words.specs.declared.word.Name.TheVariants as n
use Rattle.ot_c_words.specs.declared.word.Word.{Word}
use Rattle.ot_c_words.specs.declared.word.Word.TheVariants as w
use Rattle.ot_c_statements.specs.declared.fault.Fault.{Fault}
use Rattle.ot_c_statements.specs.declared.fault.Fault.TheVariants.{NoMark, NoName}
use Rattle.ot_c_statements.specs.Reading.{Behind}

unfoldable pub return_at : List Word → Behind
return_at (w.Name (n.Known k.Return) ∷ ws) = Ok ws
return_at ws = Err (NoMark (length ws))

unfoldable pub const_at : List Word → Behind
const_at (w.Name (n.Known k.Const) ∷ ws) = Ok ws
const_at ws = Err (NoMark (length ws))

unfoldable pub for_at : List Word → Behind
for_at (w.Name (n.Known k.For) ∷ ws) = Ok ws
for_at ws = Err (NoMark (length ws))

unfoldable pub printf_at : List Word → Behind
printf_at (w.Name (n.Known k.Printf) ∷ ws) = Ok ws
printf_at ws = Err (NoMark (length ws))

unfoldable pub zero_at : List Word → Behind
zero_at (w.Number i t ∷ ws) = if i == 0 then Ok ws else Err (NoMark (length (w.Number i t ∷ ws)))
zero_at ws = Err (NoMark (length ws))

-- a character between single quotes
unfoldable pub letter_at : ℕ → List Word → Behind
letter_at wanted (w.Letter b ∷ ws) = if b == wanted then Ok ws else Err (NoMark (length (w.Letter b ∷ ws)))
letter_at wanted ws = Err (NoMark (length ws))

-- a name that means nothing by itself
unfoldable pub own_name_at : List Word → Result (ℕ × List Word) Fault
own_name_at (w.Name (n.Other i) ∷ ws) = Ok (i, ws)
own_name_at ws = Err (NoName (length ws))

-- this name
unfoldable pub this_name_at : ℕ → List Word → Behind
this_name_at wanted (w.Name (n.Other i) ∷ ws) = if i == wanted then Ok ws else Err (NoName (length (w.Name (n.Other i) ∷ ws)))
this_name_at wanted ws = Err (NoName (length ws))
