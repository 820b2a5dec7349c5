-- What `main` does, from left to right.
use Rattle.std.specs.Prelude.{Bool, true, false, ◌==◌, ◌&&◌, ◌||◌, List, [], ◌∷◌, ◌++◌, length, Option, Some, None, Result, Ok, if◌then◌else◌}
use Rattle.ot_c_words.specs.Reading.{◌>>=◌, steps}
use Rattle.ot_c_words.specs.declared.known.Known.TheVariants as k
use Rattle.ot_c_words.specs.declared.mark.Mark.TheVariants as m
use Rattle.ot_c_words.specs.declared.word.Name.{Name}
use Rattle.ot_c_words.specs.declared.word.Name.TheVariants as n
use Rattle.ot_c_words.specs.declared.word.Word.{Word}
use Rattle.ot_c_words.specs.declared.word.Word.TheVariants as w
use Rattle.ot_c_statements.specs.declared.fault.Fault.{Fault}
use Rattle.ot_c_statements.specs.declared.fault.Fault.TheVariants.{TooLong}
use Rattle.ot_c_files.specs.Program.{Act, Local, Region, Does}
use Rattle.ot_c_statements.specs.Statements.{statement_at}
use Rattle.ot_c_files.specs.Declarations.{declares, declaration_at}
use Rattle.ot_c_files.specs.Regions.{parallel_end, region_at}

unfoldable pub is_return : Name → Bool
is_return (n.Known k.Return) = true
is_return _ = false

-- behind the end of `main`, and `return 0;` where that stands before it
unfoldable pub main_end : List Word → Option (List Word)
main_end (w.Mark m.CloseBlock ∷ ws) = Some ws
main_end (w.Name n ∷ w.Number i t ∷ w.Mark m.Semicolon ∷ w.Mark m.CloseBlock ∷ ws) = if is_return n && (i == 0) then Some ws else None
main_end _ = None

-- a statement, or a declaration
unfoldable pub plain_at : List Word → Result (Act × List Word) Fault
plain_at ws = if declares ws then (declaration_at ws >>= λ x. Ok (Local x.0, x.1)) else (statement_at 48 ws >>= λ x. Ok (Does x.0, x.1))

abbrev pub region_or_plain : List Word → Option (List Word) → Result (Act × List Word) Fault
region_or_plain ws (Some rest) = region_at rest >>= λ x. Ok (Region (length ws) x.0 x.1, x.2)
region_or_plain ws None = plain_at ws

unfoldable pub act_at : List Word → Result (Act × List Word) Fault
act_at ws = region_or_plain ws (parallel_end ws)

abbrev pub is_region : Act → Bool
is_region (Local d) = false
is_region (Region left cs b) = true
is_region (Does s) = false

-- whether there is a parallel region
abbrev pub has_region : List Act → Bool
has_region [] = false
has_region (a ∷ rest) = is_region a || has_region rest

abbrev pub act_or_end : List Act → List Word → Option (List Word) → Result (List Act × Bool × List Word) Fault
act_or_end front ws (Some rest) = Ok (front, false, rest)
act_or_end front ws None = act_at ws >>= λ x. Ok (front ++ x.0 ∷ [], true, x.1)

unfoldable pub main_step : List Act → List Word → Result (List Act × Bool × List Word) Fault
main_step front ws = act_or_end front ws (main_end ws)

-- what `main` does, up to its end
abbrev pub main_at : List Word → Result (List Act × List Word) Fault
main_at ws = steps TooLong main_step (length ws) [] ws
