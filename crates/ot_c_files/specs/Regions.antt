-- A parallel region around what one thread does (OpenMP API 5.2, sections 10.1, 10.5 and 11.1).
use Rattle.std.specs.Prelude.{Bool, true, false, List, ◌∷◌, length, Option, Some, None, Result, Ok, Err, if◌then◌else◌}
use Rattle.ot_c_words.specs.Reading.{◌>>=◌, behind_mark}
use Rattle.ot_c_words.specs.declared.known.Known.TheVariants as k
use Rattle.ot_c_words.specs.declared.mark.Mark.TheVariants as m
use Rattle.ot_c_words.specs.declared.word.Name.{Name}
use Rattle.ot_c_words.specs.declared.word.Name.TheVariants as n
use Rattle.ot_c_words.specs.declared.word.Word.{Word}
use Rattle.ot_c_words.specs.declared.word.Word.TheVariants as w
use Rattle.ot_c_expressions.specs.Tree.{Claim}
use Rattle.ot_c_statements.specs.declared.fault.Fault.{Fault}
use Rattle.ot_c_statements.specs.declared.fault.Fault.TheVariants.{NoMark, NoSingle}
use Rattle.ot_c_statements.specs.declared.directive.Directive.TheVariants as d
use Rattle.ot_c_statements.specs.Tree.{Body}
use Rattle.ot_c_statements.specs.Reading.{Behind}
use Rattle.ot_c_statements.specs.Directives.{own_clauses}
use Rattle.ot_c_statements.specs.Statements.{Bodied, body_at, statement_at}

unfoldable pub is_parallel : Name → Bool
is_parallel (n.Known k.Parallel) = true
is_parallel _ = false

-- behind `#pragma omp parallel`
unfoldable pub parallel_end : List Word → Option (List Word)
parallel_end (w.Pragma ∷ w.Name n ∷ ws) = if is_parallel n then Some ws else None
parallel_end _ = None

-- what follows is done by one thread
unfoldable pub is_single : Name → Bool
is_single (n.Known k.Single) = true
is_single (n.Known k.Master) = true
is_single (n.Known k.Masked) = true
is_single _ = false

-- `#pragma omp single` without a clause
unfoldable pub single_at : List Word → Behind
single_at (w.Pragma ∷ w.Name n ∷ w.End ∷ ws) = if is_single n then Ok ws else Err (NoSingle (length (w.Pragma ∷ w.Name n ∷ w.End ∷ ws)))
single_at ws = Err (NoSingle (length ws))

unfoldable pub alone_at : List Word → Bodied
alone_at ws = single_at ws >>= λ rest. body_at (statement_at 48) rest

-- what one thread does, and no more, in a block or not
unfoldable pub within_at : List Word → Bodied
within_at (w.Mark m.OpenBlock ∷ ws) = alone_at ws >>= λ x. behind_mark NoMark m.CloseBlock x.1 >>= λ rest. Ok (x.0, rest)
within_at ws = alone_at ws

-- behind `#pragma omp parallel`
unfoldable pub region_at : List Word → Result (List Claim × Body × List Word) Fault
region_at ws = own_clauses d.Parallel ws >>= λ x. within_at x.1 >>= λ body. Ok (x.0, body.0, body.1)
