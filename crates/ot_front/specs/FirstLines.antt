-- Reading a first line byte by byte.
use Rattle.std.specs.Prelude.{List, ℕ, [], ◌∷◌, ◌++◌, Result, Ok}
use Rattle.ot_lines.specs.declared.lines.Bounds.{Bounds}
use Rattle.ot_lines.specs.declared.lines.Heard.{Heard}
use Rattle.ot_lines.specs.declared.lines.Heard.TheVariants.{Line}
use Rattle.ot_lines.specs.declared.source.Failed.{Failed}

-- lines of at most 64 bytes, one byte a read, and 65 reads
abbrev pub first_bounds : Bounds
first_bounds = record { line = 64; read = 1; reads = 65 }

-- the bytes that were read: of a whole line its LF too
abbrev pub read_with : Result Heard Failed → List ℕ → List ℕ
read_with (Ok Line) line = line ++ 10 ∷ []
read_with result line = line
