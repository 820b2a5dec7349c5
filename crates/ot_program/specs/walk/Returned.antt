-- What the functions of the walk return, beside what there is to read.
use Rattle.ot_model.specs.Tree.{S}
use Rattle.ot_program.specs.Faults.{least}
use Rattle.ot_program.specs.declared.counts.Counts.{Counts}
use Rattle.std.specs.Prelude.{List, Result, Ok, Err, ◌++◌, ⊤, ◌≡◌}
use Rattle.ot_program.specs.Returned.{Fails}
use Rattle.ot_program.specs.walk.Statements.{Read, Range}
use Rattle.ot_program.specs.declared.fault.ProgramFault.{ProgramFault}
use Rattle.ot_program.specs.declared.fault.ProgramFault.TheVariants.{Memory, Refused}
use Rattle.ot_program.specs.declared.head.Turns.{Turns}

-- of two faults, want of memory before all others
abbrev pub first_fault : ProgramFault → ProgramFault → ProgramFault
first_fault Memory e = Memory
first_fault (Refused c) Memory = Memory
first_fault (Refused c) (Refused d) = Refused (least c d)

-- what is returned for two parts
abbrev pub join : {X Y : Type 0} → Result X ProgramFault → Result Y ProgramFault → Result (X × Y) ProgramFault
join (Ok x) (Ok y) = Ok (x, y)
join (Ok x) (Err e) = Err e
join (Err e) (Ok y) = Err e
join (Err e) (Err f) = Err (first_fault e f)

-- the statements that were put behind the old ones, and the counts, are those that were read
pub record Added (old new : List S) (n : Counts) (read : Read) : Type 0 where
  pub added : List S
  pub is : read ≡ Ok (added, n)
  pub list : new ≡ old ++ added

-- what a function returned that puts statements behind others; after a fault the list is given up
abbrev pub Adds : List S → List S → Counts → Result ⊤ ProgramFault → Read → Type 0
Adds old new n (Ok u) read = Added old new n read
Adds old new n (Err e) read = Fails e read

-- what the code's turns of a `for` stand for
abbrev pub range_view : Turns → Range
range_view t = record { variable = t.variable.now; first = t.first; behind = t.behind }
