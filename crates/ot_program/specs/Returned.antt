-- What a reader of programs returns, beside what there is to read.
use Rattle.std.specs.Prelude.{◌≡◌, Result, Ok, Err}
use Rattle.ot_program.specs.declared.fault.ProgramFault.{ProgramFault}
use Rattle.ot_program.specs.declared.fault.ProgramFault.TheVariants.{Memory, Refused}
use Rattle.ot_program.specs.declared.fault.Refusal.{Refusal}

-- want of memory says nothing of the text
abbrev pub Fails : {A : Type 0} → ProgramFault → Result A Refusal → Type 0
Fails Memory read = Unit {0}
Fails (Refused c) read = read ≡ Err c

-- what a function returned, seen by view, is what reading gives, unless memory ran out
abbrev pub Gives : {X A : Type 0} → (X → A) → Result X ProgramFault → Result A Refusal → Type 0
Gives view (Ok x) read = read ≡ Ok (view x)
Gives view (Err e) read = Fails e read
