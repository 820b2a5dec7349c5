-- What is told of a fault: a refusal's code, an offence with its place, or that memory ran out.
use Rattle.ot_store.specs.declared.fault.StoreFault.{StoreFault}
use Rattle.ot_store.specs.declared.fault.StoreFault.TheVariants as store
use Rattle.ot_program.specs.declared.fault.ProgramFault.{ProgramFault}
use Rattle.ot_program.specs.declared.fault.ProgramFault.TheVariants as program
use Rattle.ot_check.specs.declared.fault.CheckFault.{CheckFault}
use Rattle.ot_check.specs.declared.fault.CheckFault.TheVariants as check
use Rattle.ot_book.specs.declared.code.Code.TheVariants.{Store, Program}
use Rattle.ot_book.specs.declared.told.Told.{Told}
use Rattle.ot_book.specs.declared.told.Told.TheVariants.{Refused, Offends, Lost}

-- of a fault of the arrays
abbrev pub told_by_store : StoreFault → Told
told_by_store store.Memory = Lost
told_by_store (store.Refused refusal) = Refused (Store refusal)

-- of a fault of a program's text
abbrev pub told_by_program : ProgramFault → Told
told_by_program program.Memory = Lost
told_by_program (program.Refused refusal) = Refused (Program refusal)

-- of a program that could race
abbrev pub told_by_check : CheckFault → Told
told_by_check check.Memory = Lost
told_by_check (check.Offence offence place) = Offends offence place
