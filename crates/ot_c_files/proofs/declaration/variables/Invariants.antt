use Rattle.std.proofs.Common.{◌≡◌, ◌-◌, [], length}
use Rattle.ot_c_files.specs.Program.{variables_of}
use Rattle.ot_c_words.specs.Reading.{steps}
use Rattle.ot_c_statements.specs.declared.fault.Fault.TheVariants.{TooLong}
use Rattle.ot_c_files.specs.Declarations.{variables_step}
use Rattle.ot_c_files.proofs.declaration.variables.Given as goal

-- what is left to read completes what was read
abbrev pub invariant-loop-turn : goal.invariant-loop-turn
invariant-loop-turn l = steps TooLong variables_step (length l.words - l._turn) (variables_of l.found.items) l.rest ≡ steps TooLong variables_step (length l.words) [] l.words
