use Rattle.std.proofs.Common.{◌≡◌, ◌-◌, [], length}
use Rattle.ot_c_files.specs.Program.{main_of}
use Rattle.ot_c_words.specs.Reading.{steps}
use Rattle.ot_c_statements.specs.declared.fault.Fault.TheVariants.{TooLong}
use Rattle.ot_c_files.specs.Main.{main_step}
use Rattle.ot_c_files.proofs.main_body.main_body.Given as goal

-- what is left to read completes what was read
abbrev pub invariant-loop-turn : goal.invariant-loop-turn
invariant-loop-turn l = steps TooLong main_step (length l.words - l._turn) (main_of l.found.items) l.rest ≡ steps TooLong main_step (length l.words) [] l.words
