use Rattle.std.proofs.Common.{◌≡◌, ◌-◌, [], length}
use Rattle.ot_c_statements.specs.Tree.{exprs_of}
use Rattle.ot_c_words.specs.Reading.{steps}
use Rattle.ot_c_statements.specs.declared.fault.Fault.TheVariants.{TooLong}
use Rattle.ot_c_statements.specs.Reading.{values_step}
use Rattle.ot_c_statements.proofs.part.values.Given as goal

-- what is left to read completes what was read
abbrev pub invariant-loop-turn : goal.invariant-loop-turn
invariant-loop-turn l = steps TooLong values_step (length l.words - l._turn) (exprs_of l.found.items) l.rest ≡ steps TooLong values_step (length l.words) [] l.words
