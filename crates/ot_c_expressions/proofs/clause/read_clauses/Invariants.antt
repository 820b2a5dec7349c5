use Rattle.std.proofs.Common.{◌≡◌, ◌-◌, [], length}
use Rattle.ot_c_expressions.specs.Tree.{clauses_of}
use Rattle.ot_c_words.specs.Reading.{steps}
use Rattle.ot_c_expressions.specs.declared.fault.Fault.TheVariants.{TooLong}
use Rattle.ot_c_expressions.specs.Clauses.{clause_step}
use Rattle.ot_c_expressions.proofs.clause.read_clauses.Given as goal

-- what is left to read completes what was read
abbrev pub invariant-loop-turn : goal.invariant-loop-turn
invariant-loop-turn l = steps TooLong clause_step (length l.words - l._turn) (clauses_of l.found.items) l.rest ≡ steps TooLong clause_step (length l.words) [] l.words
