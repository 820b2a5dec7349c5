use Rattle.std.proofs.Common.{◌≡◌, ◌-◌, [], length}
use Rattle.ot_c_expressions.specs.Tree.{items_of}
use Rattle.ot_c_words.specs.Reading.{steps}
use Rattle.ot_c_expressions.specs.declared.fault.Fault.TheVariants.{TooLong}
use Rattle.ot_c_expressions.specs.Clauses.{item_step}
use Rattle.ot_c_expressions.proofs.clause.items.Given as goal

-- what is left to read completes what was read
abbrev pub invariant-loop-turn : goal.invariant-loop-turn
invariant-loop-turn l = steps TooLong (item_step l.parts) (length l.words - l._turn) (items_of l.found.items) l.rest ≡ steps TooLong (item_step l.parts) (length l.words) [] l.words
