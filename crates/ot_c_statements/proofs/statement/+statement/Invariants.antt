use Rattle.std.proofs.Common.{◌≡◌, ◌+◌, ◌*◌, ◌-◌, [], length}
use Rattle.ot_c_statements.specs.Tree.{list_of}
use Rattle.ot_c_words.specs.Reading.{steps}
use Rattle.ot_c_statements.specs.declared.fault.Fault.TheVariants.{TooLong}
use Rattle.ot_c_statements.specs.Statements.{statement_at, stmts_step}
use Rattle.ot_c_statements.proofs.statement.+statement.Given as goal

-- what is left to read completes what was read
abbrev pub invariant-statements-loop-turn : goal.invariant-statements-loop-turn
invariant-statements-loop-turn l = steps TooLong (stmts_step (statement_at l.depth)) (length l.words - l._turn) (list_of l.found.items) l.rest ≡ steps TooLong (stmts_step (statement_at l.depth)) (length l.words) [] l.words

abbrev pub decreases-statement : goal.decreases-statement
decreases-statement l = 16 * l.depth

abbrev pub decreases-statements_step : goal.decreases-statements_step
decreases-statements_step l = 16 * l.depth + 1

abbrev pub decreases-statements : goal.decreases-statements
decreases-statements l = 16 * l.depth + 2

abbrev pub decreases-body : goal.decreases-body
decreases-body l = 16 * l.depth + 3

abbrev pub decreases-otherwise : goal.decreases-otherwise
decreases-otherwise l = 16 * l.depth + 4

abbrev pub decreases-branch : goal.decreases-branch
decreases-branch l = 16 * l.depth + 5

abbrev pub decreases-repeated : goal.decreases-repeated
decreases-repeated l = 16 * l.depth + 5

abbrev pub decreases-task : goal.decreases-task
decreases-task l = 16 * l.depth + 5

abbrev pub decreases-group : goal.decreases-group
decreases-group l = 16 * l.depth + 5

abbrev pub decreases-directed : goal.decreases-directed
decreases-directed l = 16 * l.depth + 6

abbrev pub decreases-directive : goal.decreases-directive
decreases-directive l = 16 * l.depth + 7

abbrev pub decreases-opened : goal.decreases-opened
decreases-opened l = 16 * l.depth + 6

abbrev pub decreases-form : goal.decreases-form
decreases-form l = 16 * l.depth + 8
