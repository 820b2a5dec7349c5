-- What the definition speaks of, in the types of the code.
use Rattle.ot_model.specs.Programs.{Arrays}
use Rattle.ot_model.specs.declared.expr.Op.{Op}
use Rattle.ot_model.specs.declared.expr.Op.TheVariants as op
use Rattle.serde_json.specs.Data.{Data}
use Rattle.ot_program.specs.declared.clause.Clause.{Clause as CodeClause}
use Rattle.ot_program.specs.declared.counts.Counts.{Counts}
use Rattle.ot_program.specs.declared.shape.KnownArray.{KnownArray}
use Rattle.ot_program.specs.declared.size.Sign.{Sign}
use Rattle.ot_program.specs.declared.size.Sign.TheVariants.{Plus, Minus, Times}
use Rattle.ot_program.specs.Limits.{Tally}
use Rattle.ot_program.specs.Meanings.{position_of, length_of, Clause}

abbrev pub op_of_sign : Sign → Op
op_of_sign Plus = op.Plus
op_of_sign Minus = op.Minus
op_of_sign Times = op.Times

abbrev pub known_array : Arrays → Data → KnownArray
known_array shape name = record { position = position_of shape name; len = length_of shape name }

abbrev pub code_clause : Clause → CodeClause
code_clause c = record { mode = c.mode; section = c.section }

abbrev pub code_counts : Tally → Counts
code_counts n = record { statements = n.statements; tasks = n.tasks; turns = n.turns; nodes = n.nodes; cells = n.cells }
