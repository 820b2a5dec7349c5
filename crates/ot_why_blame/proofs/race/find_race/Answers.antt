use Rattle.std.proofs.Common.{arith}
use Rattle.ot_model.specs.View.{stmts_of}
use Rattle.ot_why_blame.proofs.FindLemmas.{race_none}
use Rattle.ot_why_blame.proofs.race.find_race.Goals as goal

pub returns-clause-all : goal.returns-clause-all
returns-clause-all c = λ none. race_none (stmts_of c.args.program.now.body.items) c.args.place (λ task some below. c.loop-other.invariant task some (omega arith))
