use Rattle.std.proofs.Common.{subst, sym, arith}
use Rattle.std.specs.Str.Parse.{ParsesUnsigned, ExplainsUnsignedError, HasUnsignedDigitsIfOk}
use Rattle.clap.specs.Words.{found_of, one_of, rows_of}
use Rattle.ot_commands.specs.Rules.{IsRead}
use Rattle.ot_commands.proofs.Numbers.{IsRead-within}
use Rattle.ot_commands.proofs.matched.number.Goals as goal

pub returns-clause-read : goal.returns-clause-read
returns-clause-read c =
    subst (λ n. IsRead c.args.most (one_of c.args.id.now (rows_of (found_of c.args.matches.now))) n) (sym c.within.ensures.is)
    (IsRead-within (λ bs r. ParsesUnsigned 32 10 bs r × ExplainsUnsignedError 10 bs r × HasUnsignedDigitsIfOk bs r)
    c.args.most (found_of c.args.matches.now) c.args.id.now c.get_one.result (omega (arith, c.ranges.most)) (λ u x given. given.0)
    c.get_one.ensures.none c.get_one.ensures.value)
