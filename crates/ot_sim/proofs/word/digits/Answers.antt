use Rattle.std.proofs.Common.{get_or, arith}
use Rattle.ot_sim.proofs.WordLemmas.{digit-small}
use Rattle.ot_sim.proofs.word.digits.Goals as goal

pub overflow_mul-next : goal.overflow_mul-next
overflow_mul-next c = omega (arith, c.from.ensures, c.loop-rest.invariant.1)

pub overflow_add-next : goal.overflow_add-next
overflow_add-next c = omega (arith, c.from.ensures, c.loop-rest.invariant.1, c.from-in-len1-up.ensures, digit-small (get_or c.loop-rest.rest.now 0 0) (c.if-not-is_digit.ensures))
