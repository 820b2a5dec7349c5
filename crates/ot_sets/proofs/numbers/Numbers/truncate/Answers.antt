use Rattle.std.proofs.Common.{◌-◌, ◌*◌, ◌%◌, ◌^◌, ap, arith}
use Rattle.std.proofs.lemmas.Nat.{one_shl}
use Rattle.ot_sets.proofs.Taking.{cut-below, cut-rest}
use Rattle.ot_sets.proofs.numbers.Numbers.truncate.Goals as goal

pub returns-then-place-len-clause-below : goal.returns-then-place-len-clause-below
returns-then-place-len-clause-below c = λ k l.
    cut-below c.args.self.now.words.items c.truncate.new.self.items c.args.number c.index_mut.result.now (1 * 2 ^ (c.args.number % 64) % 2 ^ 64 - 1)
    c.truncate.ensures.items (omega (arith, c.len.ensures, c.if-place-len.true, c.args.self.now.words.ok.0)) c.index_mut.ensures.value
    (ap (λ n. n - 1) (one_shl (c.args.number % 64) 64 (omega arith))) k l

pub returns-then-place-len-clause-rest : goal.returns-then-place-len-clause-rest
returns-then-place-len-clause-rest c = λ k l.
    cut-rest c.args.self.now.words.items c.truncate.new.self.items c.args.number c.index_mut.result.now (1 * 2 ^ (c.args.number % 64) % 2 ^ 64 - 1)
    c.truncate.ensures.items (omega (arith, c.len.ensures, c.if-place-len.true, c.args.self.now.words.ok.0)) c.index_mut.ensures.value
    (ap (λ n. n - 1) (one_shl (c.args.number % 64) 64 (omega arith))) k l
