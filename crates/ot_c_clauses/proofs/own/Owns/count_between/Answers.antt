use Rattle.std.proofs.Common.{◌+◌, ◌-◌, sym, arith}
use Rattle.std.specs.Prelude.{Some}
use Rattle.std.proofs.lemmas.List.Sums.{count_by-le-length}
use Rattle.ot_c_clauses.specs.Owns.{is_of}
use Rattle.ot_c_clauses.proofs.OwnLemmas.{count_more, count_none}
use Rattle.ot_c_clauses.proofs.own.Owns.count_between.Goals as goal

pub loop-place-init : goal.loop-place-init
loop-place-init c = (omega arith, c.requires.order, sym (count_none c.args.array c.args.first c.args.self.now))

pub overflow_add-count : goal.overflow_add-count
overflow_add-count c =
    let l = c.loop-place in
    let more = count_more c.args.array c.args.first l.place l.invariant.0 c.args.self.now in
    let few = count_by-le-length (is_of c.args.array (Some (c.args.first, (l.place + 1) - c.args.first))) c.args.self.now in
    omega (arith, more, few, l.invariant.2, c.count_at-count.ensures, c.requires.short)

pub loop-place-preserved : goal.loop-place-preserved
loop-place-preserved c =
    let l = c.loop-place in
    let more = count_more c.args.array c.args.first l.place l.invariant.0 c.args.self.now in
    (omega (arith, l.invariant.0), omega (arith, c.loop-place-test.true), omega (arith, more, l.invariant.2, c.count_at-count.ensures))
