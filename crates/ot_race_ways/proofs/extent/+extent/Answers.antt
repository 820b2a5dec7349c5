use Rattle.std.proofs.Common.{◌≡◌, ◌∙◌, ◌+◌, ◌*◌, ◌<◌, drop, sym, ap, arith}
use Rattle.std.specs.Prelude.{min}
use Rattle.std.proofs.Math.Nat.{mul-pos}
use Rattle.ot_model.specs.View.{stmt_of, stmts_of}
use Rattle.ot_model.specs.Tree.{size, size_one}
use Rattle.ot_check.proofs.Cited.{rest_is}
use Rattle.ot_race_ways.specs.Ways.{ways, ways_one}
use Rattle.ot_race_ways.proofs.WayLemmas.{some_way, some_way_one, min_step, counted_some}
use Rattle.ot_race_ways.proofs.extent.+extent.Goals as goal

pub extent_all-loop-stmt-preserved : goal.extent_all-loop-stmt-preserved
extent_all-loop-stmt-preserved t c =
    let b = c.args.body.now.items in
    let i = c.loop-stmt.stmt-index in
    let rest = rest_is c.deref-stmt-items.result.now b i c.stmt-item.result c.deref-stmt-items.ensures.value c.loop-stmt-test.true c.stmt-item.is in
    let x = stmt_of c.stmt-item.result in
    let more = stmts_of (drop (i + 1) b) in
    let v = c.loop-stmt.invariant in
    let one = c.extent_one-one.result.ways in
    let sizes : size (stmts_of (drop i b)) ≡ size_one x + size more = ap size rest in
    let some : 0 < one = counted_some one (ways_one x) c.extent_one-one.ensures.ways (some_way_one x) in
    let product : 0 < c.loop-stmt.ways * one = mul-pos v.1 some in (
      omega (arith, sizes, v.0, c.extent_one-one.ensures.statements),
      omega (arith, product, c.few-ways.ensures),
      omega (arith, c.few-ways.ensures),
      ap (λ f. min (f * ways more) 1025) c.few-ways.ensures ∙ min_step c.loop-stmt.ways (ways_one x) one (ways more) v.1 (some_way more) c.extent_one-one.ensures.ways
          ∙ ap (λ b. min (c.loop-stmt.ways * ways b) 1025) (sym rest) ∙ v.3,
    )
