use Rattle.std.proofs.Common.{◌∙◌, sym}
use Rattle.ot_model.specs.View.{stmts_of}
use Rattle.ot_race_ways.proofs.TellLemmas.{few_ways, many_ways}
use Rattle.ot_race_ways.proofs.judging.few_ways.Goals as goal

pub returns-then-are_few : goal.returns-then-are_few
returns-then-are_few c =
    few_ways c.extent_all-extent.result.ways c.extent_all-extent.result.statements c.named_in-named.result (stmts_of c.args.body.now.items)
    c.extent_all-extent.ensures.ways c.extent_all-extent.ensures.statements c.named_in-named.ensures (sym c.are_few.ensures ∙ c.if-are_few.true)

pub returns-else-are_few : goal.returns-else-are_few
returns-else-are_few c =
    many_ways c.extent_all-extent.result.ways c.extent_all-extent.result.statements c.named_in-named.result (stmts_of c.args.body.now.items)
    c.extent_all-extent.ensures.ways c.extent_all-extent.ensures.statements c.named_in-named.ensures (sym c.are_few.ensures ∙ c.if-are_few.false)
