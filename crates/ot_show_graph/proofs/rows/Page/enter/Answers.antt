use Rattle.std.proofs.Common.{◌∙◌, set, sym, ap}
use Rattle.std.proofs.lemmas.Result.{on_ok_weaker}
use Rattle.ot_show_graph.specs.Written.{row_seen, entered_by}
use Rattle.ot_show_graph.proofs.RowLemmas.{place_read, get_here, said_here, said_other}
use Rattle.ot_show_graph.proofs.rows.Page.enter.Goals as goal

pub returns-clause-there : goal.returns-clause-there
returns-clause-there c =
    let rows = c.reach.new.self.rows.items in
    let index = c.args.place in
    let row = c.index_mut.result.now in
    let there = c.in_ok-reach.ensures.there in
    on_ok_weaker c.enter.result
    (λ e.
    said_here row_seen (set rows index c.enter.new.self) index c.enter.new.self (get_here rows index c.enter.new.self there) ∙ e
    ∙ ap (entered_by c.args.child c.args.mode)
    (sym (said_here row_seen rows index row (place_read rows index row there c.index_mut.ensures.value)) ∙ c.in_ok-reach.ensures.same index))
    c.enter.ensures

pub returns-clause-others : goal.returns-clause-others
returns-clause-others c =
    on_ok_weaker c.enter.result
    (λ e j apart. said_other row_seen c.reach.new.self.rows.items c.args.place j c.enter.new.self apart ∙ c.in_ok-reach.ensures.same j) c.enter.ensures
