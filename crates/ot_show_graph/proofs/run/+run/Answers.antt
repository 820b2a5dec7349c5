use Rattle.std.proofs.Common.{◌≡◌, ◌∙◌, ap, rules}
use Rattle.ot_model.specs.View.{expr_of}
use Rattle.ot_model.specs.Tree.{val}
use Rattle.ot_model.specs.Joining.{join_by}
use Rattle.ot_model.specs.Cells.{cell_of, with_cell}
use Rattle.ot_model.specs.declared.stmt.Stmt.{the_lemmas}
use Rattle.ot_model.proofs.NamesLemmas.{all_from_names, found_from_in}
use Rattle.ot_model.proofs.CellsLemmas.{with_cell-read}
use Rattle.ot_show_graph.proofs.run.+run.Goals as goal

pub run_one-value-number-requires : goal.run_one-value-number-requires
run_one-value-number-requires t c = search (rules, the_lemmas, all_from_names)

pub run_one-set-requires : goal.run_one-set-requires
run_one-set-requires t c = search (rules, the_lemmas, found_from_in)

pub run_one-value-number-requires-in-Fold : goal.run_one-value-number-requires-in-Fold
run_one-value-number-requires-in-Fold t c = search (rules, the_lemmas, all_from_names)

pub run_one-at-before-requires : goal.run_one-at-before-requires
run_one-at-before-requires t c = search (rules, the_lemmas, found_from_in)

pub run_one-value-requires : goal.run_one-value-requires
run_one-value-requires t c = search (rules, the_lemmas, all_from_names)

pub run_one-returns-in-Fold-clause-run : goal.run_one-returns-in-Fold-clause-run
run_one-returns-in-Fold-clause-run t c =
    let cells = c.args.run.now.cells in
    let op = c.in-Fold.op in
    let before = c.at-before.result in
    let joined : c.join.result ≡ join_by op before (val (cell_of cells) (expr_of c.in-Fold.expr)) = c.join.ensures ∙ ap (join_by op before) c.value-number-in-Fold.ensures in
    let w : c.set-in-Fold.new.self ≡ with_cell cells c.in-Fold.cell (λ n. join_by op n (val (cell_of cells) (expr_of c.in-Fold.expr))) =
    c.set-in-Fold.ensures.written
    ∙ with_cell-read cells c.in-Fold.cell before _ (λ n. join_by op n (val (cell_of cells) (expr_of c.in-Fold.expr)))
    c.at-before.ensures joined in
    search (rules, the_lemmas)
