use Rattle.std.proofs.Common.{◌≡◌, ◌+◌, ◌∙◌, sym, ap, subst, drop, arith, rules}
use Rattle.ot_model.specs.View.{stmt_of, stmts_of}
use Rattle.ot_model.specs.Cells.{lengths}
use Rattle.ot_model.specs.Tree.{size, size_one, tasks_in, tasks_in_one}
use Rattle.ot_model.specs.Names.{NamedIn}
use Rattle.ot_model.specs.Serial.{state_of, serial}
use Rattle.ot_check.proofs.Cited.{rest_is}
use Rattle.ot_race.specs.View.{events_in}
use Rattle.ot_race.proofs.EventLemmas.{events_loop}
use Rattle.ot_model.specs.declared.stmt.Stmt.{the_lemmas}
use Rattle.ot_model.proofs.NamesLemmas.{all_from_names, found_from_in}
use Rattle.ot_race.proofs.run.+run.Goals as goal

pub run_one-note_reads-requires : goal.run_one-note_reads-requires
run_one-note_reads-requires t c = search (rules, the_lemmas, all_from_names)

pub run_one-value-number-requires : goal.run_one-value-number-requires
run_one-value-number-requires t c = search (rules, the_lemmas, all_from_names)

pub run_one-set-requires : goal.run_one-set-requires
run_one-set-requires t c = search (rules, the_lemmas, found_from_in)

pub run_one-note_reads-requires-in-Fold : goal.run_one-note_reads-requires-in-Fold
run_one-note_reads-requires-in-Fold t c = search (rules, the_lemmas, all_from_names)

pub run_one-note_reads-requires-in-If : goal.run_one-note_reads-requires-in-If
run_one-note_reads-requires-in-If t c = search (rules, the_lemmas, all_from_names)

pub run_one-value-requires : goal.run_one-value-requires
run_one-value-requires t c = search (rules, the_lemmas, all_from_names)

pub run_all-loop-stmt-preserved : goal.run_all-loop-stmt-preserved
run_all-loop-stmt-preserved t c =
    let b = c.args.body.now.items in
    let i = c.loop-stmt.stmt-index in
    let rest = rest_is c.deref-stmt-items.result.now b i c.stmt-item.result c.deref-stmt-items.ensures.value c.loop-stmt-test.true c.stmt-item.is in
    let x = stmt_of c.stmt-item.result in
    let more = stmts_of (drop (i + 1) b) in
    let s = state_of c.loop-stmt.run.cells c.loop-stmt.run.counts in
    let u = state_of c.run_one.new.run.cells c.run_one.new.run.counts in
    let v = c.loop-stmt.invariant in
    let e = c.in_ok-run_one.ensures in
    let both = subst (NamedIn (lengths c.args.run.now.cells)) rest v.2 in
    let sizes : size (stmts_of (drop i b)) ≡ size_one x + size more = ap size rest in
    let counts : tasks_in (stmts_of (drop i b)) ≡ tasks_in_one x + tasks_in more = ap tasks_in rest in (
      ap (serial more) e.run ∙ sym (ap (λ r. serial r s) rest) ∙ v.0,
      e.kept ∙ v.1,
      both.1,
      omega (arith, sizes, v.3, e.units),
      omega (arith, counts, v.4, e.tasks),
      omega (arith, sizes, v.5, c.count_one-next.ensures),
      omega (arith, sizes, v.6, e.few),
      events_loop (events_in c.loop-stmt.run.events.items) (events_in c.run_one.new.run.events.items) _ _ _ c.loop-stmt.next (c.loop-stmt.next + c.count_one-next.result) x more
          (stmts_of (drop i b)) s u rest v.7 e.events e.run (ap (λ m. c.loop-stmt.next + m) c.count_one-next.ensures),
    )
