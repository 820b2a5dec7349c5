use Rattle.std.proofs.Common.{rules, arith, ◌≡◌, ◌∙◌, ◌+◌, ◌<◌, [], ◌∷◌, ◌++◌, length, map, drop, refl, sym, ap, subst}
use Rattle.std.specs.Prelude.{Vec, true, false}
use Rattle.std.specs.Global.{Global}
use Rattle.std.proofs.lemmas.Result.{on_ok_weaker}
use Rattle.std.proofs.lemmas.List.{length-map, length-append}
use Rattle.ot_model.specs.Tree.{If, Task, Group, size, size_one, tasks_in, tasks_in_one}
use Rattle.ot_model.specs.declared.stmt.Mode.TheVariants.{Reads, Writes}
use Rattle.ot_check.specs.Offences.{use_as}
use Rattle.ot_model.specs.View.{expr_of, stmt_of, stmts_of}
use Rattle.ot_model.specs.Names.{NamedIn, OneNamedIn}
use Rattle.ot_model.specs.declared.stmt.Stmt.{the_lemmas}
use Rattle.ot_check.proofs.Cited.{rest_is}
use Rattle.ot_race.specs.View.{event_of, events_in}
use Rattle.ot_race_ways.specs.Known.{number_in_value, may_read}
use Rattle.ot_race_ways.specs.Numbered.{takes_first, left_for_second}
use Rattle.ot_race_ways.specs.Ways.{ways, ways_one, ways_of_if, turn}
use Rattle.ot_race_ways.specs.declared.verdict.Turn.{Turn}
use Rattle.ot_race_ways.proofs.WayLemmas.{some_way_one, few_one, few_rest, few_of_if, counted_takes, counted_left, counted_some, counted_few}
use Rattle.ot_race_ways.proofs.FollowLemmas.{of_set, of_fold, of_if, events_loop, turns_loop, tasks_loop, if_first, if_second, turns_first, turns_second, task_begins, group_ends}
use Rattle.ot_race_ways.proofs.follow.+follow.Goals as goal

pub follow_all-nonzero_rem-left : goal.follow_all-nonzero_rem-left
follow_all-nonzero_rem-left t c = counted_some _ _ c.extent_one-extent.ensures.ways (some_way_one (stmt_of c.stmt-item.result))

pub follow_all-nonzero_div-left : goal.follow_all-nonzero_div-left
follow_all-nonzero_div-left t c = counted_some _ _ c.extent_one-extent.ensures.ways (some_way_one (stmt_of c.stmt-item.result))

pub follow_all-follow_one-requires : goal.follow_all-follow_one-requires
follow_all-follow_one-requires t c =
    let b = c.args.body.now.items in
    let i = c.loop-stmt.stmt-index in
    let rest = rest_is c.deref-stmt-items.result.now b i c.stmt-item.result c.deref-stmt-items.ensures.value c.loop-stmt-test.true c.stmt-item.is in
    let x = stmt_of c.stmt-item.result in
    let more = stmts_of (drop (i + 1) b) in
    let v = c.loop-stmt.invariant in
    let named : OneNamedIn v.named.0 x = (subst (NamedIn v.named.0) rest v.named.1).0 in
    let few : ways_one x < 1025 = few_one x more (stmts_of (drop i b)) rest v.few_ways in
    let sizes : size (stmts_of (drop i b)) ≡ size_one x + size more = ap size rest in
    let counts : tasks_in (stmts_of (drop i b)) ≡ tasks_in_one x + tasks_in more = ap tasks_in rest in (
      search (rules, the_lemmas),
      ((v.named.0, named), (few, (omega (arith, counts, v.few_tasks), (omega (arith, sizes, v.places), omega (arith, sizes, v.few_events))))),
    )

pub follow_all-loop-stmt-preserved : goal.follow_all-loop-stmt-preserved
follow_all-loop-stmt-preserved t c =
    let b = c.args.body.now.items in
    let i = c.loop-stmt.stmt-index in
    let rest = rest_is c.deref-stmt-items.result.now b i c.stmt-item.result c.deref-stmt-items.ensures.value c.loop-stmt-test.true c.stmt-item.is in
    let x = stmt_of c.stmt-item.result in
    let more = stmts_of (drop (i + 1) b) in
    let left = stmts_of (drop i b) in
    let v = c.loop-stmt.invariant in
    let e = c.in_ok-follow_one.ensures in
    let w = c.extent_one-extent.result.ways in
    let few : ways_one x < 1025 = few_one x more left rest v.few_ways in
    let same : w ≡ ways_one x = counted_few w (ways_one x) c.extent_one-extent.ensures.ways few in
    let sizes : size left ≡ size_one x + size more = ap size rest in
    let counts : tasks_in left ≡ tasks_in_one x + tasks_in more = ap tasks_in rest in
    record {
      named = (v.named.0, (subst (NamedIn v.named.0) rest v.named.1).1);
      few_ways = few_rest x more left rest v.few_ways;
      few_tasks = omega (arith, counts, v.few_tasks, e.few_tasks);
      places = omega (arith, sizes, v.places, c.extent_one-extent.ensures.statements);
      few_events = omega (arith, sizes, v.few_events, e.few_events);
      events = events_loop (events_in c.loop-stmt.trail.events.items) (events_in c.follow_one.new.trail.events.items) _ _ _ c.loop-stmt.next c.loop-stmt.left w
          c.extent_one-extent.result.statements x more left c.loop-stmt.trail.tasks c.follow_one.new.trail.tasks rest v.events e.events e.tasks same c.extent_one-extent.ensures.statements;
      turns = turns_loop c.loop-stmt.trail.turns.items c.follow_one.new.trail.turns.items _ c.loop-stmt.next c.loop-stmt.left w
          c.extent_one-extent.result.statements x more left rest v.turns e.turns same c.extent_one-extent.ensures.statements;
      tasks = tasks_loop c.loop-stmt.trail.tasks c.follow_one.new.trail.tasks _ c.loop-stmt.left w x more left rest v.tasks e.tasks same;
    }

pub follow_one-note_reads-requires : goal.follow_one-note_reads-requires
follow_one-note_reads-requires t c =
    (c.requires.named.0, of_set c.requires.named.0 (stmt_of c.args.stmt.now) c.in-Set.cell (expr_of c.in-Set.expr) (ap stmt_of c.in-Set.is ∙ search (rules, the_lemmas)) c.requires.named.1)

pub follow_one-note_reads-requires-in-Fold : goal.follow_one-note_reads-requires-in-Fold
follow_one-note_reads-requires-in-Fold t c = (
  c.requires.named.0,
  of_fold c.requires.named.0 (stmt_of c.args.stmt.now) c.in-Fold.op c.in-Fold.cell (expr_of c.in-Fold.expr) (ap stmt_of c.in-Fold.is ∙ search (rules, the_lemmas)) c.requires.named.1,
)

pub follow_one-note_reads-requires-in-If : goal.follow_one-note_reads-requires-in-If
follow_one-note_reads-requires-in-If t c = (
  c.requires.named.0,
  of_if c.requires.named.0 (stmt_of c.args.stmt.now) (expr_of c.in-If.expr) (stmts_of c.in-If.one.items) (stmts_of c.in-If.two.items)
      (ap stmt_of c.in-If.is ∙ search (rules, the_lemmas)) c.requires.named.1,
)

pub follow_one-returns-then-first-clause-events : goal.follow_one-returns-then-first-clause-events
follow_one-returns-then-first-clause-events t c =
    let is : stmt_of c.args.stmt.now ≡ If (expr_of c.in-If.expr) (stmts_of c.in-If.one.items) (stmts_of c.in-If.two.items) =
    ap stmt_of c.in-If.is ∙ search (rules, the_lemmas) in
    let few : ways_of_if (number_in_value (expr_of c.in-If.expr)) (ways (stmts_of c.in-If.one.items)) (ways (stmts_of c.in-If.two.items)) < 1025 =
    few_of_if _ _ _ (stmt_of c.args.stmt.now) is c.requires.few_ways in
    let told : c.takes_first-first.result ≡ true = c.if-first.true in
    let taken : takes_first (number_in_value (expr_of c.in-If.expr)) c.args.way (ways (stmts_of c.in-If.one.items)) ≡ true =
    sym (counted_takes (number_in_value (expr_of c.in-If.expr)) c.args.way c.extent_all-extent.result.ways (ways (stmts_of c.in-If.one.items)) (ways (stmts_of c.in-If.two.items))
    c.extent_all-extent.ensures.ways few) ∙ ap (λ o. takes_first o c.args.way c.extent_all-extent.result.ways) (sym c.known_number-decided.ensures)
    ∙ sym c.takes_first-first.ensures ∙ told in
    let reads = c.in_ok-note_reads-in-If.ensures ∙ ap (λ l. l ++ map (use_as Reads) (may_read (expr_of c.in-If.expr))) c.new-uses.ensures.items in
    on_ok_weaker c.follow_all.result
    (λ ran. if_first _ _ _ _ _ _ c.args.way _ _ _ _ _ _ _ is c.in_ok-put-in-If.ensures.events reads ran c.in_ok-put-in-If.ensures.tasks taken)
    c.follow_all.ensures.events

pub follow_one-returns-then-first-clause-turns : goal.follow_one-returns-then-first-clause-turns
follow_one-returns-then-first-clause-turns t c =
    let is : stmt_of c.args.stmt.now ≡ If (expr_of c.in-If.expr) (stmts_of c.in-If.one.items) (stmts_of c.in-If.two.items) =
    ap stmt_of c.in-If.is ∙ search (rules, the_lemmas) in
    let few : ways_of_if (number_in_value (expr_of c.in-If.expr)) (ways (stmts_of c.in-If.one.items)) (ways (stmts_of c.in-If.two.items)) < 1025 =
    few_of_if _ _ _ (stmt_of c.args.stmt.now) is c.requires.few_ways in
    let told : c.takes_first-first.result ≡ true = c.if-first.true in
    let taken : takes_first (number_in_value (expr_of c.in-If.expr)) c.args.way (ways (stmts_of c.in-If.one.items)) ≡ true =
    sym (counted_takes (number_in_value (expr_of c.in-If.expr)) c.args.way c.extent_all-extent.result.ways (ways (stmts_of c.in-If.one.items)) (ways (stmts_of c.in-If.two.items))
    c.extent_all-extent.ensures.ways few) ∙ ap (λ o. takes_first o c.args.way c.extent_all-extent.result.ways) (sym c.known_number-decided.ensures)
    ∙ sym c.takes_first-first.ensures ∙ told in
    let put = c.in_ok-push-in-If.ensures.items ∙ ap (λ (v : Vec Turn Global). v.items ++ turn c.args.place c.takes_first-first.result ∷ []) c.in_ok-put-in-If.ensures.turns in
    on_ok_weaker c.follow_all.result (λ ran. turns_first _ _ _ _ c.args.way _ _ _ _ _ is put told ran taken) c.follow_all.ensures.turns

pub follow_one-returns-else-first-clause-events : goal.follow_one-returns-else-first-clause-events
follow_one-returns-else-first-clause-events t c =
    let is : stmt_of c.args.stmt.now ≡ If (expr_of c.in-If.expr) (stmts_of c.in-If.one.items) (stmts_of c.in-If.two.items) =
    ap stmt_of c.in-If.is ∙ search (rules, the_lemmas) in
    let few : ways_of_if (number_in_value (expr_of c.in-If.expr)) (ways (stmts_of c.in-If.one.items)) (ways (stmts_of c.in-If.two.items)) < 1025 =
    few_of_if _ _ _ (stmt_of c.args.stmt.now) is c.requires.few_ways in
    let told : c.takes_first-first.result ≡ false = c.if-first.false in
    let taken : takes_first (number_in_value (expr_of c.in-If.expr)) c.args.way (ways (stmts_of c.in-If.one.items)) ≡ false =
    sym (counted_takes (number_in_value (expr_of c.in-If.expr)) c.args.way c.extent_all-extent.result.ways (ways (stmts_of c.in-If.one.items)) (ways (stmts_of c.in-If.two.items))
    c.extent_all-extent.ensures.ways few) ∙ ap (λ o. takes_first o c.args.way c.extent_all-extent.result.ways) (sym c.known_number-decided.ensures)
    ∙ sym c.takes_first-first.ensures ∙ told in
    let left : c.left_for_second-left.result ≡ left_for_second (number_in_value (expr_of c.in-If.expr)) c.args.way (ways (stmts_of c.in-If.one.items)) =
    c.left_for_second-left.ensures ∙ ap (λ o. left_for_second o c.args.way c.extent_all-extent.result.ways) c.known_number-decided.ensures
    ∙ counted_left (number_in_value (expr_of c.in-If.expr)) c.args.way c.extent_all-extent.result.ways (ways (stmts_of c.in-If.one.items)) (ways (stmts_of c.in-If.two.items))
    c.extent_all-extent.ensures.ways few in
    let reads = c.in_ok-note_reads-in-If.ensures ∙ ap (λ l. l ++ map (use_as Reads) (may_read (expr_of c.in-If.expr))) c.new-uses.ensures.items in
    let place : c.args.place + 1 + c.extent_all-extent.result.statements ≡ c.args.place + 1 + size (stmts_of c.in-If.one.items) = ap (λ n. c.args.place + 1 + n) c.extent_all-extent.ensures.statements in
    on_ok_weaker c.follow_all-else-first.result
    (λ ran. if_second _ _ _ _ _ _ c.args.way _ _ _ _ _ _ _ _ _ is c.in_ok-put-in-If.ensures.events reads ran c.in_ok-put-in-If.ensures.tasks place left taken)
    c.follow_all-else-first.ensures.events

pub follow_one-returns-else-first-clause-turns : goal.follow_one-returns-else-first-clause-turns
follow_one-returns-else-first-clause-turns t c =
    let is : stmt_of c.args.stmt.now ≡ If (expr_of c.in-If.expr) (stmts_of c.in-If.one.items) (stmts_of c.in-If.two.items) =
    ap stmt_of c.in-If.is ∙ search (rules, the_lemmas) in
    let few : ways_of_if (number_in_value (expr_of c.in-If.expr)) (ways (stmts_of c.in-If.one.items)) (ways (stmts_of c.in-If.two.items)) < 1025 =
    few_of_if _ _ _ (stmt_of c.args.stmt.now) is c.requires.few_ways in
    let told : c.takes_first-first.result ≡ false = c.if-first.false in
    let taken : takes_first (number_in_value (expr_of c.in-If.expr)) c.args.way (ways (stmts_of c.in-If.one.items)) ≡ false =
    sym (counted_takes (number_in_value (expr_of c.in-If.expr)) c.args.way c.extent_all-extent.result.ways (ways (stmts_of c.in-If.one.items)) (ways (stmts_of c.in-If.two.items))
    c.extent_all-extent.ensures.ways few) ∙ ap (λ o. takes_first o c.args.way c.extent_all-extent.result.ways) (sym c.known_number-decided.ensures)
    ∙ sym c.takes_first-first.ensures ∙ told in
    let left : c.left_for_second-left.result ≡ left_for_second (number_in_value (expr_of c.in-If.expr)) c.args.way (ways (stmts_of c.in-If.one.items)) =
    c.left_for_second-left.ensures ∙ ap (λ o. left_for_second o c.args.way c.extent_all-extent.result.ways) c.known_number-decided.ensures
    ∙ counted_left (number_in_value (expr_of c.in-If.expr)) c.args.way c.extent_all-extent.result.ways (ways (stmts_of c.in-If.one.items)) (ways (stmts_of c.in-If.two.items))
    c.extent_all-extent.ensures.ways few in
    let place : c.args.place + 1 + c.extent_all-extent.result.statements ≡ c.args.place + 1 + size (stmts_of c.in-If.one.items) = ap (λ n. c.args.place + 1 + n) c.extent_all-extent.ensures.statements in
    let put = c.in_ok-push-in-If.ensures.items ∙ ap (λ (v : Vec Turn Global). v.items ++ turn c.args.place c.takes_first-first.result ∷ []) c.in_ok-put-in-If.ensures.turns in
    on_ok_weaker c.follow_all-else-first.result (λ ran. turns_second _ _ _ _ c.args.way _ _ _ _ _ _ _ is put told ran place left taken)
    c.follow_all-else-first.ensures.turns

pub follow_one-returns-in_ok-put-in-Task-clause-events : goal.follow_one-returns-in_ok-put-in-Task-clause-events
follow_one-returns-in_ok-put-in-Task-clause-events t c =
    let is : stmt_of c.args.stmt.now ≡ Task c.in-Task.decl (stmts_of c.in-Task.body.items) = ap stmt_of c.in-Task.is ∙ search (rules, the_lemmas) in
    on_ok_weaker c.follow_all-in-Task.result
    (λ ran. task_begins _ _ _ _ c.args.owner.task _ _ _ c.in-Task.decl _ _ _ _ _ is c.in_ok-put-in-Task.ensures.events c.new-uses.ensures.items ran refl c.in_ok-put-in-Task.ensures.tasks)
    c.follow_all-in-Task.ensures.events

pub follow_one-returns-in_ok-note_writes-in-Group-clause-events : goal.follow_one-returns-in_ok-note_writes-in-Group-clause-events
follow_one-returns-in_ok-note_writes-in-Group-clause-events t c =
    let cs = c.in-Group.cells.items in
    let is : stmt_of c.args.stmt.now ≡ Group c.in-Group.field-0 cs (stmts_of c.in-Group.body.items) = ap stmt_of c.in-Group.is ∙ search (rules, the_lemmas) in
    let old = c.args.trail.now.events.items in
    let mid = c.follow_all-in-Group.new.trail.events.items in
    let ran = c.in_ok-follow_all-in-Group.ensures.events in
    let grown = simp length-append at (ap length ran) in
    let writes = c.in_ok-note_writes-in-Group.ensures ∙ ap (λ l. l ++ map (use_as Writes) c.deref.result.now) c.new-uses.ensures.items
    ∙ ap (map (use_as Writes)) c.deref.ensures.value in
    on_ok_weaker c.put-in-Group.result
    (λ put. group_ends _ _ _ _ _ _ _ _ _ cs _ _ _ _ is ran put writes (omega (arith, grown, length-map old event_of, length-map mid event_of)))
    c.put-in-Group.ensures.events
