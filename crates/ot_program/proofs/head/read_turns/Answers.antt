use Rattle.std.proofs.Common.{string_bytes, rules}
use Rattle.serde_json.specs.View.{view}
use Rattle.serde_json.specs.declared.value.Value.{the_lemmas}
use Rattle.ot_program.specs.walk.Sizes.{bindings_of}
use Rattle.ot_program.proofs.Conditions.{range_fails_parts, range_fails_level, range_fails_depth, named, range_reads_as}
use Rattle.ot_program.proofs.Joins.{match_refused}
use Rattle.ot_program.proofs.head.read_turns.Goals as goal

pub returns-in_err-from-clause-reads : goal.returns-in_err-from-clause-reads
returns-in_err-from-clause-reads c =
    let scope = c.args.scope.now in
    match_refused c.from_residual.result c.in_err-from.field-0.0 _ _ c.from_residual.ensures.1
    (range_fails_parts (bindings_of scope.variables.now) scope.level (view c.args.variable.now) (view c.args.first.now) (view c.args.behind.now)
    (view c.args.body.now) (string_bytes c.in-String.name) _ (named (view c.args.variable.now) (string_bytes c.in-String.name) (search (rules, the_lemmas)) (search rules))
    (rw (c.both-numbers.ensures, c.read_size-from.ensures, c.read_size.ensures, c.read_list.ensures) at c.in_err-from.ensures))

pub returns-in_err-check_level-clause-reads : goal.returns-in_err-check_level-clause-reads
returns-in_err-check_level-clause-reads c =
    let scope = c.args.scope.now in
    match_refused c.from_residual-in_err-check_level.result c.in_err-check_level.field-0.0 _ _ c.from_residual-in_err-check_level.ensures.1
    (range_fails_level (bindings_of scope.variables.now) scope.level (view c.args.variable.now) (view c.args.first.now) (view c.args.behind.now)
    (view c.args.body.now) (string_bytes c.in-String.name) _ _ (named (view c.args.variable.now) (string_bytes c.in-String.name) (search (rules, the_lemmas)) (search rules))
    (rw (c.both-numbers.ensures, c.read_size-from.ensures, c.read_size.ensures, c.read_list.ensures) at c.in_ok-from.ensures)
    c.in_err-check_level.ensures.exact)

pub returns-in_err-both-clause-reads : goal.returns-in_err-both-clause-reads
returns-in_err-both-clause-reads c =
    let scope = c.args.scope.now in
    match_refused c.from_residual-in_err-both.result c.in_err-both.field-0.0 _ _ c.from_residual-in_err-both.ensures.1
    (range_fails_depth (bindings_of scope.variables.now) scope.level (view c.args.variable.now) (view c.args.first.now) (view c.args.behind.now)
    (view c.args.body.now) (string_bytes c.in-String.name) _ _ _ (named (view c.args.variable.now) (string_bytes c.in-String.name) (search (rules, the_lemmas)) (search rules))
    (rw (c.both-numbers.ensures, c.read_size-from.ensures, c.read_size.ensures, c.read_list.ensures) at c.in_ok-from.ensures)
    c.in_ok-check_level.ensures.exact
    (rw (c.check_depth.ensures, c.check_depth-2.ensures) at c.in_err-both.ensures))

pub returns-clause-reads : goal.returns-clause-reads
returns-clause-reads c =
    let scope = c.args.scope.now in
    rw c.as_str-2.ensures.value
    (range_reads_as (bindings_of scope.variables.now) scope.level (view c.args.variable.now) (view c.args.first.now) (view c.args.behind.now)
    (view c.args.body.now) (string_bytes c.in-String.name) _ _ _ (named (view c.args.variable.now) (string_bytes c.in-String.name) (search (rules, the_lemmas)) (search rules))
    (rw (c.both-numbers.ensures, c.read_size-from.ensures, c.read_size.ensures, c.read_list.ensures) at c.in_ok-from.ensures)
    c.in_ok-check_level.ensures.exact
    (rw (c.check_depth.ensures, c.check_depth-2.ensures) at c.in_ok-both.ensures))
