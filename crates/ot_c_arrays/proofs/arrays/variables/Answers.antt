use Rattle.std.proofs.lemmas.Result.{err_from_is_err_and}
use Rattle.ot_c_files.specs.Program.{variable_of, variables_of}
use Rattle.ot_c_arrays.specs.Each.{each_or_refused}
use Rattle.ot_c_arrays.specs.Arrays.{declared_view, variable_step}
use Rattle.ot_c_arrays.proofs.EachLemmas.{each_more, each_fails, each_last}
use Rattle.ot_c_arrays.proofs.arrays.variables.Goals as goal

pub returns-in_err-declared : goal.returns-in_err-declared
returns-in_err-declared c =
    let l = c.loop-variable in
    let names = c.args.names.now.keys in
    let p = err_from_is_err_and c.from_residual.result c.from_residual.ensures.1 in
    rw (p.1, p.2) (each_fails (variable_step names c.args.kind) variable_of c.args.variables.now l.variable-index c.variable-item.result (declared_view l.declared) (each_or_refused (variable_step names c.args.kind) (declared_view c.args.declared) (variables_of c.args.variables.now)) c.in_err-declared.field-0.0 c.loop-variable-test.true c.variable-item.is l.invariant c.in_err-declared.ensures)

pub loop-variable-preserved : goal.loop-variable-preserved
loop-variable-preserved c =
    let l = c.loop-variable in
    let names = c.args.names.now.keys in
    each_more (variable_step names c.args.kind) variable_of c.args.variables.now l.variable-index c.variable-item.result (declared_view l.declared) (declared_view c.in_ok-declared.declared) (each_or_refused (variable_step names c.args.kind) (declared_view c.args.declared) (variables_of c.args.variables.now)) c.loop-variable-test.true c.variable-item.is l.invariant c.in_ok-declared.ensures

pub returns : goal.returns
returns c =
    let l = c.loop-variable in
    let names = c.args.names.now.keys in
    each_last (variable_step names c.args.kind) variable_of c.args.variables.now l.variable-index (declared_view l.declared) (each_or_refused (variable_step names c.args.kind) (declared_view c.args.declared) (variables_of c.args.variables.now)) c.loop-variable-test.false l.invariant
