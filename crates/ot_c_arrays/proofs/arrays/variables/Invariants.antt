use Rattle.std.proofs.Common.{◌≡◌, drop}
use Rattle.ot_c_files.specs.Program.{variables_of}
use Rattle.ot_c_arrays.specs.Each.{each_or_refused}
use Rattle.ot_c_arrays.specs.Arrays.{declared_view, variable_step}
use Rattle.ot_c_arrays.proofs.arrays.variables.Given as goal

-- those that are left complete what there is
abbrev pub invariant-loop-variable : goal.invariant-loop-variable
invariant-loop-variable l = each_or_refused (variable_step l.names.keys l.kind) (declared_view l.declared) (variables_of (drop l.variable-index l.variables)) ≡ each_or_refused (variable_step l.names.keys l.kind) (declared_view l.fn.declared) (variables_of l.variables)
