use Rattle.std.proofs.Common.{◌≡◌, drop}
use Rattle.ot_c_statements.specs.Tree.{body_of, list_of}
use Rattle.ot_c_arrays.specs.Arrays.{declared_view}
use Rattle.ot_c_arrays.specs.Pointers.{pointers_from}
use Rattle.ot_c_arrays.proofs.pointer.+pointers.Given as goal

-- those that are left complete what there is
abbrev pub invariant-pointers-loop-stmt : goal.invariant-pointers-loop-stmt
invariant-pointers-loop-stmt l = pointers_from l.names.keys (declared_view l.declared) (body_of (list_of (drop l.stmt-index l.stmts))) ≡ pointers_from l.names.keys (declared_view l.fn.declared) (body_of (list_of l.stmts))
