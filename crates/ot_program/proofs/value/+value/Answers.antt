use Rattle.std.proofs.Common.{rules}
use Rattle.ot_model.specs.View.{expr_of}
use Rattle.ot_program.specs.walk.Sizes.{bindings_of}
use Rattle.ot_program.proofs.Joins.{gives_refused}
use Rattle.ot_program.proofs.ValueForms.{no_value_but_three, value_of-operation, value_of-pick, value_of-cell, value_of-no_op}
use Rattle.ot_program.proofs.value.+value.Goals as goal

pub value_form-returns : goal.value_form-returns
value_form-returns t c =
    let scope = c.args.scope.now in
    rw (value_of-operation scope.shape.now (bindings_of scope.variables.now) c.args.items.now _ _ _ c.in-Some.op (search rules)
    c.tag-item.is c.one-item.is c.two-item.is (search rules) (search rules) (search rules))
    (c.operation.ensures _ _ c.read_value-one.ensures c.read_value-two.ensures)

pub value_form-returns-then-is_word : goal.value_form-returns-then-is_word
value_form-returns-then-is_word t c =
    let scope = c.args.scope.now in
    rw (
      value_of-cell scope.shape.now (bindings_of scope.variables.now) c.args.items.now _ _ _ (search rules)
          c.tag-item.is c.one-item.is c.two-item.is (search rules),
      ← c.in_ok-cell_at-in-len3.ensures,
    )

pub value_form-returns-in_err-cell_at-in-len3 : goal.value_form-returns-in_err-cell_at-in-len3
value_form-returns-in_err-cell_at-in-len3 t c =
    let scope = c.args.scope.now in
    gives_refused expr_of c.from_residual.result c.in_err-cell_at-in-len3.field-0.0 _ c.from_residual.ensures.1
    (rw (
      value_of-cell scope.shape.now (bindings_of scope.variables.now) c.args.items.now _ _ _ (search rules)
          c.tag-item.is c.one-item.is c.two-item.is (search rules),
      ← c.in_err-cell_at-in-len3.ensures,
    ))

pub value_form-returns-then-is_word-2 : goal.value_form-returns-then-is_word-2
value_form-returns-then-is_word-2 t c =
    let scope = c.args.scope.now in
    rw (
      value_of-pick scope.shape.now (bindings_of scope.variables.now) c.args.items.now _ _ _ (search rules)
          c.tag-item.is c.one-item.is c.two-item.is (search rules) (search rules),
      ← c.read_section-section.ensures,
    )
    (c.pick.ensures _ c.read_value-chosen.ensures)

pub value_form-returns-in_default-read_op : goal.value_form-returns-in_default-read_op
value_form-returns-in_default-read_op t c =
    let scope = c.args.scope.now in
    value_of-no_op scope.shape.now (bindings_of scope.variables.now) c.args.items.now _ (search rules)
    c.tag-item.is (search rules) (search rules) (search rules)

pub value_form-returns-then-items-ne3 : goal.value_form-returns-then-items-ne3
value_form-returns-then-items-ne3 t c =
    no_value_but_three c.args.scope.now.shape.now (bindings_of c.args.scope.now.variables.now) c.args.items.now (search rules)
