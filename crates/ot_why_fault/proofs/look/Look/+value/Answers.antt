use Rattle.std.proofs.Common.{◌∙◌, ap, rules}
use Rattle.serde_json.specs.View.{view}
use Rattle.std.specs.Prelude.{unwrap_or}
use Rattle.ot_model.specs.declared.expr.Op.TheVariants.{Plus}
use Rattle.ot_program.specs.Meanings.{op_of, section}
use Rattle.ot_why_place.proofs.SizeLemmas.{view-Number, view-String}
use Rattle.ot_why_fault.specs.Walk.{shape_by, variables_by}
use Rattle.ot_why_fault.proofs.AfterLemmas.{after-append}
use Rattle.ot_why_fault.proofs.FormLemmas.{no_value, zero_value, no_value_but_three, zero_but_three}
use Rattle.ot_why_fault.proofs.PartLemmas.{value_whys-number, value-number, value_whys-string, value-string, value_whys-cell, value-cell, value_whys-pick, value-pick, value_whys-operation, value-operation}
use Rattle.ot_why_fault.proofs.look.Look.+value.Goals as goal

pub value-returns-in-Number-clause-measure : goal.value-returns-in-Number-clause-measure
value-returns-in-Number-clause-measure t c =
    rw (value-number (shape_by c.args.self.now) (variables_by c.args.self.now) _ _ (ap view c.in-Number.is ∙ view-Number c.in-Number.number)) (search rules)

pub value-returns-in-Number-clause-first : goal.value-returns-in-Number-clause-first
value-returns-in-Number-clause-first t c =
    rw (value_whys-number (shape_by c.args.self.now) (variables_by c.args.self.now) _ _ (ap view c.in-Number.is ∙ view-Number c.in-Number.number)) (search rules)

pub value-returns-in-String-clause-measure : goal.value-returns-in-String-clause-measure
value-returns-in-String-clause-measure t c =
    rw (value-string (shape_by c.args.self.now) (variables_by c.args.self.now) _ _ (ap view c.in-String.is ∙ view-String c.in-String.name)) (search rules)

pub value-returns-in-String-clause-first : goal.value-returns-in-String-clause-first
value-returns-in-String-clause-first t c =
    rw (
      value_whys-string (shape_by c.args.self.now) (variables_by c.args.self.now) _ _ (ap view c.in-String.is ∙ view-String c.in-String.name),
      ← c.as_str.ensures.value,
    ) c.variable.ensures.first

pub value-returns-in_default-clause-measure : goal.value-returns-in_default-clause-measure
value-returns-in_default-clause-measure t c =
    rw (zero_value (shape_by c.args.self.now) (variables_by c.args.self.now) c.args.part.now c.in_default.not-Number c.in_default.not-String c.in_default.not-Array) (search rules)

pub value-returns-in_default-clause-first : goal.value-returns-in_default-clause-first
value-returns-in_default-clause-first t c =
    rw (no_value (shape_by c.args.self.now) (variables_by c.args.self.now) c.args.part.now c.in_default.not-Number c.in_default.not-String c.in_default.not-Array) (search rules)

pub value_of_items-returns-then-items-ne3-clause-measure : goal.value_of_items-returns-then-items-ne3-clause-measure
value_of_items-returns-then-items-ne3-clause-measure t c =
    rw (zero_but_three (shape_by c.args.self.now) (variables_by c.args.self.now) c.args.items.now (search rules)) (search rules)

pub value_of_items-returns-then-items-ne3-clause-first : goal.value_of_items-returns-then-items-ne3-clause-first
value_of_items-returns-then-items-ne3-clause-first t c =
    rw (no_value_but_three (shape_by c.args.self.now) (variables_by c.args.self.now) c.args.items.now (search rules), ← c.requires) (search rules)

pub value_of_items-returns-then-is_word-clause-measure : goal.value_of_items-returns-then-is_word-clause-measure
value_of_items-returns-then-is_word-clause-measure t c =
    rw (value-cell (shape_by c.args.self.now) (variables_by c.args.self.now) c.args.items.now _ _ _ (search rules)
    c.tag-item.is c.one-item.is c.two-item.is (search rules)) (search rules)

pub value_of_items-returns-then-is_word-clause-first : goal.value_of_items-returns-then-is_word-clause-first
value_of_items-returns-then-is_word-clause-first t c =
    rw (value_whys-cell (shape_by c.args.self.now) (variables_by c.args.self.now) c.args.items.now _ _ _ (search rules)
    c.tag-item.is c.one-item.is c.two-item.is (search rules)) c.indexed.ensures

pub value_of_items-returns-then-is_word-2-clause-measure : goal.value_of_items-returns-then-is_word-2-clause-measure
value_of_items-returns-then-is_word-2-clause-measure t c =
    rw (value-pick (shape_by c.args.self.now) (variables_by c.args.self.now) c.args.items.now _ _ _ (search rules)
    c.tag-item.is c.one-item.is c.two-item.is (search rules) (search rules))
    (c.pick.ensures (section (shape_by c.args.self.now) (variables_by c.args.self.now) (view c.one-item.result)) _
    c.section-cells.ensures.len c.value.ensures.measure)

pub value_of_items-returns-then-is_word-2-clause-first : goal.value_of_items-returns-then-is_word-2-clause-first
value_of_items-returns-then-is_word-2-clause-first t c =
    rw (value_whys-pick (shape_by c.args.self.now) (variables_by c.args.self.now) c.args.items.now _ _ _ (search rules)
    c.tag-item.is c.one-item.is c.two-item.is (search rules) (search rules))
    (rw (c.value.ensures.first, c.section-cells.ensures.first) (simp after-append))

pub value_of_items-returns-clause-measure : goal.value_of_items-returns-clause-measure
value_of_items-returns-clause-measure t c =
    rw (value-operation (shape_by c.args.self.now) (variables_by c.args.self.now) c.args.items.now _ _ _ (search rules)
    c.tag-item.is c.one-item.is c.two-item.is (search rules) (search rules))
    (c.and.ensures (unwrap_or (op_of (view c.tag-item.result)) Plus) _ _ c.value-one.ensures.measure c.value-in-len3.ensures.measure)

pub value_of_items-returns-clause-first : goal.value_of_items-returns-clause-first
value_of_items-returns-clause-first t c =
    rw (
      value_whys-operation (shape_by c.args.self.now) (variables_by c.args.self.now) c.args.items.now _ _ _ (search rules)
          c.tag-item.is c.one-item.is c.two-item.is (search rules) (search rules),
      ← c.is_operation.ensures,
    )
    (rw (c.value-in-len3.ensures.first, c.value-one.ensures.first, c.unless.ensures) (simp after-append))
