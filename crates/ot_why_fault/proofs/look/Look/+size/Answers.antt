use Rattle.std.proofs.Common.{◌∙◌, sym, ap, rules}
use Rattle.serde_json.specs.View.{view}
use Rattle.ot_why_place.proofs.SizeLemmas.{size-number, size-string, size-three, view-Number, view-String}
use Rattle.ot_why_place.proofs.SizeLemmas as sizes
use Rattle.ot_why_fault.specs.Walk.{told_by, variables_by}
use Rattle.ot_why_fault.proofs.FormLemmas.{no_size, no_size_but_three}
use Rattle.ot_why_fault.proofs.PartLemmas.{number_told, size_whys-string, operation_told}
use Rattle.ot_why_fault.proofs.look.Look.+size.Goals as goal

pub size-returns-in-Number-clause-number : goal.size-returns-in-Number-clause-number
size-returns-in-Number-clause-number t c =
    rw (ap view c.in-Number.is ∙ view-Number c.in-Number.number, size-number (variables_by c.args.self.now)) (search rules)

pub size-returns-in-Number-clause-first : goal.size-returns-in-Number-clause-first
size-returns-in-Number-clause-first t c =
    number_told (variables_by c.args.self.now) (view c.args.part.now) _ _ (told_by c.unless.new.self) _ c.as_u64-number.result _ _ _
    (ap view c.in-Number.is ∙ view-Number c.in-Number.number) (search rules) c.is_some.ensures c.unwrap_or-number.ensures (search rules)
    c.unless.ensures c.unless-in-Number.ensures

pub size-returns-in-String-clause-number : goal.size-returns-in-String-clause-number
size-returns-in-String-clause-number t c =
    rw (ap view c.in-String.is ∙ view-String c.in-String.name, size-string (variables_by c.args.self.now)) (search rules)

pub size-returns-in-String-clause-first : goal.size-returns-in-String-clause-first
size-returns-in-String-clause-first t c =
    rw (
      size_whys-string (variables_by c.args.self.now) _ _ (ap view c.in-String.is ∙ view-String c.in-String.name),
      ← c.as_str.ensures.value,
    ) c.variable.ensures.first

pub size-returns-in_default-clause-number : goal.size-returns-in_default-clause-number
size-returns-in_default-clause-number t c =
    sym (sizes.no_size (variables_by c.args.self.now) c.args.part.now c.in_default.not-Number c.in_default.not-String c.in_default.not-Array)

pub size-returns-in_default-clause-first : goal.size-returns-in_default-clause-first
size-returns-in_default-clause-first t c =
    rw (no_size (variables_by c.args.self.now) c.args.part.now c.in_default.not-Number c.in_default.not-String c.in_default.not-Array) (search rules)

pub size_of_items-returns-then-items-ne3-clause-number : goal.size_of_items-returns-then-items-ne3-clause-number
size_of_items-returns-then-items-ne3-clause-number t c =
    sym (sizes.no_size_but_three (variables_by c.args.self.now) c.args.items.now (search rules))

pub size_of_items-returns-then-items-ne3-clause-first : goal.size_of_items-returns-then-items-ne3-clause-first
size_of_items-returns-then-items-ne3-clause-first t c =
    rw (no_size_but_three (variables_by c.args.self.now) c.args.items.now (search rules), ← c.requires) (search rules)

pub size_of_items-returns-clause-number : goal.size_of_items-returns-clause-number
size_of_items-returns-clause-number t c =
    rw (size-three (variables_by c.args.self.now) c.args.items.now _ _ _ (search rules) c.tag-item.is c.one-item.is c.two-item.is) (search rules)

pub size_of_items-returns-clause-first : goal.size_of_items-returns-clause-first
size_of_items-returns-clause-first t c =
    operation_told (variables_by c.args.self.now) c.args.items.now _ _ _ _ (told_by c.unless.new.self) (told_by c.size-one.new.first)
    (told_by c.size-two.new.first) _ c.sign_of-sign.result _ _ _ _ c.exact-number.result _
    (search rules) c.tag-item.is c.one-item.is c.two-item.is c.sign_of-sign.ensures c.is_some.ensures c.unless.ensures
    c.size-one.ensures.number c.size-one.ensures.first c.size-two.ensures.number c.size-two.ensures.first
    c.exact-number.ensures c.is_some-in-len3.ensures c.unwrap_or.ensures c.unless-in-len3.ensures
