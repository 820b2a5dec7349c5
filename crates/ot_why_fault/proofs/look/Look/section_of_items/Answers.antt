use Rattle.std.proofs.Common.{◌∙◌, rules, sym, ap}
use Rattle.serde_json.specs.Data.{Data}
use Rattle.ot_program.specs.Meanings.{section}
use Rattle.ot_why_fault.specs.Whys.{after, section_whys}
use Rattle.ot_why_fault.specs.Walk.{told_by, shape_by, variables_by}
use Rattle.ot_why_mixed.proofs.ClauseLemmas.{three_items}
use Rattle.ot_why_fault.proofs.FormLemmas.{no_section_but_three, no_len_but_three}
use Rattle.ot_why_fault.proofs.look.Look.section_of_items.Goals as goal

pub returns-then-items-ne3-clause-len : goal.returns-then-items-ne3-clause-len
returns-then-items-ne3-clause-len c =
    sym (no_len_but_three (shape_by c.args.self.now) (variables_by c.args.self.now) c.args.items.now (search rules))

pub returns-then-items-ne3-clause-first : goal.returns-then-items-ne3-clause-first
returns-then-items-ne3-clause-first c =
    rw (no_section_but_three (shape_by c.args.self.now) (variables_by c.args.self.now) c.args.items.now (search rules), ← c.requires) (search rules)

pub returns-clause-len : goal.returns-clause-len
returns-clause-len c =
    c.section_of.ensures.len ∙ ap (λ (d : Data). (section (shape_by c.args.self.now) (variables_by c.args.self.now) d).len) (sym (three_items c.args.items.now _ _ _ (search rules) c.name-item.is c.start-item.is c.len-item.is))

pub returns-clause-first : goal.returns-clause-first
returns-clause-first c =
    c.section_of.ensures.first
    ∙ ap (λ (d : Data). after (told_by c.args.first.now) (section_whys (shape_by c.args.self.now) (variables_by c.args.self.now) d)) (sym (three_items c.args.items.now _ _ _ (search rules) c.name-item.is c.start-item.is c.len-item.is))
