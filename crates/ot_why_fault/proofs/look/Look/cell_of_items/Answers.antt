use Rattle.std.proofs.Common.{◌≡◌, rules, subst, sym}
use Rattle.ot_why_fault.specs.Whys.{after, cell_whys}
use Rattle.ot_why_fault.specs.Walk.{told_by, shape_by, variables_by}
use Rattle.ot_why_mixed.proofs.ClauseLemmas.{three_items}
use Rattle.ot_why_fault.proofs.AfterLemmas.{after-append}
use Rattle.ot_why_fault.proofs.FormLemmas.{no_cell_but_three}
use Rattle.ot_why_fault.proofs.look.Look.cell_of_items.Goals as goal

pub returns-then-items-ne3 : goal.returns-then-items-ne3
returns-then-items-ne3 c =
    rw (no_cell_but_three (shape_by c.args.self.now) (variables_by c.args.self.now) c.args.items.now (search rules), ← c.requires) (search rules)

pub returns : goal.returns
returns c =
    let three = three_items c.args.items.now _ _ _ (search rules) c.tag-item.is c.name-item.is c.index-item.is in
    subst (λ d. told_by c.indexed.new.first ≡ after (told_by c.args.first.now) (cell_whys (shape_by c.args.self.now) (variables_by c.args.self.now) d)) (sym three)
    (rw (c.indexed.ensures, c.unless.ensures, c.is_word.ensures, c.requires, three) (simp after-append))
