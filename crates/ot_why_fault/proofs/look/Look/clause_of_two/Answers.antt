use Rattle.std.proofs.Common.{◌≡◌, ◌∙◌, subst, sym, ap}
use Rattle.serde_json.specs.Data.{Data}
use Rattle.ot_program.specs.Meanings.{clause}
use Rattle.ot_why_fault.specs.Whys.{after, clause_whys}
use Rattle.ot_why_fault.specs.Walk.{told_by, shape_by, variables_by}
use Rattle.ot_why_mixed.proofs.ClauseLemmas.{two_items}
use Rattle.ot_why_fault.proofs.AfterLemmas.{after-append}
use Rattle.ot_why_fault.proofs.look.Look.clause_of_two.Goals as goal

pub returns-clause-len : goal.returns-clause-len
returns-clause-len c =
    c.section.ensures.len ∙ ap (λ (d : Data). (clause (shape_by c.args.self.now) c.args.profile (variables_by c.args.self.now) d).section.len) (sym (two_items c.args.items.now _ _ c.requires.two c.tag-item.is c.section-item.is))

pub returns-clause-first : goal.returns-clause-first
returns-clause-first c =
    let two = two_items c.args.items.now _ _ c.requires.two c.tag-item.is c.section-item.is in
    subst (λ d. told_by c.section.new.first ≡ after (told_by c.args.first.now) (clause_whys (shape_by c.args.self.now) c.args.profile (variables_by c.args.self.now) d)) (sym two)
    (rw (c.section.ensures.first, c.unless.ensures, c.is_mode.ensures, c.requires.part, two) (simp after-append))
