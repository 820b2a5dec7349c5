use Rattle.std.proofs.Common.{◌≡◌, ◌∙◌, ap, false, true, refl, subst, sym}
use Rattle.ot_model.specs.declared.expr.Section.{Section}
use Rattle.ot_program.specs.Meanings.{clause, is_two}
use Rattle.ot_why_fault.specs.Whys.{after, clause_whys}
use Rattle.ot_why_fault.specs.Walk.{told_by, shape_by, variables_by}
use Rattle.ot_why_mixed.proofs.ClauseLemmas.{three_items}
use Rattle.ot_why_fault.proofs.AfterLemmas.{after-append}
use Rattle.ot_why_fault.proofs.ClauseLemmas.{section-three, len-three}
use Rattle.ot_why_fault.proofs.look.Look.clause_of_three.Goals as goal

pub returns-in-One-clause-len : goal.returns-in-One-clause-len
returns-in-One-clause-len c =
    let one : is_two c.args.profile ≡ false = ap is_two c.in-One.is in
    subst (λ d. c.size_of.result ≡ (clause (shape_by c.args.self.now) c.args.profile (variables_by c.args.self.now) d).section.len) (sym (three_items c.args.items.now _ _ _ c.requires.three c.tag-item.is c.op-item.is c.section-item.is))
    (c.size_of.ensures ∙ sym (len-three (shape_by c.args.self.now) c.args.profile (variables_by c.args.self.now) _ _ _ one))

pub returns-in-One-clause-first : goal.returns-in-One-clause-first
returns-in-One-clause-first c =
    let one : is_two c.args.profile ≡ false = ap is_two c.in-One.is in
    let three = three_items c.args.items.now _ _ _ c.requires.three c.tag-item.is c.op-item.is c.section-item.is in
    subst (λ d. told_by c.note.new.self ≡ after (told_by c.args.first.now) (clause_whys (shape_by c.args.self.now) c.args.profile (variables_by c.args.self.now) d)) (sym three)
    (rw (c.note.ensures, c.requires.part, three, one) refl)

pub returns-in-Two-clause-len : goal.returns-in-Two-clause-len
returns-in-Two-clause-len c =
    let two : is_two c.args.profile ≡ true = ap is_two c.in-Two.is in
    subst (λ d. c.section.result ≡ (clause (shape_by c.args.self.now) c.args.profile (variables_by c.args.self.now) d).section.len) (sym (three_items c.args.items.now _ _ _ c.requires.three c.tag-item.is c.op-item.is c.section-item.is))
    (c.section.ensures.len ∙ ap (λ (it : Section). it.len) (sym (section-three (shape_by c.args.self.now) c.args.profile (variables_by c.args.self.now) _ _ _ two)))

pub returns-in-Two-clause-first : goal.returns-in-Two-clause-first
returns-in-Two-clause-first c =
    let two : is_two c.args.profile ≡ true = ap is_two c.in-Two.is in
    let three = three_items c.args.items.now _ _ _ c.requires.three c.tag-item.is c.op-item.is c.section-item.is in
    subst (λ d. told_by c.section.new.first ≡ after (told_by c.args.first.now) (clause_whys (shape_by c.args.self.now) c.args.profile (variables_by c.args.self.now) d)) (sym three)
    (rw (c.section.ensures.first, c.red.ensures, c.requires.part, three, two) (simp after-append))
