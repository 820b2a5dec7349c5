use Rattle.std.proofs.Common.{◌≡◌, ◌∙◌, sym, ap}
use Rattle.std.specs.Prelude.{Vec}
use Rattle.std.specs.Global.{Global}
use Rattle.ot_model.specs.View.{stmts_of}
use Rattle.ot_parts.specs.Parts.{parts_of}
use Rattle.ot_parts.specs.declared.part.Part.{Part}
use Rattle.ot_check.proofs.job.same_body.Goals as goal

pub returns-then-same_parts : goal.returns-then-same_parts
returns-then-same_parts c =
    let one = ap (λ (v : Vec Part Global). parts_of v.items) c.deref.ensures in
    let other = ap (λ (v : Vec Part Global). parts_of v.items) c.deref-2.ensures in
    let same = sym c.args.one.now.prepared ∙ sym one ∙ c.same_parts.ensures c.if-same_parts.true ∙ other ∙ c.args.other.now.prepared in
    ((λ _. same), λ _. c.if-same_parts.true)

pub returns-else-same_parts : goal.returns-else-same_parts
returns-else-same_parts c =
    let one = ap stmts_of c.deref-else-same_parts.ensures.value in
    let other = ap stmts_of c.deref-else-same_parts-2.ensures.value in
    ((λ yes. sym one ∙ c.same_stmts.ensures.0 yes ∙ other), λ is. c.same_stmts.ensures.1 (one ∙ is ∙ sym other))
