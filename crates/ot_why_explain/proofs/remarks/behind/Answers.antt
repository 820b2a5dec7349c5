use Rattle.std.proofs.Common.{◌∙◌, ap, subst}
use Rattle.ot_check.proofs.Cited.{if_ok}
use Rattle.ot_why_reason.specs.Places.{texts_of}
use Rattle.ot_why_explain.specs.Remarks.{AreReasons, behind_ends}
use Rattle.ot_why_explain.proofs.remarks.behind.Goals as goal

pub returns : goal.returns
returns c =
    let told = texts_of c.in_ok-told.told.items in
    if_ok c.behind_ends.result _ _
    (λ text h. (
      told,
      subst (λ line. AreReasons c.args.book.now line c.args.code told) c.as_slice.ensures.value c.in_ok-told.ensures,
      h ∙ ap (λ lines. behind_ends (texts_of lines)) c.as_slice-2.ensures.value,
    ))
    c.behind_ends.ensures
