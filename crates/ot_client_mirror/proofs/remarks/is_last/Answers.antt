use Rattle.std.proofs.Common.{◌∙◌, sym, ap}
use Rattle.std.specs.Prelude.{option_map}
use Rattle.ot_book.specs.ReplyView.{told_of}
use Rattle.ot_client_mirror.proofs.RemarksLemmas.{same_code}
use Rattle.ot_client_mirror.proofs.remarks.is_last.Goals as goal

pub returns-in-Some : goal.returns-in-Some
returns-in-Some c = λ is.
    same_code c.args.book.now c.args.refusal (told_of c.in-Some.told.now) (sym (ap (option_map (λ told. told_of told.now)) c.in-Some.is) ∙ c.told_last.ensures) (c.is_told.ensures is)
