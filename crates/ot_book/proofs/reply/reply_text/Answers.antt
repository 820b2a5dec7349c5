use Rattle.std.proofs.Common.{◌≡◌, ◌++◌, ◌∙◌, ap, subst}
use Rattle.std.specs.Prelude.{IfOk}
use Rattle.std.specs.String.{string_vec}
use Rattle.json.specs.Print.{print}
use Rattle.serde_json.proofs.Texts.{print-outline}
use Rattle.ot_book.specs.Answers.{json_of}
use Rattle.ot_book.specs.ReplyView.{told_of}
use Rattle.ot_book.specs.Pieces.{tokens_of}
use Rattle.ot_book.proofs.reply.reply_text.Goals as goal

pub returns : goal.returns
returns c =
    let d = json_of c.args.reply.now.number (told_of c.args.reply.now.told.now) in
    let text = subst (λ r. IfOk r (λ t. string_vec t ≡ c.into_inner.result)) c.unwrap.ensures c.from_utf8.ensures.ok in
    let before = c.in_ok-write_told.ensures.before ∙ c.new-out.ensures.before ∙ c.new.ensures.items in
    let tokens = c.in_ok-write_told.ensures.tokens ∙ ap (λ ts. ts ++ tokens_of d) c.new-out.ensures.tokens in
    ap (λ v. v.items) text ∙ c.into_inner.ensures.items ∙ ap (λ bs. bs ++ print c.write_told.new.out.tokens) before ∙ ap print tokens ∙ print-outline d
