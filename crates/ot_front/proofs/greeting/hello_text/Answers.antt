use Rattle.std.proofs.Common.{◌≡◌, ◌++◌, ◌∷◌, [], ◌∙◌, ap}
use Rattle.json.specs.Token as token
use Rattle.json.specs.Print.{print}
use Rattle.serde_json.proofs.Texts.{print-outline}
use Rattle.ot_front.specs.Greetings.{hello_json}
use Rattle.ot_front.proofs.GreetingLemmas.{hello-tokens}
use Rattle.ot_front.proofs.greeting.hello_text.Goals as goal

pub returns : goal.returns
returns c =
    let tokens = hello-tokens c.args.book.now c.next_number.result c.new-out.result.tokens c.begin_array.new.self.tokens c.string.new.self.tokens c.string-2.new.self.tokens c.u64.new.self.tokens c.end_array.new.self.tokens
    c.next_number.ensures c.new-out.ensures.tokens c.in_ok-begin_array.ensures.ok c.in_ok-string.ensures.ok
    (c.in_ok-string-2.ensures.ok ∙ ap (λ name. c.string.new.self.tokens ++ token.string name ∷ []) c.name.ensures) c.in_ok-u64.ensures.ok c.in_ok-end_array.ensures.ok in
    let before : c.end_array.new.self.before ≡ [] =
    c.in_ok-end_array.ensures.room.0 ∙ c.in_ok-u64.ensures.room.0 ∙ c.in_ok-string-2.ensures.room.0 ∙ c.in_ok-string.ensures.room.0 ∙ c.in_ok-begin_array.ensures.room.0
    ∙ c.new-out.ensures.before ∙ c.new.ensures.items in
    c.in_ok-push.ensures.items
    ∙ ap (λ bs. bs ++ 10 ∷ [])
    (c.into_inner-text.ensures.items
    ∙ ap (λ bs. bs ++ print c.end_array.new.self.tokens) before
    ∙ ap print tokens
    ∙ print-outline (hello_json c.args.book.now))
