use Rattle.std.proofs.Common.{[], ◌∷◌, ◌∙◌}
use Rattle.std.specs.Prelude.{codes}
use Rattle.serde_json.specs.Data.{array, string}
use Rattle.serde_json.specs.View.{items_of}
use Rattle.ot_book.specs.Answers.{nat, nats}
use Rattle.ot_client_keep.proofs.BodyLemmas.{front-tokens, line_text, long-tokens}
use Rattle.ot_client_keep.proofs.body.with_put.Goals as goal

pub returns : goal.returns
returns c =
    let front = front-tokens (codes "put") c.args.name.now c.args.start _ _ _ _ _ c.new-out.ensures.tokens c.in_ok-begin_array.ensures.ok c.in_ok-string.ensures.ok c.in_ok-string-2.ensures.ok c.in_ok-u64.ensures.ok in
    let tokens = long-tokens (codes "put") c.args.name.now c.args.start c.args.numbers.now _ _ _ front c.in_ok-write_numbers.ensures.tokens c.in_ok-end_array.ensures.ok in
    let before = c.in_ok-end_array.ensures.room.0 ∙ c.in_ok-write_numbers.ensures.before ∙ c.in_ok-u64.ensures.room.0 ∙ c.in_ok-string-2.ensures.room.0 ∙ c.in_ok-string.ensures.room.0 ∙ c.in_ok-begin_array.ensures.room.0 ∙ c.new-out.ensures.before in
    line_text (array (items_of (string (codes "put") ∷ string c.args.name.now ∷ nat c.args.start ∷ nats c.args.numbers.now ∷ []))) _ _ _ _ _ c.into_inner-more.ensures.items before tokens c.in_ok-push.ensures.items
