use Rattle.std.proofs.Common.{◌≡◌, ◌∙◌, ℕ, List, subst}
use Rattle.std.specs.Prelude.{Some, None, MatchOption, string_bytes}
use Rattle.ot_why_explain.specs.Explaining.{last_code, with_code}
use Rattle.ot_why_explain.proofs.SayingLemmas.{on_known}
use Rattle.ot_why_explain.proofs.saying.remarks_on.Goals as goal

pub returns-in-Some : goal.returns-in-Some
returns-in-Some c =
    let known = subst (λ r. MatchOption r (last_code c.args.book.now ≡ None)
    (λ text. (code : ℕ) × (last_code c.args.book.now ≡ Some code) × (first : List ℕ) × (string_bytes text ≡ with_code code first))) c.in-Some.is c.in_ok-remarks.ensures in
    on_known (last_code c.args.book.now) c.as_bytes.result.now c.remarked.result known.0 known.1 known.2 (c.as_bytes.ensures.value ∙ known.3) c.remarked.ensures
