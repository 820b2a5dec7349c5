use Rattle.std.proofs.Common.{◌≡◌, ℕ, List, [], take, sym, subst, ◌∙◌}
use Rattle.std.specs.Prelude.{Some, None, MatchOption, string_bytes}
use Rattle.ot_why_explain.specs.Explaining.{without_remarks, last_code, with_code}
use Rattle.ot_why_explain.proofs.RemarkLemmas.{on-hidden}
use Rattle.ot_why_explain.proofs.telling.tell_last.Goals as goal

pub returns-clause-cut : goal.returns-clause-cut
returns-clause-cut g c =
    let known = subst (λ r. MatchOption r (last_code c.args.book.now ≡ None)
    (λ text. (code : ℕ) × (last_code c.args.book.now ≡ Some code) × (first : List ℕ) × (string_bytes text ≡ with_code code first))) c.in-Some.is c.in-Ok.ensures in
    let opened = c.in-Ok-remarked.ensures known.0 known.2 (c.as_bytes.ensures.value ∙ known.3) in
    let front = c.in-Err.ensures.err.front in (
      take front.0 c.as_slice.result.now,
      subst (λ text. without_remarks (take front.0 text) ≡ []) (sym c.as_slice.ensures.value) (on-hidden (Some known.0) c.in-Ok-remarked.text.items opened front.0),
      front.2,
    )
