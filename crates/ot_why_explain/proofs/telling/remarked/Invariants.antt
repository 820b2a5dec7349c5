use Rattle.std.proofs.Common.{◌≡◌, ◌⊎◌, ℕ, List, [], length}
use Rattle.ot_why_explain.specs.Explaining.{with_code, OpensWith}
use Rattle.ot_why_explain.proofs.telling.remarked.Given as goal

-- where the text begins with a code, so does the first remark
abbrev pub invariant-loop-at : goal.invariant-loop-at
invariant-loop-at l =
    (code : ℕ) (first : List ℕ) → l.text ≡ with_code code first → ((l.out.items ≡ []) × (l.rest ≡ l.text)) ⊎ OpensWith code l.out.items

abbrev pub decreases-loop-at : goal.decreases-loop-at
decreases-loop-at l = length l.rest
