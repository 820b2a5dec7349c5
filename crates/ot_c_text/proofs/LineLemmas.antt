-- Requests, one a line.
use Rattle.std.proofs.Common.{◌≡◌, ◌∙◌, ℕ, ◌+◌, ◌<◌, List, [], ◌∷◌, ◌++◌, length, map, take, get_or, refl, sym, ap, subst, append_assoc, append-nil}
use Rattle.std.proofs.lemmas.List.{map-append, take_more}
use Rattle.serde_json.specs.Data.{Data}
use Rattle.ot_c_text.specs.Session.{AreLines, IsLine}

lines_more : (rs : List Data) (text : List ℕ) (r : Data) (line : List ℕ) → AreLines rs text → IsLine r line → AreLines (rs ++ r ∷ []) (text ++ line)
lines_more [] text r line are is = (line, [], is, refl, ap (λ l. l ++ line) are ∙ sym (append-nil line))
lines_more (q ∷ rs) text r line are is = (
  are.0,
  are.1 ++ line,
  are.2,
  lines_more rs are.1 r line are.3 is,
  ap (λ l. l ++ line) are.4 ∙ append_assoc are.0 are.1 line,
)

-- one line more of a list of requests
pub lines_next : {V : Type 0} (view : V → Data) (requests : List V) (i : ℕ) (found : V) (text line more : List ℕ) → AreLines (map view (take i requests)) text → IsLine (view found) line
    → more ≡ text ++ line → i < length requests → found ≡ get_or requests i found → AreLines (map view (take (i + 1) requests)) more
lines_next view requests i found text line more are is next within at =
    let all : map view (take (i + 1) requests) ≡ map view (take i requests) ++ view found ∷ [] =
    ap (map view) (take_more requests i found within ∙ ap (λ x. take i requests ++ x ∷ []) (sym at)) ∙ map-append view (take i requests) (found ∷ []) in
    subst (λ l. AreLines l more) (sym all) (subst (AreLines (map view (take i requests) ++ view found ∷ [])) (sym next) (lines_more (map view (take i requests)) text (view found) line are is))
