-- One form more.
use Rattle.std.proofs.Common.{◌≡◌, ◌∙◌, ◌+◌, ◌<◌, ℕ, List, length, get_or, take, ap, sym}
use Rattle.std.specs.Prelude.{Option, None}
use Rattle.std.specs.Option.{option_or}
use Rattle.std.proofs.lemmas.List.Sums.{fold_more}
use Rattle.ot_exec_code.specs.Sites.{site_of, last_site}
use Rattle.ot_exec_code.specs.declared.form.Form.{Form}

pub site_more : (forms : List Form) (i : ℕ) (form : Form) (found site new : Option ℕ) → i < length forms → form ≡ get_or forms i form
    → found ≡ last_site (take i forms) → site ≡ site_of form → new ≡ option_or site found → new ≡ last_site (take (i + 1) forms)
site_more forms i form found site new within is so_far one made =
    let later = λ (found : Option ℕ) (form : Form). option_or (site_of form) found in
    let next : last_site (take (i + 1) forms) ≡ option_or (site_of (get_or forms i form)) (last_site (take i forms)) = fold_more later None forms i form within in
    made ∙ ap (λ (s : Option ℕ). option_or s found) (one ∙ ap site_of is) ∙ ap (option_or (site_of (get_or forms i form))) so_far ∙ sym next
