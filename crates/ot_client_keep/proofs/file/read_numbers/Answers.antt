use Rattle.std.proofs.Common.{◌≡◌, ◌∙◌, ◌++◌, ap, sym}
use Rattle.std.specs.Prelude.{codes, decimal}
use Rattle.std.proofs.lemmas.List.{append_cancel_left}
use Rattle.ot_client_keep.proofs.file.read_numbers.Goals as goal

pub returns-in_err-rest : goal.returns-in_err-rest
returns-in_err-rest c = λ sum next used fits_next fits_used is.
    let behind = decimal next ++ (codes ", \"used\": " ++ (decimal used ++ (codes ", \"sha256\": \"" ++ (sum ++ codes "\"}\n")))) in
    absurd (c.in_err-rest.ensures behind (is ∙ ap (λ f. f ++ behind) (sym c.as_slice.ensures)))

pub returns-in_err-rest-2 : goal.returns-in_err-rest-2
returns-in_err-rest-2 c = λ sum next used fits_next fits_used is.
    let more = decimal used ++ (codes ", \"sha256\": \"" ++ (sum ++ codes "\"}\n")) in
    let behind = decimal next ++ (codes ", \"used\": " ++ more) in
    let rest : c.in_ok-rest.rest.now ≡ behind =
    append_cancel_left (codes "{\"next\": ") c.in_ok-rest.rest.now behind (ap (λ f. f ++ c.in_ok-rest.rest.now) (sym c.as_slice.ensures) ∙ sym c.in_ok-rest.ensures ∙ is) in
    let number = c.in_ok-next.ensures next (codes " \"used\": " ++ more) fits_next rest in
    absurd (c.in_err-rest-2.ensures more (number.1 ∙ ap (λ f. f ++ more) (sym c.as_slice-2.ensures)))
