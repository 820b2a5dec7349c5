use Rattle.std.proofs.Common.{◌≡◌, ◌∙◌, [], ◌∷◌, ◌++◌, Some, ap, ap₂, sym, true, false}
use Rattle.hex.specs.Hex.{encode_with, lower_digits}
use Rattle.sha2.specs.Sha256.{sha256}
use Rattle.ot_client_keep.specs.Files.{bye_line, note_line, text_summed}
use Rattle.ot_client_keep.proofs.FileLemmas.{note-ends, note-others, note_front, some_pair}
use Rattle.ot_client_keep.proofs.file.read_file.Goals as goal

pub returns-in_default : goal.returns-in_default
returns-in_default c = λ session next used fits_next fits_used lines is.
    let bytes = sha256 (text_summed session next used) in
    let front = note_front (encode_with lower_digits bytes) next used in
    let ends = note-ends (encode_with lower_digits bytes) next used in
    let text : c.args.file.now ≡ session ++ (bye_line ++ (front ++ 10 ∷ [])) = is ∙ ap (λ l. session ++ (bye_line ++ l)) ends in
    let others = note-others bytes next used fits_next fits_used in
    c.in_default.ensures.found session front lines others text

pub returns-in_default-read_numbers : goal.returns-in_default-read_numbers
returns-in_default-read_numbers c = λ session next used fits_next fits_used lines is.
    let bytes = sha256 (text_summed session next used) in
    let front = note_front (encode_with lower_digits bytes) next used in
    let ends = note-ends (encode_with lower_digits bytes) next used in
    let text : c.args.file.now ≡ session ++ (bye_line ++ (front ++ 10 ∷ [])) = is ∙ ap (λ l. session ++ (bye_line ++ l)) ends in
    let others = note-others bytes next used fits_next fits_used in
    let found = c.in-Some.ensures.found session front lines others text in
    let numbers = c.read_numbers.ensures (encode_with lower_digits bytes) next used fits_next fits_used (found.1 ∙ sym ends) in
    c.in_default-read_numbers.not-Some (next, used) numbers

pub returns : goal.returns
returns c = λ session next used fits_next fits_used lines is.
    let bytes = sha256 (text_summed session next used) in
    let front = note_front (encode_with lower_digits bytes) next used in
    let ends = note-ends (encode_with lower_digits bytes) next used in
    let text : c.args.file.now ≡ session ++ (bye_line ++ (front ++ 10 ∷ [])) = is ∙ ap (λ l. session ++ (bye_line ++ l)) ends in
    let others = note-others bytes next used fits_next fits_used in
    let found = c.in-Some.ensures.found session front lines others text in
    let numbers = c.read_numbers.ensures (encode_with lower_digits bytes) next used fits_next fits_used (found.1 ∙ sym ends) in
    let both : Some (c.in-Some-read_numbers.next, c.in-Some-read_numbers.used) ≡ Some (next, used) = sym c.in-Some-read_numbers.is ∙ numbers in
    let pair = some_pair _ _ both in
    let wanted = c.as_bytes.ensures.value ∙ c.in_ok-wanted.ensures ∙ ap (λ l. note_line l c.in-Some-read_numbers.next c.in-Some-read_numbers.used) found.0
    ∙ ap₂ (λ n u. note_line session n u) pair.0 pair.1 in
    let yes = c.same_bytes.ensures.1 (found.1 ∙ sym ends ∙ sym wanted) in
    let no : true ≡ false = sym yes ∙ c.if-same_bytes.false in
    absurd (cc)
