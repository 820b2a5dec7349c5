use Rattle.std.proofs.Common.{◌≡◌, ◌∙◌, ◌∷◌, Some, None, ap₂, arith, drop, length, subst, sym, take}
use Rattle.std.specs.Prelude.{IsUtf8, Ok, Err, decimal}
use Rattle.std.proofs.Math.Seq.{take-append_seam, drop-append_seam}
use Rattle.std.proofs.lemmas.Fmt.{IsAscii-decimal, parse-decimal}
use Rattle.std.proofs.lemmas.Str.{IsUtf8-from_ascii}
use Rattle.memchr.specs.Find.{IsFirstByte, is_byte}
use Rattle.ot_client_keep.proofs.FileLemmas.{decimal-others, first_place}
use Rattle.ot_client_keep.proofs.file.number_before_comma.Goals as goal

pub returns-in_err-at : goal.returns-in_err-at
returns-in_err-at c = λ n rest fits is.
    let place = first_place 44 (decimal n) rest c.memchr.result (decimal-others 44 n (omega arith) fits) (subst (λ t. IsFirstByte (is_byte 44) t c.memchr.result) is c.memchr.ensures) in
    let none : None ≡ Some (length (decimal n)) = sym c.in_err-at.was ∙ place in
    absurd (cc)

pub returns-in-Err : goal.returns-in-Err
returns-in-Err c = λ n rest fits is.
    let place = first_place 44 (decimal n) rest c.memchr.result (decimal-others 44 n (omega arith) fits) (subst (λ t. IsFirstByte (is_byte 44) t c.memchr.result) is c.memchr.ensures) in
    let both : Some c.in_ok-at.at ≡ Some (length (decimal n)) = sym c.in_ok-at.was ∙ place in
    let same : c.in_ok-at.at ≡ length (decimal n) = cc in
    let digits : c.split_at.result.0.now ≡ decimal n = c.split_at.ensures.front ∙ ap₂ take same is ∙ take-append_seam (decimal n) (44 ∷ rest) in
    absurd (c.in-Err.ensures.cases.0 (subst IsUtf8 (sym digits) (IsUtf8-from_ascii (decimal n) (IsAscii-decimal n fits))))

pub returns-in-Err-parse : goal.returns-in-Err-parse
returns-in-Err-parse c = λ n rest fits is.
    let place = first_place 44 (decimal n) rest c.memchr.result (decimal-others 44 n (omega arith) fits) (subst (λ t. IsFirstByte (is_byte 44) t c.memchr.result) is c.memchr.ensures) in
    let both : Some c.in_ok-at.at ≡ Some (length (decimal n)) = sym c.in_ok-at.was ∙ place in
    let same : c.in_ok-at.at ≡ length (decimal n) = cc in
    let digits : c.split_at.result.0.now ≡ decimal n = c.split_at.ensures.front ∙ ap₂ take same is ∙ take-append_seam (decimal n) (44 ∷ rest) in
    let parsed = parse-decimal 64 n c.in-Ok.digits.now c.parse.result fits fits (c.in-Ok.ensures.cases.0 ∙ digits) c.parse.ensures.value.0 in
    let no : Ok n ≡ Err _ = sym parsed ∙ c.in-Err-parse.is in
    absurd (cc)

pub returns-in-Ok-parse : goal.returns-in-Ok-parse
returns-in-Ok-parse c = λ n rest fits is.
    let place = first_place 44 (decimal n) rest c.memchr.result (decimal-others 44 n (omega arith) fits) (subst (λ t. IsFirstByte (is_byte 44) t c.memchr.result) is c.memchr.ensures) in
    let both : Some c.in_ok-at.at ≡ Some (length (decimal n)) = sym c.in_ok-at.was ∙ place in
    let same : c.in_ok-at.at ≡ length (decimal n) = cc in
    let digits : c.split_at.result.0.now ≡ decimal n = c.split_at.ensures.front ∙ ap₂ take same is ∙ take-append_seam (decimal n) (44 ∷ rest) in
    let parsed = parse-decimal 64 n c.in-Ok.digits.now c.parse.result fits fits (c.in-Ok.ensures.cases.0 ∙ digits) c.parse.ensures.value.0 in
    let yes : Ok c.in-Ok-parse.number ≡ Ok n = sym c.in-Ok-parse.is ∙ parsed in
    let number : c.in-Ok-parse.number ≡ n = cc in
    (number, c.split_at.ensures.back ∙ ap₂ drop same is ∙ drop-append_seam (decimal n) (44 ∷ rest))
