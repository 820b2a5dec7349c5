use Rattle.std.proofs.Common.{◌≡◌, ◌∙◌, ◌+◌, ◌∷◌, ◌++◌, Some, None, ap, ap₂, append_assoc, length, subst, sym, true, false}
use Rattle.std.proofs.lemmas.List.{take-append-drop}
use Rattle.ot_client_keep.specs.Files.{AreLines, bye_line}
use Rattle.ot_client_keep.proofs.FileLemmas.{bye_word, file-body, file-ends, file-place, file-session}
use Rattle.ot_client_keep.proofs.file.split_file.Goals as goal

pub returns-in_err-front-clause-found : goal.returns-in_err-front-clause-found
returns-in_err-front-clause-found c = λ session front lines others is.
    let whole = (session ++ bye_word) ++ 10 ∷ front in
    absurd (c.in_err-front.ensures whole (file-ends c.args.file.now session front is ∙ ap (λ e. whole ++ e) (sym c.as_slice.ensures)))

pub returns-in_err-at-clause-found : goal.returns-in_err-at-clause-found
returns-in_err-at-clause-found c = λ session front lines others is.
    let place = file-place c.args.file.now session front c.in_ok-front.front.now c.as_slice.result.now c.memrchr.result is c.in_ok-front.ensures c.as_slice.ensures others c.memrchr.ensures in
    let none : None ≡ Some (length (session ++ bye_word)) = sym c.in_err-at.was ∙ place in
    absurd (cc)

pub returns-in_err-session-clause-found : goal.returns-in_err-session-clause-found
returns-in_err-session-clause-found c = λ session front lines others is.
    let place = file-place c.args.file.now session front c.in_ok-front.front.now c.as_slice.result.now c.memrchr.result is c.in_ok-front.ensures c.as_slice.ensures others c.memrchr.ensures in
    let both : Some c.in_ok-at.at ≡ Some (length (session ++ bye_word)) = sym c.in_ok-at.was ∙ place in
    let same : c.in_ok-at.at ≡ length (session ++ bye_word) = cc in
    let parts = file-body c.args.file.now session front c.in_ok-at.at is same in
    absurd (c.in_err-session.ensures session (c.split_at.ensures.front ∙ parts.0 ∙ ap (λ e. session ++ e) (sym c.as_slice-2.ensures)))

pub returns-then-are_lines-clause-parts : goal.returns-then-are_lines-clause-parts
returns-then-are_lines-clause-parts c = (
  c.are_lines.ensures.0 c.if-are_lines.true,
  sym (take-append-drop (c.in_ok-at.at + 1) c.args.file.now)
      ∙ ap₂ (λ a b. a ++ b) (sym c.split_at.ensures.front ∙ c.in_ok-session.ensures ∙ ap (λ e. c.in_ok-session.session.now ++ e) c.as_slice-2.ensures) (sym c.split_at.ensures.back)
      ∙ append_assoc c.in_ok-session.session.now bye_line c.split_at.result.1.now,
)

pub returns-then-are_lines-clause-found : goal.returns-then-are_lines-clause-found
returns-then-are_lines-clause-found c = λ session front lines others is.
    let place = file-place c.args.file.now session front c.in_ok-front.front.now c.as_slice.result.now c.memrchr.result is c.in_ok-front.ensures c.as_slice.ensures others c.memrchr.ensures in
    let both : Some c.in_ok-at.at ≡ Some (length (session ++ bye_word)) = sym c.in_ok-at.was ∙ place in
    let same : c.in_ok-at.at ≡ length (session ++ bye_word) = cc in
    let parts = file-body c.args.file.now session front c.in_ok-at.at is same in (
      file-session c.split_at.result.0.now session c.in_ok-session.session.now c.as_slice-2.result.now (c.split_at.ensures.front ∙ parts.0) c.in_ok-session.ensures c.as_slice-2.ensures,
      c.split_at.ensures.back ∙ parts.1,
    )

pub returns-else-are_lines-clause-found : goal.returns-else-are_lines-clause-found
returns-else-are_lines-clause-found c = λ session front lines others is.
    let place = file-place c.args.file.now session front c.in_ok-front.front.now c.as_slice.result.now c.memrchr.result is c.in_ok-front.ensures c.as_slice.ensures others c.memrchr.ensures in
    let both : Some c.in_ok-at.at ≡ Some (length (session ++ bye_word)) = sym c.in_ok-at.was ∙ place in
    let same : c.in_ok-at.at ≡ length (session ++ bye_word) = cc in
    let parts = file-body c.args.file.now session front c.in_ok-at.at is same in
    let found = file-session c.split_at.result.0.now session c.in_ok-session.session.now c.as_slice-2.result.now (c.split_at.ensures.front ∙ parts.0) c.in_ok-session.ensures c.as_slice-2.ensures in
    let yes = c.are_lines.ensures.1 (subst AreLines (sym found) lines) in
    let no : true ≡ false = sym yes ∙ c.if-are_lines.false in
    absurd (cc)
