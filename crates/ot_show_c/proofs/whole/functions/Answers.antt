use Rattle.std.proofs.Common.{◌≡◌, ◌++◌, ◌∙◌, List, ap}
use Rattle.std.proofs.lemmas.Result.{on_ok_weaker}
use Rattle.ot_model.specs.Programs.{expanded_of}
use Rattle.ot_model.specs.View.{stmts_of}
use Rattle.ot_show_print.specs.Shown.{Text}
use Rattle.ot_show_print.proofs.WordLemmas.{grown}
use Rattle.ot_show_c.specs.Programs.{words_if}
use Rattle.ot_show_c.specs.Named.{body_calls}
use Rattle.ot_show_c.specs.Programs as written
use Rattle.ot_show_c.specs.declared.named.Call.TheVariants as call
use Rattle.ot_show_c.proofs.whole.functions.Goals as goal

pub returns-clause-text : goal.returns-clause-text
returns-clause-text c =
    let a = c.args.out.now in
    let p = expanded_of c.args.program.now in
    let one : List Text → Text = λ n. words_if (body_calls call.Min p.body) written.min_text in
    let two : List Text → Text = λ n. words_if (body_calls call.Max p.body) written.max_text in
    let three : List Text → Text = λ n. words_if (written.any_shown p.shows) written.show_text in
    let is1 : c.body_calls.result ≡ body_calls call.Min p.body = c.body_calls.ensures ∙ ap (λ ss. body_calls call.Min (stmts_of ss)) c.deref.ensures.value in
    let is2 : c.body_calls-2.result ≡ body_calls call.Max p.body = c.body_calls-2.ensures ∙ ap (λ ss. body_calls call.Max (stmts_of ss)) c.deref-2.ensures.value in
    let is3 : c.any_shown.result ≡ written.any_shown p.shows = c.any_shown.ensures ∙ ap written.any_shown c.deref-3.ensures.value in
    let s1 : c.words_if.new.out.text ≡ a.text ++ one a.names = c.in_ok-words_if.ensures.text ∙ ap (λ b. a.text ++ words_if b written.min_text) is1 in
    let b = c.words_if.new.out in
    let s2 : c.words_if-2.new.out.text ≡ b.text ++ two b.names = c.in_ok-words_if-2.ensures.text ∙ ap (λ x. b.text ++ words_if x written.max_text) is2 in
    let t1 = grown one two a b c.words_if-2.new.out s1 c.words_if.ensures.names s2 in
    let n1 : c.words_if-2.new.out.names ≡ a.names = c.words_if-2.ensures.names ∙ c.words_if.ensures.names in
    let d = c.words_if-2.new.out in
    on_ok_weaker c.words_if-3.result (λ e. grown (λ n. one n ++ two n) three a d c.words_if-3.new.out t1 n1 (e ∙ ap (λ x. d.text ++ words_if x written.show_text) is3)) c.words_if-3.ensures.text
