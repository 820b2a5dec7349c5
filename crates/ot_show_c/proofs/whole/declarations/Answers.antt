use Rattle.std.proofs.Common.{◌≡◌, ◌++◌, ◌||◌, ◌<◌, ◌∷◌, ◌+◌, ◌∙◌, drop, length, min, ap, subst, arith, ◌≤◌}
use Rattle.std.proofs.lemmas.Result.{on_ok_weaker}
use Rattle.ot_model.specs.Programs.{expanded_of, arrays_of}
use Rattle.ot_show_c.specs.Programs.{any_declared, array_of, c_declared, declaration, words_if, declared_from, lists_of}
use Rattle.ot_show_c.specs.Named.{names}
use Rattle.ot_show_c.proofs.DeclaredLemmas.{left, text_step, any_step, none_left, ended, there}
use Rattle.ot_show_c.proofs.whole.declarations.Goals as goal

pub loop-number-preserved : goal.loop-number-preserved
loop-number-preserved c =
    let p = expanded_of c.args.program.now in
    let xs = c.args.arrays.now in
    let vs = c.args.before.now in
    let i = c.loop-number.number in
    let m = c.args.margin.now in
    let a = c.index-arrays-number.result in
    let v = c.index-before-number.result in
    let within : i < min (length xs) (length vs) = subst (λ n. i < n) c.min-number-end.ensures c.loop-number-test.true in
    let one : drop i xs ≡ a ∷ drop (i + 1) xs = there xs i a (omega arith) c.index-arrays-number.is in
    let two : drop i vs ≡ v ∷ drop (i + 1) vs = there vs i v (omega arith) c.index-before-number.is in
    let old = c.loop-number.out.text in
    let new : c.declaration_if.new.out.text ≡ old ++ words_if (names p i) (declaration m (c_declared (array_of a) v.items)) =
    c.in_ok-declaration_if.ensures.text ∙ ap (λ ns. old ++ words_if c.names-named.result (declaration m (c_declared (array_of a) ns))) c.deref.ensures.value
    ∙ ap (λ b. old ++ words_if b (declaration m (c_declared (array_of a) v.items))) c.names-named.ensures in (
      c.declaration_if.ensures.names ∙ c.loop-number.invariant.0,
      text_step m p i xs vs a v old c.declaration_if.new.out.text _ one two new c.loop-number.invariant.1,
      ap (λ b. (c.loop-number.any || b) || any_declared (left p (i + 1) xs vs)) c.names-named.ensures
          ∙ any_step p i xs vs a v c.loop-number.any (any_declared (declared_from p 0 (arrays_of xs) (lists_of vs))) one two c.loop-number.invariant.2,
    )

pub returns-clause-text : goal.returns-clause-text
returns-clause-text c =
    let p = expanded_of c.args.program.now in
    let xs = c.args.arrays.now in
    let vs = c.args.before.now in
    let i = c.loop-number.number in
    let behind : min (length xs) (length vs) ≤ i = subst (λ n. n ≤ i) c.min-number-end.ensures c.loop-number-test.false in
    on_ok_weaker c.words_if.result
    (λ e. ended c.args.margin.now (left p i xs vs) (declared_from p 0 (arrays_of xs) (lists_of vs)) c.loop-number.any c.loop-number.out.text c.words_if.new.out.text c.args.out.now.text (none_left p i xs vs behind) c.loop-number.invariant.1 c.loop-number.invariant.2 e)
    c.words_if.ensures.text
