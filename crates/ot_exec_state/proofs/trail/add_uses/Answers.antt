use Rattle.std.proofs.Common.{◌≡◌, ◌∙◌, ℕ, ◌+◌, ◌-◌, ◌++◌, ◌∷◌, [], List, ap, append_assoc, arith, sym, map}
use Rattle.std.specs.List.{range_with_len}
use Rattle.std.proofs.lemmas.List.FromFn.{map-range_with_len_more}
use Rattle.ot_model.specs.declared.stmt.Use.{Use}
use Rattle.ot_parts.specs.Modes.{use_as}
use Rattle.ot_exec_state.specs.Memory.{cell}
use Rattle.ot_exec_state.proofs.trail.add_uses.Goals as goal

pub loop-index-preserved : goal.loop-index-preserved
loop-index-preserved c =
    let start = c.args.span.index in
    let index = c.loop-index.index in
    let n : ℕ = index - start in
    let old = c.args.uses.now.items in
    let f = λ (x : ℕ). use_as c.args.mode (cell c.args.span.object x) in
    let more : index + 1 - start ≡ n + 1 = omega arith in
    let here : start + n ≡ index = omega arith in (
      c.in_ok-note.ensures ∙ ap (λ (us : List Use). us ++ f index ∷ []) c.loop-index.invariant.0
          ∙ append_assoc old (map f (range_with_len start n)) (f index ∷ [])
          ∙ ap (λ (us : List Use). old ++ us) (sym (map-range_with_len_more f start n index here))
          ∙ ap (λ (k : ℕ). old ++ map f (range_with_len start k)) (sym more),
      omega arith,
    )

pub returns : goal.returns
returns c =
    let start = c.args.span.index in
    let old = c.args.uses.now.items in
    let f = λ (x : ℕ). use_as c.args.mode (cell c.args.span.object x) in
    let all : c.loop-index.index - start ≡ c.args.span.end - start = omega arith in
    c.loop-index.invariant.0 ∙ ap (λ (k : ℕ). old ++ map f (range_with_len start k)) all
