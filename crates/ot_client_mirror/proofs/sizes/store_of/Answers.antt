use Rattle.std.proofs.Common.{◌≡◌, ◌+◌, ◌<◌, [], ◌∷◌, ◌++◌, Err, drop, sym, ap, ◌∙◌, subst, arith}
use Rattle.std.specs.Prelude.{string_bytes}
use Rattle.ot_model.specs.Programs.{arrays_of}
use Rattle.ot_store.specs.Arrays.{array_created}
use Rattle.ot_store.specs.Refusals.{Fails, usual_limits}
use Rattle.ot_client_mirror.specs.Mirrors.{MayHave, Sizes}
use Rattle.ot_client_mirror.proofs.StoreLemmas.{may_have-more, may_not-refused, may_not-empty, taken-more, split_at}
use Rattle.ot_client_mirror.proofs.sizes.store_of.Goals as goal

pub returns-then-array-eq0 : goal.returns-then-array-eq0
returns-then-array-eq0 c = λ may.
    let i = c.loop-array.array-index in
    let a = c.array-item.result in
    may_not-empty _ (string_bytes a.name) a.len _ c.if-array-eq0.true (subst MayHave (split_at c.args.arrays.now i a c.loop-array-test.true c.array-item.is) may)

pub returns-in-Err-Refused : goal.returns-in-Err-Refused
returns-in-Err-Refused c = λ may.
    let i = c.loop-array.array-index in
    let a = c.array-item.result in
    let rest = arrays_of (drop (i + 1) c.args.arrays.now) in
    let refused = subst (λ fault. Fails fault (array_created c.as_str.result.now a.len c.usual-limits.result c.loop-array.store)) c.in-Err-Refused.field-0-is c.in-Err-Refused.ensures.refused in
    let plain : array_created (string_bytes a.name) a.len usual_limits c.loop-array.store ≡ Err c.in-Err-Refused.field-0-0 =
    ap (λ n. array_created n a.len usual_limits c.loop-array.store) (sym c.as_str.ensures.value)
    ∙ ap (λ l. array_created c.as_str.result.now a.len l c.loop-array.store) (sym c.usual-limits.ensures) ∙ refused in
    may_not-refused c.loop-array.store (string_bytes a.name) a.len rest _ plain
    (subst MayHave (split_at c.args.arrays.now i a c.loop-array-test.true c.array-item.is ∙ ap (λ (t : Sizes). t ++ (string_bytes a.name, a.len) ∷ rest) (sym c.loop-array.invariant.0)) may)

pub loop-array-preserved : goal.loop-array-preserved
loop-array-preserved c =
    let i = c.loop-array.array-index in
    let a = c.array-item.result in
    let some : 0 < a.len = omega (arith, c.if-array-eq0.false) in
    let made =
    ap (λ n. array_created n a.len usual_limits c.loop-array.store) (sym c.as_str.ensures.value)
    ∙ ap (λ l. array_created c.as_str.result.now a.len l c.loop-array.store) (sym c.usual-limits.ensures) ∙ c.in-Ok.ensures.ok in
    let more = may_have-more c.loop-array.store c.create.new.self (string_bytes a.name) a.len some made c.loop-array.invariant.1 in (
      more.0 ∙ ap (λ (t : Sizes). t ++ (string_bytes a.name, a.len) ∷ []) c.loop-array.invariant.0 ∙ sym (taken-more c.args.arrays.now i a c.loop-array-test.true c.array-item.is),
      more.1,
    )
