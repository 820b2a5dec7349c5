use Rattle.std.proofs.Common.{◌<◌, length, ap, sym, ◌∙◌, inl, inr, arith}
use Rattle.std.specs.Prelude.{slice_get}
use Rattle.std.proofs.lemmas.Bool.{cases_eq}
use Rattle.ot_race.proofs.OrderLemmas.{some_is}
use Rattle.ot_race.proofs.PlaceLemmas.{place_read}
use Rattle.ot_race_locks.specs.Kinds.{kind_of}
use Rattle.ot_race_locks.proofs.GroupLemmas.{kind_is, kind_test, test_false}
use Rattle.ot_race_locks.proofs.ListLemmas.{got_of, map_got, got_within}
use Rattle.ot_race_locks.proofs.line.Line.find.Goals as goal

pub returns-then-is_of : goal.returns-then-is_of
returns-then-is_of c =
    let g = c.index.result.now in
    let groups = c.args.self.now.groups in
    let low : c.loop-place.place < length groups.items = omega (arith, c.loop-place-test.true, c.len-place-end.ensures, groups.ok.0) in (
      g,
      place_read groups.items c.loop-place.place g low c.index.ensures,
      kind_is g c.args.set c.args.mode (sym c.is_of.ensures ∙ c.if-is_of.true),
    )

pub loop-place-preserved : goal.loop-place-preserved
loop-place-preserved c = λ k g low at is.
    let groups = c.args.self.now.groups.items in
    let p = c.loop-place.place in
    let it = c.index.result.now in
    let here : p < length groups = omega (arith, c.loop-place-test.true, c.len-place-end.ensures, c.args.self.now.groups.ok.0) in
    elim (cases_eq k p) [
      | inl same ↦
          let one = some_is g it (sym at ∙ ap (slice_get groups) same ∙ place_read groups p it here c.index.ensures) in
          test_false _ (sym c.is_of.ensures ∙ c.if-is_of.false) (kind_test it c.args.set c.args.mode (ap kind_of (sym one) ∙ is))
      | inr apart ↦ c.loop-place.invariant k g (omega (arith, low, apart)) at is
    ]

pub returns : goal.returns
returns c = λ there.
    let groups = c.args.self.now.groups.items in
    let at = got_of _ _ there in
    let it = map_got kind_of groups at.0 _ at.1 in
    let l : at.0 < length groups = got_within groups at.0 it.0 it.1 in
    c.loop-place.invariant at.0 it.0 (omega (arith, l, c.loop-place-test.false, c.len-place-end.ensures, c.args.self.now.groups.ok.0)) it.1 it.2
