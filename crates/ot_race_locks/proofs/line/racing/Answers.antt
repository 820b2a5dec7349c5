use Rattle.std.proofs.Common.{◌≡◌, ◌<◌, length, true, sym, ap, subst, ◌∙◌, inl, inr, arith}
use Rattle.std.specs.Prelude.{Contains, slice_get}
use Rattle.std.proofs.lemmas.Bool.{cases_eq}
use Rattle.ot_race.proofs.OrderLemmas.{some_is}
use Rattle.ot_race.proofs.PlaceLemmas.{place_read}
use Rattle.ot_race_locks.specs.Kinds.{kind, kind_of, are_against}
use Rattle.ot_race_locks.specs.declared.group.Group.{Group}
use Rattle.ot_race_locks.proofs.GroupLemmas.{test_false}
use Rattle.ot_race_locks.proofs.ListLemmas.{got_of, got_within}
use Rattle.ot_race_locks.proofs.line.racing.Goals.{then-is_against+in_default, else-is_against}
use Rattle.ot_race_locks.proofs.line.racing.Goals as goal

pub returns-in-Some : goal.returns-in-Some
returns-in-Some c = record {
  group = c.group-item.result;
  there = (c.loop-group.group-index, c.loop-group-test.true, sym c.group-item.is);
  against = sym c.is_against.ensures ∙ c.if-is_against.true;
  tip = subst (λ xs. Contains xs c.in-Some.tip) c.deref.ensures.value c.in-Some.ensures.0;
  missing = c.in-Some.ensures.1;
}

pub loop-group-preserved : goal.loop-group-preserved
loop-group-preserved c = λ k e g low at against l from.
    let groups = c.args.groups.now in
    let p = c.loop-group.group-index in
    let it = c.group-item.result in
    elim (cases_eq k p) [
      | inl same ↦
          let is : g ≡ it = some_is g it (sym at ∙ ap (slice_get groups) same ∙ place_read groups p it c.loop-group-test.true c.group-item.is) in
          let here = subst (λ (x : Group). Contains x.tips.items e) is l in
          let apart : are_against c.args.locks.now (kind_of it) (kind c.args.set c.args.mode) ≡ true =
          ap (λ x. are_against c.args.locks.now (kind_of x) (kind c.args.set c.args.mode)) (sym is) ∙ against in
          elim c.if-is_against.branch [
            | then-is_against+in_default w ↦ w.in_default.ensures e (subst (λ xs. Contains xs e) (sym w.deref.ensures.value) here) from
            | else-is_against w ↦ absurd (test_false _ (sym c.is_against.ensures ∙ w.if-is_against.false) apart)
          ]
      | inr apart ↦ c.loop-group.invariant k e g (omega (arith, low, apart)) at against l from
    ]

pub returns : goal.returns
returns c = record {
  from = c.last_known-from.result;
  is_from = c.last_known-from.ensures;
  none = λ g e l against t from.
      let groups = c.args.groups.now in
      let at = got_of groups g l in
      let within : at.0 < length groups = got_within groups at.0 g at.1 in
      c.loop-group.invariant at.0 e g (omega (arith, within, c.loop-group-test.false)) at.1 against t from;
}
