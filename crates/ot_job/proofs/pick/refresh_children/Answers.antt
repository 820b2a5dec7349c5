use Rattle.std.proofs.Common.{◌≡◌, ◌∙◌, ◌||◌, ◌==◌, Bool, ap, sym, subst, arith, inl, inr, take, get_or, true, false, true≢false, []}
use Rattle.ot_job.proofs.Common.{cases_eq, eqb-true, has, at, is_claimable, members, told_put, put-here, put-other}
use Rattle.std.proofs.lemmas.List.Folds.{list_any_more}
use Rattle.ot_job.proofs.pick.refresh_children.Goals as goal

-- what is among the first of a list and one more, and isn't that one, is among the first
first-or : (a b : Bool) → (a || b) ≡ true → (b ≡ true → ⊥) → a ≡ true
first-or true b h no_more = h
first-or false b h no_more = absurd (no_more h)

pub loop-child-init : goal.loop-child-init
loop-child-init c = λ old tells. record { test = old; tells = tells; told = λ k pos h up there. absurd (true≢false (sym there)); others = λ k was. was }

pub child-number-requires : goal.child-number-requires
child-number-requires c =
    let now = c.loop-child.invariant c.requires.told.0 c.requires.told.1 in
    omega (arith, c.requires.children c.loop-child.child-index 0 c.loop-child-test.true, now.tells.numbered.kids c.args.parent)

pub is_claimable-requires : goal.is_claimable-requires
is_claimable-requires c =
    let now = c.loop-child.invariant c.requires.told.0 c.requires.told.1 in
    omega (arith, c.child-number.ensures, now.tells.numbered.known c.args.parent (get_or c.args.children.now c.loop-child.child-index 0) (c.requires.children c.loop-child.child-index 0 c.loop-child-test.true))

pub mark-requires : goal.mark-requires
mark-requires c =
    let now = c.loop-child.invariant c.requires.told.0 c.requires.told.1 in
    omega (
      arith,
      c.child-number.ensures,
      now.tells.numbered.known c.args.parent (get_or c.args.children.now c.loop-child.child-index 0) (c.requires.children c.loop-child.child-index 0 c.loop-child-test.true),
      now.tells.numbered.long,
    )

pub loop-child-preserved : goal.loop-child-preserved
loop-child-preserved c = λ old tells.
    let tasks = c.args.tasks.now in
    let xs = c.args.children.now in
    let i = c.loop-child.child-index in
    let number = c.child-number.result in
    let now = c.loop-child.invariant old tells in
    record {
      test = told_put now.test number c.is_claimable.result;
      tells = c.mark.ensures _ (members tasks) now.test now.tells;
      told = λ k pos h up there. elim (cases_eq k number) [
        | inl is ↦ subst (λ j. told_put now.test number c.is_claimable.result j ≡ is_claimable tasks j) (sym is) (put-here now.test number c.is_claimable.result ∙ c.is_claimable.ensures)
        | inr apart ↦ put-other now.test number c.is_claimable.result k apart ∙ now.told k pos h up (first-or (has (at tasks k).child (take i xs)) (get_or xs i 0 == (at tasks k).child)
            (sym (list_any_more (λ x. x == (at tasks k).child) xs i 0 c.loop-child-test.true) ∙ there) (λ same. apart (sym (now.tells.numbered.is k pos h)
            ∙ ap (λ p. get_or (get_or c.loop-child.roster.numbers p []) (at tasks k).child 0) up ∙ ap (λ n. get_or (get_or c.loop-child.roster.numbers c.args.parent []) n 0) (sym (eqb-true (get_or xs i 0) (at tasks k).child same)) ∙ sym c.child-number.ensures)))
      ];
      others = λ k was. elim (cases_eq k number) [
        | inl is ↦ subst (λ j. told_put now.test number c.is_claimable.result j ≡ is_claimable tasks j) (sym is) (put-here now.test number c.is_claimable.result ∙ c.is_claimable.ensures)
        | inr apart ↦ put-other now.test number c.is_claimable.result k apart ∙ now.others k was
      ];
    }
