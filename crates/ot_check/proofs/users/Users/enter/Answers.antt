use Rattle.std.proofs.Common.{◌≡◌, ◌||◌, [], suc, length, map, Some, ap, sym, subst, ◌∙◌, arith}
use Rattle.std.specs.List.{list_any}
use Rattle.ot_check.specs.walk.States.{users_at}
use Rattle.ot_check.specs.walk.Rows.{users_in, HaveRows, found_at, widths}
use Rattle.ot_check.proofs.WalkLemmas.{on_ok}
use Rattle.ot_check.proofs.RowLemmas.{widths-map, widths-rows, users-read, have-set, set-here, set-old, set-others, have-pushed, pushed-here, pushed-others}
use Rattle.ot_check.proofs.users.Users.enter.Goals as goal

pub invariant_of-self : goal.invariant_of-self
invariant_of-self c =
    have-set c.self.inside.rows.items c.self.inside.places c.self.invariant c.args.cell c.at-place.result c.index_mut.result.now c.enter.new.self
    c.if-place-gt0.true c.at-place.ensures c.index_mut.ensures.value c.enter.ensures.cell

pub returns-then-place-gt0-clause-widths : goal.returns-then-place-gt0-clause-widths
returns-then-place-gt0-clause-widths c =
    on_ok c.enter.result _ _ (λ entered. widths-rows _ (users_in c.self.inside.rows.items) c.self.inside.places ∙ ap widths c.self.view_is) c.enter.ensures.users

pub returns-then-place-gt0-clause-there : goal.returns-then-place-gt0-clause-there
returns-then-place-gt0-clause-there c =
    on_ok c.enter.result _ _ (λ entered test.
    ap (list_any test) (set-here c.self.inside.rows.items c.self.inside.places c.self.invariant c.args.cell c.at-place.result c.index_mut.result.now c.enter.new.self
    c.if-place-gt0.true c.at-place.ensures c.index_mut.ensures.value c.enter.ensures.cell)
    ∙ entered test
    ∙ ap (λ users. list_any test users || test c.args.user)
    (sym (set-old c.self.inside.rows.items c.self.inside.places c.self.invariant c.args.cell c.at-place.result c.index_mut.result.now c.enter.new.self
    c.if-place-gt0.true c.at-place.ensures c.index_mut.ensures.value c.enter.ensures.cell) ∙ ap (λ users. users_at users c.args.cell) c.self.view_is))
    c.enter.ensures.users

pub returns-then-place-gt0-clause-others : goal.returns-then-place-gt0-clause-others
returns-then-place-gt0-clause-others c =
    on_ok c.enter.result _ _ (λ entered other apart.
    set-others c.self.inside.rows.items c.self.inside.places c.self.invariant c.args.cell c.at-place.result c.index_mut.result.now c.enter.new.self
    c.if-place-gt0.true c.at-place.ensures c.index_mut.ensures.value c.enter.ensures.cell other apart
    ∙ ap (λ users. found_at users other) c.self.view_is) c.enter.ensures.users

pub invariant_of-self-in_err-push : goal.invariant_of-self-in_err-push
invariant_of-self-in_err-push c = subst (λ rows. HaveRows rows c.self.inside.places) (sym c.in_err-push.ensures.items) c.self.invariant

pub invariant_of-self-2 : goal.invariant_of-self-2
invariant_of-self-2 c =
    let rows = c.self.inside.rows.items in
    let e : c.len-last.result ≡ suc (length rows) = omega (arith, c.len-last.ensures, c.in_ok-push.ensures.len, c.self.inside.rows.ok.0) in
    subst (λ rows. HaveRows rows c.set.new.self) (sym c.in_ok-push.ensures.items)
    (have-pushed rows c.self.inside.places c.self.invariant c.set.new.self c.args.cell c.of.result c.of.ensures.cell
    (c.set.ensures.there ∙ ap Some e) c.set.ensures.others)

pub returns-clause-widths : goal.returns-clause-widths
returns-clause-widths c =
    widths-map (users_in c.push.new.self.items) c.set.new.self ∙ c.set.ensures.widths
    ∙ sym (widths-map (users_in c.self.inside.rows.items) c.self.inside.places) ∙ ap widths c.self.view_is

pub returns-clause-there : goal.returns-clause-there
returns-clause-there c = λ test.
    let rows = c.self.inside.rows.items in
    let places = c.self.inside.places in
    let e : c.len-last.result ≡ suc (length rows) = omega (arith, c.len-last.ensures, c.in_ok-push.ensures.len, c.self.inside.rows.ok.0) in
    let zero_is : c.at-place.result ≡ 0 = omega (arith, c.if-place-gt0.false) in
    let none : users_at c.args.self.now c.args.cell ≡ [] =
    sym (ap (λ users. users_at users c.args.cell) c.self.view_is) ∙ users-read rows places c.args.cell 0 (c.at-place.ensures ∙ ap Some zero_is) in
    ap (λ rows. list_any test (users_at (map (map (users_in rows)) c.set.new.self) c.args.cell)) c.in_ok-push.ensures.items
    ∙ ap (list_any test) (pushed-here rows places c.self.invariant c.set.new.self c.args.cell c.of.result c.of.ensures.cell
    (c.set.ensures.there ∙ ap Some e) c.set.ensures.others)
    ∙ c.of.ensures.users test ∙ ap (λ users. list_any test users || test c.args.user) (sym none)

pub returns-clause-others : goal.returns-clause-others
returns-clause-others c = λ other apart.
    let rows = c.self.inside.rows.items in
    let e : c.len-last.result ≡ suc (length rows) = omega (arith, c.len-last.ensures, c.in_ok-push.ensures.len, c.self.inside.rows.ok.0) in
    ap (λ rows. found_at (map (map (users_in rows)) c.set.new.self) other) c.in_ok-push.ensures.items
    ∙ pushed-others rows c.self.inside.places c.self.invariant c.set.new.self c.args.cell c.of.result c.of.ensures.cell
    (c.set.ensures.there ∙ ap Some e) c.set.ensures.others other apart
    ∙ ap (λ users. found_at users other) c.self.view_is
