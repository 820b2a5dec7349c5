use Rattle.std.proofs.Common.{[], ap, sym, subst, map, ◌∙◌}
use Rattle.ot_model.specs.Programs.{arrays_of}
use Rattle.ot_check.specs.walk.Rows.{users_in, HaveRows}
use Rattle.ot_check.proofs.RowLemmas.{have-none, map-filled}
use Rattle.ot_check.proofs.users.Users.new.Goals as goal

pub invariant_of-result : goal.invariant_of-result
invariant_of-result c =
    subst (λ rows. HaveRows rows c.in_ok-places.places) (sym c.new-2.ensures.items)
    (subst (HaveRows []) (sym c.in_ok-places.ensures) (have-none (map (λ a. a.1) (arrays_of c.args.arrays.now))))

pub returns : goal.returns
returns c =
    ap (λ rows. map (map (users_in rows)) c.in_ok-places.places) c.new-2.ensures.items
    ∙ ap (map (map (users_in []))) c.in_ok-places.ensures ∙ map-filled (users_in []) 0 (map (λ a. a.1) (arrays_of c.args.arrays.now))
