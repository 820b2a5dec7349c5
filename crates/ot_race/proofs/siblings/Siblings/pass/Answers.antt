use Rattle.std.proofs.Common.{◌≡◌, ◌+◌, [], ◌∷◌, ◌++◌, take, get_or, sym, subst}
use Rattle.std.proofs.lemmas.List.{take_all, take_more}
use Rattle.ot_race.specs.Siblings.{HavePassed}
use Rattle.ot_race.proofs.RowLemmas.{some_use, nothing_passed, more_passed}
use Rattle.ot_race.proofs.siblings.Siblings.pass.Goals as goal

pub loop-used-init : goal.loop-used-init
loop-used-init c = nothing_passed c.args.at.ends.now c.args.at.number c.args.parent [] c.args.self.now

pub loop-used-preserved : goal.loop-used-preserved
loop-used-preserved c =
    let uses = c.args.uses.now in
    let i = c.loop-used.used-index in
    let used = get_or uses i some_use in
    let more : take (i + 1) uses ≡ take i uses ++ used ∷ [] = take_more uses i some_use c.loop-used-test.true in
    subst (λ us. HavePassed c.args.at.ends.now c.args.at.number c.args.parent us c.args.self.now c.pass_one.new.self) (sym more)
    (more_passed c.args.at.ends.now c.args.at.number c.args.parent (take i uses) (used ∷ []) c.args.self.now c.loop-used.self c.pass_one.new.self c.loop-used.invariant c.in_ok-pass_one.ensures)

pub returns : goal.returns
returns c =
    subst (λ us. HavePassed c.args.at.ends.now c.args.at.number c.args.parent us c.args.self.now c.loop-used.self)
    (take_all c.loop-used.used-index c.args.uses.now c.loop-used-test.false) c.loop-used.invariant
