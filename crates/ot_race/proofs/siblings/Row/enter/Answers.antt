use Rattle.std.proofs.Common.{◌∙◌, refl, sym}
use Rattle.ot_race.specs.declared.siblings.Row.{Row}
use Rattle.ot_race.proofs.RowLemmas.{writer_entered, user_entered}
use Rattle.ot_race.proofs.siblings.Row.enter.Goals as goal

pub returns-in_ok-push-clause-only : goal.returns-in_ok-push-clause-only
returns-in_ok-push-clause-only c =
    let old = c.args.self.now in
    let new : Row = record { writers = c.push.new.self; users = c.pass.new.self.users } in
    let e = writer_entered c.args.at.ends.now c.args.at.number c.args.child c.args.mode old c.pass.new.self new (sym c.is_write.ensures ∙ c.if-is_write.true) c.in_ok-pass.ensures.only c.in_ok-pass.ensures.kept
    c.in_ok-push.ensures.items refl in
    e.only

pub returns-in_ok-push-clause-kept : goal.returns-in_ok-push-clause-kept
returns-in_ok-push-clause-kept c =
    let old = c.args.self.now in
    let new : Row = record { writers = c.push.new.self; users = c.pass.new.self.users } in
    let e = writer_entered c.args.at.ends.now c.args.at.number c.args.child c.args.mode old c.pass.new.self new (sym c.is_write.ensures ∙ c.if-is_write.true) c.in_ok-pass.ensures.only c.in_ok-pass.ensures.kept
    c.in_ok-push.ensures.items refl in
    e.kept

pub returns-in_ok-push-2-clause-only : goal.returns-in_ok-push-2-clause-only
returns-in_ok-push-2-clause-only c =
    let old = c.args.self.now in
    let new : Row = record { writers = old.writers; users = c.push-else-is_write.new.self } in
    let e = user_entered c.args.at.ends.now c.args.at.number c.args.child c.args.mode old new (sym c.is_write.ensures ∙ c.if-is_write.false) refl c.in_ok-push-2.ensures.items in
    e.only

pub returns-in_ok-push-2-clause-kept : goal.returns-in_ok-push-2-clause-kept
returns-in_ok-push-2-clause-kept c =
    let old = c.args.self.now in
    let new : Row = record { writers = old.writers; users = c.push-else-is_write.new.self } in
    let e = user_entered c.args.at.ends.now c.args.at.number c.args.child c.args.mode old new (sym c.is_write.ensures ∙ c.if-is_write.false) refl c.in_ok-push-2.ensures.items in
    e.kept

pub returns-in_ok-push-2-clause-entered : goal.returns-in_ok-push-2-clause-entered
returns-in_ok-push-2-clause-entered c =
    let old = c.args.self.now in
    let new : Row = record { writers = old.writers; users = c.push-else-is_write.new.self } in
    let e = user_entered c.args.at.ends.now c.args.at.number c.args.child c.args.mode old new (sym c.is_write.ensures ∙ c.if-is_write.false) refl c.in_ok-push-2.ensures.items in
    e.entered
