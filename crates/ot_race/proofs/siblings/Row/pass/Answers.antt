use Rattle.std.proofs.Common.{◌∙◌, refl, sym}
use Rattle.ot_race.specs.declared.siblings.Row.{Row}
use Rattle.ot_race.proofs.RowLemmas.{written_only, written_kept, read_only, read_kept}
use Rattle.ot_race.proofs.siblings.Row.pass.Goals as goal

pub returns-in_ok-keep_going_on-2-clause-only : goal.returns-in_ok-keep_going_on-2-clause-only
returns-in_ok-keep_going_on-2-clause-only c =
    let new : Row = record { writers = c.keep_going_on.new.tasks; users = c.keep_going_on-then-is_write.new.tasks } in
    written_only c.args.at.ends.now c.args.at.number c.args.self.now new c.in_ok-keep_going_on.ensures c.in_ok-keep_going_on-2.ensures

pub returns-in_ok-keep_going_on-2-clause-kept : goal.returns-in_ok-keep_going_on-2-clause-kept
returns-in_ok-keep_going_on-2-clause-kept c =
    let new : Row = record { writers = c.keep_going_on.new.tasks; users = c.keep_going_on-then-is_write.new.tasks } in
    written_kept c.args.at.ends.now c.args.at.number c.args.mode c.args.self.now new (sym c.is_write.ensures ∙ c.if-is_write.true) c.in_ok-keep_going_on.ensures
    c.in_ok-keep_going_on-2.ensures

pub returns-else-is_write-clause-only : goal.returns-else-is_write-clause-only
returns-else-is_write-clause-only c =
    let new : Row = record { writers = c.keep_going_on.new.tasks; users = c.args.self.now.users } in
    read_only c.args.at.ends.now c.args.at.number c.args.self.now new c.in_ok-keep_going_on.ensures refl

pub returns-else-is_write-clause-kept : goal.returns-else-is_write-clause-kept
returns-else-is_write-clause-kept c =
    let new : Row = record { writers = c.keep_going_on.new.tasks; users = c.args.self.now.users } in
    read_kept c.args.at.ends.now c.args.at.number c.args.mode c.args.self.now new c.in_ok-keep_going_on.ensures refl
