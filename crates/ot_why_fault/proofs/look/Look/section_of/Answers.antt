use Rattle.std.proofs.Common.{rules}
use Rattle.serde_json.specs.View.{view}
use Rattle.ot_why_fault.specs.Walk.{told_by, shape_by, variables_by}
use Rattle.ot_why_fault.proofs.PartLemmas.{section_told}
use Rattle.ot_why_fault.proofs.look.Look.section_of.Goals as goal

pub returns-clause-first : goal.returns-clause-first
returns-clause-first c =
    section_told (shape_by c.args.self.now) (variables_by c.args.self.now) (view c.args.name.now) (view c.args.start.now) (view c.args.len.now)
    _ (told_by c.array-array.new.first) (told_by c.size-from.new.first) (told_by c.size-count.new.first) (told_by c.unless.new.self)
    (told_by c.unless-2.new.self) (told_by c.shallow.new.self) _ _ c.array-array.result.len _ _ c.saturating_add.result _ _
    c.array-array.ensures.name c.array-array.ensures.len (search rules) c.array-array.ensures.first c.size-from.ensures.number c.size-from.ensures.first
    c.size-count.ensures.number c.size-count.ensures.first (search rules) (search rules) c.unless.ensures
    (search rules) c.unless-2.ensures c.shallow.ensures c.shallow-2.ensures
