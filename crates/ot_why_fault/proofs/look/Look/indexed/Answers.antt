use Rattle.std.proofs.Common.{rules}
use Rattle.serde_json.specs.View.{view}
use Rattle.ot_why_fault.specs.Walk.{told_by, shape_by, variables_by}
use Rattle.ot_why_fault.proofs.PartLemmas.{indexed_told}
use Rattle.ot_why_fault.proofs.look.Look.indexed.Goals as goal

pub returns : goal.returns
returns c =
    indexed_told (shape_by c.args.self.now) (variables_by c.args.self.now) (view c.args.name.now) (view c.args.index.now)
    _ (told_by c.array-array.new.first) (told_by c.size-at.new.first) (told_by c.unless.new.self) _ _ _ _ _
    c.array-array.ensures.name c.array-array.ensures.len c.array-array.ensures.first c.size-at.ensures.number c.size-at.ensures.first
    (search rules) c.unless.ensures c.shallow.ensures
